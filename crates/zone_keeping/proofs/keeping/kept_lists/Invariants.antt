use Rattle.zone_keeping.proofs.KeptOver.{IsKeeping}
use Rattle.zone_keeping.proofs.keeping.kept_lists.Given as goal

abbrev pub invariant-loop-key : goal.invariant-loop-key
invariant-loop-key l = IsKeeping l.span l.usable l.old l.records l.key-iterator l.lists.items
