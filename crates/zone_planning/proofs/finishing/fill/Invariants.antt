use Rattle.zone_planning.proofs.HandedOver.{IsFilling}
use Rattle.zone_planning.proofs.finishing.fill.Given as goal

abbrev pub invariant-loop-set : goal.invariant-loop-set
invariant-loop-set l = IsFilling l.keys l.records l.signatures l.set-iterator l.place l.lists.items
