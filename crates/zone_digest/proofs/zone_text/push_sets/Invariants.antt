use Rattle.std.proofs.Common.{map}
use Rattle.std.specs.Prelude.{option_copied}
use Rattle.zone_digest.proofs.Runs.{IsCollected}
use Rattle.zone_digest.proofs.zone_text.push_sets.Given as goal

abbrev pub invariant-loop-key : goal.invariant-loop-key
invariant-loop-key l = IsCollected l.own l.fn.out.items l.records l.key-iterator (map (λ s. s.now) l.sets.items) (option_copied l.last) l.out.items
