use Rattle.std.proofs.Common.{◌≡◌, ◌++◌, drop, map}
use Rattle.std.specs.Prelude.{flat_map}
use Rattle.zone_digest.specs.ZoneText.{signatures_text}
use Rattle.zone_digest.proofs.owners.push_all_signatures.Given as goal

-- what is written, and behind it what the sets that are left become
abbrev pub invariant-loop-set : goal.invariant-loop-set
invariant-loop-set l = l.out.items ++ flat_map signatures_text (map (λ s. s.now) (drop l.set-index l.sets)) ≡ l.fn.out.items ++ flat_map signatures_text (map (λ s. s.now) l.sets)
