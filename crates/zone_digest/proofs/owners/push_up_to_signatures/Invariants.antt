use Rattle.std.proofs.Common.{◌≡◌, ◌++◌, drop, map, filter}
use Rattle.std.specs.Prelude.{flat_map, nat_le}
use Rattle.zone_proto.specs.Types.{RRSIG}
use Rattle.zone_digest.specs.ZoneText.{own_text}
use Rattle.zone_digest.proofs.owners.push_up_to_signatures.Given as goal

-- what is written, and behind it what the sets that are left become
abbrev pub invariant-loop-set : goal.invariant-loop-set
invariant-loop-set l = l.out.items ++ flat_map own_text (filter (λ s. nat_le s.record_type RRSIG) (map (λ s. s.now) (drop l.set-index l.sets))) ≡ l.fn.out.items ++ flat_map own_text (filter (λ s. nat_le s.record_type RRSIG) (map (λ s. s.now) l.sets))
