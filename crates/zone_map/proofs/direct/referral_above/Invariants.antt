use Rattle.std.proofs.Common.{◌≡◌, length}
use Rattle.zone_map.specs.Walks.{referral_above}
use Rattle.zone_map.proofs.direct.referral_above.Given as goal

-- the names that were passed have the referral of what is left, and the key is the least of its name
abbrev pub invariant-loop-key : goal.invariant-loop-key
invariant-loop-key l = record {
  left : referral_above l.records l.key.name ≡ referral_above l.records l.initial.key.name;
  type_zero : l.key.record_type.0 ≡ 0;
}

abbrev pub decreases-loop-key : goal.decreases-loop-key
decreases-loop-key l = length l.key.name
