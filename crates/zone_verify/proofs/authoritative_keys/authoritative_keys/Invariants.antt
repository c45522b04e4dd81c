use Rattle.std.proofs.Common.{◌≡◌, ◌++◌, map}
use Rattle.std.specs.Prelude.{None, option_map, option_copied}
use Rattle.std.specs.Map.{keys_of}
use Rattle.zone_proto.specs.Types.{NSEC3}
use Rattle.zone_denial.specs.Chains.{chain_sets}
use Rattle.zone_denial.proofs.Sets.CircleKeys.{kept}
use Rattle.zone_verify.specs.ChainSets.{kind_of, sets_of}
use Rattle.zone_verify.proofs.authoritative_keys.authoritative_keys.Given as goal

-- the keys so far, and those that count of what is left, are all that count
abbrev pub invariant-loop-key : goal.invariant-loop-key
invariant-loop-key l =
    map (λ k. k.now) l.keys.items ++ kept l.origin NSEC3 (option_map (λ a. a.now) l.cut) (keys_of (chain_sets (kind_of (option_copied l.sets.parameters)) l.key-iterator))
    ≡ kept l.origin NSEC3 None (keys_of (sets_of l.sets))
