use Rattle.std.proofs.Common.{◌≡◌, ◌++◌, map}
use Rattle.std.specs.Prelude.{None, option_map}
use Rattle.std.specs.Map.{keys_of}
use Rattle.zone_denial.proofs.Sets.CircleKeys.{kept}
use Rattle.zone_denial.proofs.authoritative_keys.authoritative_keys.Given as goal

-- the keys so far, and those that count of what is left, are all that count
abbrev pub invariant-loop-key : goal.invariant-loop-key
invariant-loop-key l =
    map (λ k. k.now) l.keys.items ++ kept l.origin l.denial.0 (option_map (λ a. a.now) l.cut) (keys_of l.key-iterator)
    ≡ kept l.origin l.denial.0 None (keys_of l.records)
