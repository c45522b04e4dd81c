use Rattle.std.proofs.Common.{◌≡◌, map, take}
use Rattle.zone_denial.proofs.type_list.fill_signed.Given as goal

-- the list has the types of the keys passed
abbrev pub invariant-loop-key : goal.invariant-loop-key
invariant-loop-key l = map (λ t. t.0) l.types.items ≡ map (λ k. k.now.record_type.0) (take l.key-index l.keys)
