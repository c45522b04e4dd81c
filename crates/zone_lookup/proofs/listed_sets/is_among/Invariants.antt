use Rattle.std.proofs.Common.{◌≡◌, false, take}
use Rattle.std.specs.List.{list_any}
use Rattle.zone_proto.specs.Sets.{same_set}
use Rattle.zone_lookup.specs.FoundSets.{found_set}
use Rattle.zone_lookup.proofs.listed_sets.is_among.Given as goal

-- none of those passed is equal
abbrev pub invariant-loop-listed : goal.invariant-loop-listed
invariant-loop-listed l = list_any (λ f. same_set (found_set f) l.set) (take l.listed-index l.sets) ≡ false
