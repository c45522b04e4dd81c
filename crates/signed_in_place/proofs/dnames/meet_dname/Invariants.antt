use Rattle.std.proofs.Common.{◌≡◌}
use Rattle.std.specs.List.{list_any}
use Rattle.std.specs.Map.{keys_of}
use Rattle.signed_in_place.specs.InPlace.{meets_dname}
use Rattle.signed_in_place.proofs.dnames.meet_dname.Given as goal

-- one of those that are left meets a DNAME just where one of all does
abbrev pub invariant-loop-key : goal.invariant-loop-key
invariant-loop-key l = list_any (meets_dname l.origin l.zone) (keys_of l.key-iterator) ≡ list_any (meets_dname l.origin l.zone) (keys_of l.sets)
