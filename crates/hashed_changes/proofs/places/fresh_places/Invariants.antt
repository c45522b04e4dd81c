use Rattle.std.proofs.Common.{◌≡◌, ◌++◌, drop}
use Rattle.hashed_changes.specs.Places.{fresh_places}
use Rattle.hashed_changes.proofs.places.fresh_places.Given as goal

-- those so far, and those of the affected names that are left, are all
abbrev pub invariant-loop-one : goal.invariant-loop-one
invariant-loop-one l = l.places.items ++ fresh_places (drop l.one-index l.affected) ≡ fresh_places l.affected
