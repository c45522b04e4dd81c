use Rattle.std.proofs.Common.{ℕ, List}
use Rattle.hashed_changes.specs.Places.{owners_of}
use Rattle.hashed_changes.specs.Standing.{IsFollowed}
use Rattle.hashed_changes.proofs.Closed.{IsOnWay}
use Rattle.hashed_changes.proofs.places.kept_after.Given as goal

-- what follows the owner that was reached follows the first one, and it was reached in so many steps
abbrev pub invariant-loop-step : goal.invariant-loop-step
invariant-loop-step l = record {
  follow : (d : List ℕ) → IsFollowed l.origin l.zone (owners_of l.affected) l.at d → IsFollowed l.origin l.zone (owners_of l.affected) l.owner d;
  way : IsOnWay l.origin l.zone l.affected l.owner l.at l._step;
}
