use Rattle.std.proofs.Common.{◌≡◌, ◌++◌, drop, map}
use Rattle.std.specs.Prelude.{flat_map, IfSome}
use Rattle.hashed_changes.specs.declared.renewals.Renewal.{Renewal}
use Rattle.hashed_changes.specs.Passing.{IsPassed}
use Rattle.hashed_changes.specs.Places.{owners_of}
use Rattle.hashed_changes.specs.Renewal.{with_nearest, with_all_nearest}
use Rattle.hashed_changes.specs.Renewals.{AreRight}
use Rattle.hashed_changes.proofs.renewals.renewals.Given as goal

-- those so far are right, with those of the places that are left they are all, and the last one was passed
abbrev pub invariant-loop-one : goal.invariant-loop-one
invariant-loop-one l = record {
  owners : map (λ (r : Renewal). r.owner) l.made.items ++ flat_map (with_nearest l.zone (owners_of l.affected)) (owners_of (drop l.one-index l.affected)) ≡ with_all_nearest l.zone (owners_of l.affected);
  right : AreRight l.origin l.zone l.affected l.made.items;
  last : IfSome l.last (IsPassed l.origin l.zone (owners_of l.affected));
}
