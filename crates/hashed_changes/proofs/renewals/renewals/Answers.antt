use Rattle.std.proofs.Common.{map}
use Rattle.hashed_changes.specs.declared.renewals.Renewal.{Renewal}
use Rattle.hashed_changes.specs.Places.{owners_of}
use Rattle.hashed_changes.specs.Renewal.{with_nearest, with_all_nearest}
use Rattle.hashed_changes.specs.Faults.{StandsForNone}
use Rattle.hashed_changes.proofs.Closed.{passed_on}
use Rattle.hashed_changes.proofs.RightMade.{one_more_owner}
use Rattle.hashed_changes.proofs.renewals.renewals.Goals as goal

pub loop-one-preserved : goal.loop-one-preserved
loop-one-preserved c = record {
  owners =
      one_more_owner (with_nearest c.args.zone.now (owners_of c.args.affected.now)) c.args.affected.now c.loop-one.one-index c.one-item.result
      (map (λ (r : Renewal). r.owner) c.loop-one.made.items) (map (λ (r : Renewal). r.owner) c.push_renewals.new.made.items) (with_all_nearest c.args.zone.now (owners_of c.args.affected.now))
      c.loop-one-test.true c.one-item.is c.in_ok-passed.ensures.owners c.loop-one.invariant.owners;
  right = c.in_ok-passed.ensures.right c.loop-one.invariant.right;
  last = c.in_ok-passed.ensures.passed;
}

pub returns-in_err-passed-clause-unclosed : goal.returns-in_err-passed-clause-unclosed
returns-in_err-passed-clause-unclosed c =
    passed_on c.from_residual-in_err-passed.result _ (StandsForNone c.args.origin.now c.args.zone.now c.args.affected.now) c.from_residual-in_err-passed.ensures.1 c.in_err-passed.ensures.unclosed
