use Rattle.std.proofs.Common.{cond}
use Rattle.std.specs.Prelude.{Some, None, is_some}
use Rattle.hashed_changes.specs.declared.places.Affected.{Affected}
use Rattle.hashed_changes.specs.Places.{fresh_places}
use Rattle.hashed_changes.proofs.EntriesMade.{one_more_entry}
use Rattle.hashed_changes.proofs.places.fresh_places.Goals as goal

pub loop-one-preserved : goal.loop-one-preserved
loop-one-preserved c =
    one_more_entry (λ (a : Affected). cond (is_some a.types) (Some a.place) None) c.args.affected.now c.loop-one.one-index c.one-item.result c.loop-one.places.items c.push_if_fresh.new.places.items
    (fresh_places c.args.affected.now) c.loop-one-test.true c.one-item.is c.in_ok-push_if_fresh.ensures.ok c.loop-one.invariant
