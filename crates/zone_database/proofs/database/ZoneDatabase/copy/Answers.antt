use Rattle.zone_origins.proofs.UnderNames.{one_copied, copied_under}
use Rattle.zone_database.specs.declared.zone.Zone.{Zone}
use Rattle.zone_database.proofs.database.ZoneDatabase.copy.Goals as goal

pub loop-origin-preserved-in_ok-insert : goal.loop-origin-preserved-in_ok-insert
loop-origin-preserved-in_ok-insert c =
    one_copied (λ (s : Zone). s) c.args.self.now.zones.entries c.loop-origin.zones.entries c.loop-origin.origin-iterator c.next.new.self c.insert.new.self.entries (c.in-Some.origin.now, c.in-Some.stored.now)
    c.in-Ok.origin c.in_ok-share.field-0 c.into_iter-origin-iterator.ensures.into_iter_gives.5 c.in-Some.ensures.steps c.in-Ok.ensures.copy.ok c.in_ok-share.ensures c.in_ok-insert.ensures.entries c.loop-origin.invariant

pub loop-origin-preserved : goal.loop-origin-preserved
loop-origin-preserved c =
    one_copied (λ (s : Zone). s) c.args.self.now.zones.entries c.loop-origin.zones.entries c.loop-origin.origin-iterator c.next.new.self c.insert.new.self.entries (c.in-Some.origin.now, c.in-Some.stored.now)
    c.in-Ok.origin c.in_ok-share.field-0 c.into_iter-origin-iterator.ensures.into_iter_gives.5 c.in-Some.ensures.steps c.in-Ok.ensures.copy.ok c.in_ok-share.ensures c.in_ok-insert.ensures.entries c.loop-origin.invariant

pub loop-origin-preserved-in_ok-insert-2 : goal.loop-origin-preserved-in_ok-insert-2
loop-origin-preserved-in_ok-insert-2 c =
    one_copied (λ (s : Zone). s) c.args.self.now.zones.entries c.loop-origin.zones.entries c.loop-origin.origin-iterator c.next.new.self c.insert.new.self.entries (c.in-Some.origin.now, c.in-Some.stored.now)
    c.in-Ok.origin c.in_ok-share.field-0 c.into_iter-origin-iterator.ensures.into_iter_gives.5 c.in-Some.ensures.steps c.in-Ok.ensures.copy.ok c.in_ok-share.ensures c.in_ok-insert.ensures.entries c.loop-origin.invariant

pub invariant_of-result : goal.invariant_of-result
invariant_of-result c =
    record {
      under_origins = copied_under (λ (s : Zone). s) (λ (z : Zone). z.origin) c.args.self.now.zones.entries c.loop-origin.zones.entries c.loop-origin.origin-iterator c.in-None.ensures.steps.0 c.loop-origin.invariant
          c.args.self.now.under_origins;
    }
