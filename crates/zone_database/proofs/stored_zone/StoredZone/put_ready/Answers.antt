use Rattle.std.proofs.Common.{◌∙◌, Some, ap, subst, sym}
use Rattle.std.proofs.lemmas.Result.{IfOk-weaker}
use Rattle.std.specs.Arc.{arc_value}
use Rattle.ready_table.specs.Ready.{IsReady, RefersFor}
use Rattle.zone_server.specs.Limits.{limit_for}
use Rattle.zone_database.specs.ReadyZones.{AreReadyIfAny}
use Rattle.zone_database.specs.Zones.{served_zone}
use Rattle.zone_database.proofs.stored_zone.StoredZone.put_ready.Goals as goal

pub put_referral-requires-clause-kept : goal.put_referral-requires-clause-kept
put_referral-requires-clause-kept c =
    let z = served_zone (arc_value c.self.inside.zone) in
    let kept : AreReadyIfAny z (Some c.in-Some.ready) = subst (AreReadyIfAny z) c.in-Some.is c.self.invariant.0 in
    (z, subst (RefersFor z) (sym c.deref-in-Some-2.ensures) kept.2)

pub returns-else-branch-2 : goal.returns-else-branch-2
returns-else-branch-2 c =
    let zone = c.lent.ensures ∙ ap served_zone (c.deref-in-Some-4.ensures ∙ c.self.view_is) in
    IfOk-weaker c.put_denial.result _ _
    (λ found denied t read.
    subst (λ z. IsReady z (limit_for c.args.transport c.args.query.now.extension) c.args.query.now c.put_denial.new.out.items) zone (denied t)) c.put_denial.ensures
