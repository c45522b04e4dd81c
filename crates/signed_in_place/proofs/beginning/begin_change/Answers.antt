use Rattle.std.proofs.Common.{sym, ◌∙◌, subst}
use Rattle.zone_map.specs.Zones.{Sets}
use Rattle.signed_in_place.specs.InPlace.{IsRenewedChange}
use Rattle.signed_in_place.proofs.Unowned.{unowned}
use Rattle.signed_in_place.proofs.beginning.begin_change.Goals as goal

pub returns-clause-begun : goal.returns-clause-begun
returns-clause-begun c =
    let origin = c.args.origin.now in
    let old = c.args.zone.now in
    let new = c.renew.new.zone in
    let before = c.args.changed.now.before in
    let after = c.args.changed.now.after in
    let p = c.in_ok-prepared.prepared in
    let names = c.requires.0 in
    let next = c.requires.1 in
    let changed = c.requires.2 in
    let made : IsRenewedChange origin c.args.keys.now c.args.request.now before after next new p =
    subst (λ (m : Sets). IsRenewedChange origin c.args.keys.now c.args.request.now before after m new p) (c.in_ok-carry_out.ensures.done names next changed) c.in_ok-prepared.ensures.begun in (
      sym c.in_ok-is_local.ensures.ok ∙ c.if-not-branch.false,
      λ ns m h. subst (λ (x : Sets). IsRenewedChange origin c.args.keys.now c.args.request.now before after x new p) (c.in_ok-carry_out.ensures.done ns m h) c.in_ok-prepared.ensures.begun,
      λ n t h. made.others n t h ∙ unowned names old next before after changed n t (made.owners n h).0 (made.owners n h).1,
    )
