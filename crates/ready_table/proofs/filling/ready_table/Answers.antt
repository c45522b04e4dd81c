use Rattle.std.proofs.Common.{◌≡◌, ◌∙◌, [], ◌∷◌, ◌++◌, map, refl, ap}
use Rattle.zone_response.specs.Queries.{Zone, zone_of}
use Rattle.zone_response.specs.declared.question.ServedZone.{ServedZone}
use Rattle.ready_table.proofs.filling.ready_table.Goals as goal

pub returns : goal.returns
returns g c =
    let kept : ServedZone g.row.S.Denot g.row.H.Denot → Zone = zone_of g.S.Signer.signature_of g.H.Nsec3Hash.digest_of in
    let z = kept c.args.zone in
    let one : map kept c.in_ok-zones.zones ≡ z ∷ [] =
    ap (map kept) (c.in_ok-zones.ensures ∙ c.in_ok-push.ensures.items ∙ ap (λ l. l ++ c.args.zone ∷ []) c.new-list.ensures.items) in
    record {
      ready = c.in_ok-table.ensures z (c.in_ok-keep_all.ensures z one refl (c.new-table.ensures z));
      denial = c.in_ok-denial.ensures;
      referrals = c.in_ok-referrals.ensures;
    }
