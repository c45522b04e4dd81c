use Rattle.std.proofs.Common.{cond, ap, ◌∙◌, subst, sym}
use Rattle.std.specs.Prelude.{None, option_map}
use Rattle.std.specs.List.{list_any}
use Rattle.std.specs.Option.{option_or}
use Rattle.zone_proto.specs.Keys.{key, key_eq}
use Rattle.zone_map.specs.Zones.{Sets, set_at, IsZone}
use Rattle.zone_map.proofs.Putting.{found_without_all}
use Rattle.zone_signing.specs.Secured.{unsigned_at, secured_set}
use Rattle.zone_signing.proofs.Changes.{IsZone-without_all, unsigned_left}
use Rattle.zone_signing.proofs.securing.secure.Goals as goal

pub returns-in-Ok-clause-ok : goal.returns-in-Ok-clause-ok
returns-in-Ok-clause-ok g c =
    let zone = c.args.zone.now in
    let fresh = c.args.new_denials in
    let d = option_map (λ t. t.0) c.args.denials in
    let secured = secured_set g.S.Signer.signature_of c.args.now in
    record {
      each = λ n t.
          let q = key n t in
          let f = secured c.args.apex.now c.args.signers.now q in
          ap (λ (m : Sets). set_at m n t) c.remove_all.ensures
          ∙ found_without_all c.sign_all-2.new.zone c.in_ok-gone.gone.items q c.in-Ok.ensures.zone.ordered
          ∙ ap (cond (list_any (key_eq q) c.in_ok-gone.gone.items) None) (c.in-Ok.ensures.ok n t ∙ ap (option_map f) (c.in_ok-replaced.ensures.ok n t))
          ∙ ap (λ ks. cond (list_any (key_eq q) ks) None (option_map f (option_or (set_at fresh n t) (set_at zone n t)))) c.in_ok-gone.ensures.ok
          ∙ unsigned_left f d zone fresh n t
          ∙ ap (λ u. option_map (secured (key c.args.apex.now.name u) c.args.signers.now q) (unsigned_at d zone fresh n t)) c.requires;
    }

pub returns-in-Ok-clause-zone : goal.returns-in-Ok-clause-zone
returns-in-Ok-clause-zone g c = subst IsZone (sym c.remove_all.ensures) (IsZone-without_all c.sign_all-2.new.zone c.in_ok-gone.gone.items c.in-Ok.ensures.zone)
