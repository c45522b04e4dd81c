use Rattle.std.proofs.Common.{◌≡◌, ◌∙◌, ap, take, drop, subst, sym}
use Rattle.zone_proto.specs.Packing.{name_of, IsPacking}
use Rattle.zone_proto.proofs.Names.FirstLabels.{before_first, base_is_packing, base_name_of}
use Rattle.zone_proto.proofs.packed.Packed.shorten.Goals as goal

pub invariant_of-self : goal.invariant_of-self
invariant_of-self g c =
    let s = g.S.Storage.octets_in c.self.inside.octets in
    let cut : g.S.Storage.octets_in c.truncate.new.self ≡ take (before_first (name_of s)) s =
    c.truncate.ensures ∙ (λ i. take ((c.first_label_at-start.ensures ∙ ap (λ z. before_first (name_of z)) c.octets.ensures) i) s) in
    subst (λ z. IsPacking z (name_of z)) (sym cut) (base_is_packing s c.self.invariant)

pub returns : goal.returns
returns g c =
    let s = g.S.Storage.octets_in c.self.inside.octets in
    let cut : g.S.Storage.octets_in c.truncate.new.self ≡ take (before_first (name_of s)) s =
    c.truncate.ensures ∙ (λ i. take ((c.first_label_at-start.ensures ∙ ap (λ z. before_first (name_of z)) c.octets.ensures) i) s) in
    ap name_of cut ∙ base_name_of s c.self.invariant ∙ ap (drop 1) c.self.view_is
