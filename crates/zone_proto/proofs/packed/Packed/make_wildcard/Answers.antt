use Rattle.std.proofs.Common.{◌≡◌, [], ◌+◌, ap, sym, ◌∙◌, take, set, length, subst, arith}
use Rattle.zone_proto.specs.Names.{Name, IsName, wildcard_of}
use Rattle.zone_proto.specs.Packing.{name_of}
use Rattle.zone_proto.proofs.Names.FirstLabels.{before_first, starred_name, wildcard_fits}
use Rattle.zone_proto.proofs.Names.LabelFaults.{some_octets}
use Rattle.zone_proto.proofs.Names.Packings.{is_packing, is_name_of}
use Rattle.zone_proto.proofs.packed.Packed.make_wildcard.Goals as goal

pub overwrite-requires : goal.overwrite-requires
overwrite-requires g c =
    let s = g.S.Storage.octets_in c.self.inside.octets in
    let some : s ≡ [] → ⊥ = λ e. omega (arith, some_octets (length c.octets-octets.result.now) (sym c.is_empty.ensures ∙ c.if-is_empty.false), ap length c.octets-octets.ensures, ap length e) in
    let at : c.first_label_at-start.result ≡ before_first (name_of s) = c.first_label_at-start.ensures ∙ ap (λ z. before_first (name_of z)) c.octets-octets.ensures in
    let within = wildcard_fits s (name_of s) c.first_label_at-start.result c.self.invariant.octets (subst IsName (sym c.self.view_is) c.requires) some at in
    record { within = within; fits = omega (arith, within, ap length c.octets-octets.ensures, c.octets-octets.type_inv.0) }

pub invariant_of-self : goal.invariant_of-self
invariant_of-self g c =
    let s = g.S.Storage.octets_in c.self.inside.octets in
    let n : Name = name_of s in
    let some : s ≡ [] → ⊥ = λ e. omega (arith, some_octets (length c.octets-octets.result.now) (sym c.is_empty.ensures ∙ c.if-is_empty.false), ap length c.octets-octets.ensures, ap length e) in
    let at : c.first_label_at-start.result ≡ before_first n = c.first_label_at-start.ensures ∙ ap (λ z. before_first (name_of z)) c.octets-octets.ensures in
    let wildcard_name = starred_name s n (subst IsName (sym c.self.view_is) c.requires) c.self.invariant some in
    is_packing (g.S.Storage.octets_in c.overwrite.new.octets) (wildcard_of n) wildcard_name.0
    (c.overwrite.ensures ∙ (λ i. take (at i + 2) (set (set s (at i) 42) (at i + 1) 0)) ∙ wildcard_name.1)

pub returns : goal.returns
returns g c =
    let s = g.S.Storage.octets_in c.self.inside.octets in
    let n : Name = name_of s in
    let some : s ≡ [] → ⊥ = λ e. omega (arith, some_octets (length c.octets-octets.result.now) (sym c.is_empty.ensures ∙ c.if-is_empty.false), ap length c.octets-octets.ensures, ap length e) in
    let at : c.first_label_at-start.result ≡ before_first n = c.first_label_at-start.ensures ∙ ap (λ z. before_first (name_of z)) c.octets-octets.ensures in
    let wildcard_name = starred_name s n (subst IsName (sym c.self.view_is) c.requires) c.self.invariant some in
    is_name_of (g.S.Storage.octets_in c.overwrite.new.octets) (wildcard_of n) wildcard_name.0
    (c.overwrite.ensures ∙ (λ i. take (at i + 2) (set (set s (at i) 42) (at i + 1) 0)) ∙ wildcard_name.1)
    ∙ ap wildcard_of c.self.view_is
