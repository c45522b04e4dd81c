use Rattle.std.proofs.Common.{◌≡◌, [], false, IsTrue, ap, sym, subst, ◌∙◌, length, drop}
use Rattle.zone_proto.specs.Names.{IsName}
use Rattle.zone_proto.specs.Packing.{order_octets}
use Rattle.zone_proto.proofs.Names.Escapes.{first_fits, order_starred}
use Rattle.zone_proto.proofs.escaped.Escaped.make_wildcard.Goals as goal

pub overwrite-requires-clause-within : goal.overwrite-requires-clause-within
overwrite-requires-clause-within c =
    let n = c.self.inside.labels in
    let some : n ≡ [] → ⊥ = λ e. let t : IsTrue false = c.if-is_root.ensures.1 e in cc in
    let start : c.first_label_at-start.result ≡ length (order_octets (drop 1 n)) =
    c.first_label_at-start.ensures ∙ ap (λ z. length (order_octets (drop 1 z))) c.octets.ensures.name in
    first_fits n c.self.inside.order.items c.first_label_at-start.result (subst IsName (sym c.self.view_is) c.requires) some c.self.invariant start

pub invariant_of-self : goal.invariant_of-self
invariant_of-self c =
    let n = c.self.inside.labels in
    let some : n ≡ [] → ⊥ = λ e. let t : IsTrue false = c.if-is_root.ensures.1 e in cc in
    let start : c.first_label_at-start.result ≡ length (order_octets (drop 1 n)) =
    c.first_label_at-start.ensures ∙ ap (λ z. length (order_octets (drop 1 z))) c.octets.ensures.name in
    c.overwrite.ensures
    ∙ order_starred n c.self.inside.order.items c.first_label_at-start.result (subst IsName (sym c.self.view_is) c.requires) some c.self.invariant start
    ∙ ap order_octets (sym c.make_wildcard.ensures)
