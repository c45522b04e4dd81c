use Rattle.std.proofs.Common.{◌≡◌, map, ap, sym, ◌∙◌, length}
use Rattle.std.specs.Char.{to_ascii_lowercase}
use Rattle.zone_proto.specs.Packing.{order_octets}
use Rattle.zone_proto.proofs.Names.Escapes.{order_lower}
use Rattle.zone_proto.proofs.Names.Lower.{lowered}
use Rattle.zone_proto.proofs.escaped.Escaped.lower.Goals as goal

pub invariant_of-self : goal.invariant_of-self
invariant_of-self c =
    let low : c.lower_octets.new.octets ≡ map to_ascii_lowercase c.self.inside.order.items =
    c.lower_octets.ensures ∙ ap (map to_ascii_lowercase) c.as_mut_slice.ensures.value in
    lowered c.self.inside.order.len c.self.inside.order.items c.lower_octets.new.octets (sym (ap length c.as_mut_slice.ensures.value) ∙ c.as_mut_slice.ensures.len) low
    ∙ ap (map to_ascii_lowercase) c.self.invariant ∙ order_lower c.self.inside.labels ∙ ap order_octets (sym c.lower.ensures)
