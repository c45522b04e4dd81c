use Rattle.std.proofs.Common.{ap, sym, ◌∙◌}
use Rattle.zone_proto.specs.Forms.{labels_of}
use Rattle.zone_proto.specs.Packing.{order_octets}
use Rattle.zone_proto.proofs.Names.Escapes.{order_packable}
use Rattle.zone_proto.proofs.form.Form.order.Goals as goal

pub returns-in-ShortPacked : goal.returns-in-ShortPacked
returns-in-ShortPacked c =
    c.octets.ensures.packing.octets ∙ order_packable _ c.octets.ensures.packing.packable
    ∙ ap order_octets (c.octets.ensures.name ∙ sym (ap labels_of c.in-ShortPacked.is))

pub returns-in-LongPacked : goal.returns-in-LongPacked
returns-in-LongPacked c =
    let octets = c.octets-in-LongPacked.ensures in
    octets.packing.octets ∙ order_packable _ octets.packing.packable
    ∙ ap order_octets (octets.name ∙ sym (ap labels_of c.in-LongPacked.is))
