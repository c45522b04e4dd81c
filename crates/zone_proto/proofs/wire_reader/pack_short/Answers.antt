use Rattle.std.proofs.Common.{◌≡◌, length, ap, ◌∙◌, arith}
use Rattle.std.proofs.lemmas.List.{take_at}
use Rattle.zone_proto.specs.Counting.{counted_name}
use Rattle.zone_proto.proofs.Names.WireLabels.{counting_is_packing, packed}
use Rattle.zone_proto.proofs.wire_reader.pack_short.Goals as goal

pub of_octets-requires : goal.of_octets-requires
of_octets-requires c =
    let ws = c.write_packing.new.octets in
    let size : length ws ≡ length c.args.labels.now =
    omega (arith, ap length c.write_packing.ensures, counting_is_packing (counted_name c.args.labels.now), ap length c.requires.counting.octets) in
    (packed c.args.labels.now ws c.first.result c.requires.counting c.requires.inner c.write_packing.ensures (c.first.ensures ∙ take_at ws _ (length c.args.labels.now) size)).0

pub returns : goal.returns
returns c =
    let ws = c.write_packing.new.octets in
    let size : length ws ≡ length c.args.labels.now =
    omega (arith, ap length c.write_packing.ensures, counting_is_packing (counted_name c.args.labels.now), ap length c.requires.counting.octets) in
    c.of_octets.ensures
    ∙ (packed c.args.labels.now ws c.first.result c.requires.counting c.requires.inner c.write_packing.ensures (c.first.ensures ∙ take_at ws _ (length c.args.labels.now) size)).1
