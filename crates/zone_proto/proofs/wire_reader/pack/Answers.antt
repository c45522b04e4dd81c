use Rattle.std.proofs.Common.{◌≡◌, ◌++◌, length, take, drop, ap, ◌∙◌, arith}
use Rattle.zone_proto.specs.Counting.{counted_name}
use Rattle.zone_proto.proofs.Names.WireLabels.{counting_is_packing, refilled, packed}
use Rattle.zone_proto.proofs.wire_reader.pack.Goals as goal

pub of_octets-requires : goal.of_octets-requires
of_octets-requires c =
    let ws = c.write_packing.new.octets in
    let v = c.in_ok-octets.octets in
    let size : length ws ≡ v.len =
    omega (arith, ap length c.write_packing.ensures, counting_is_packing (counted_name c.args.labels.now), ap length c.requires.counting.octets, c.in_ok-octets.ensures.len) in
    (packed c.args.labels.now ws (take v.len (ws ++ drop (length ws) v.items)) c.requires.counting c.requires.inner c.write_packing.ensures (refilled v.len v.items ws size)).0

pub returns : goal.returns
returns c =
    let ws = c.write_packing.new.octets in
    let v = c.in_ok-octets.octets in
    let size : length ws ≡ v.len =
    omega (arith, ap length c.write_packing.ensures, counting_is_packing (counted_name c.args.labels.now), ap length c.requires.counting.octets, c.in_ok-octets.ensures.len) in
    c.of_octets.ensures
    ∙ (packed c.args.labels.now ws (take v.len (ws ++ drop (length ws) v.items)) c.requires.counting c.requires.inner c.write_packing.ensures (refilled v.len v.items ws size)).1
