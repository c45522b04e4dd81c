use Rattle.std.proofs.Common.{◌≡◌, ◌+◌, ◌-◌, length, set, refl, arith}
use borrow.Rule.Slice.PartMut.{put_mid}
use Rattle.zone_proto.proofs.Names.WireLabels.{label_written}
use Rattle.zone_proto.proofs.wire_reader.write_packing.Goals as goal

pub loop-label-preserved : goal.loop-label-preserved
loop-label-preserved c =
    let octets = c.loop-label.octets in
    let label = c.in-Some.label.now in
    let after = c.in-Some.after.now in
    let k : length after + length label - length after ≡ length label = omega arith in
    label_written octets _ c.args.labels.now c.loop-label.rest.now label after (length after) (length label) c.loop-label.invariant c.in-Some.ensures.gives
    c.in-Some.ensures.base refl refl
    (λ i. set (put_mid (length after) (k i) octets (c.copy_from_slice.ensures.after i)) (length after + length label) 0)
