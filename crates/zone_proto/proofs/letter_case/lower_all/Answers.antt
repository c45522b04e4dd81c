use Rattle.std.proofs.Common.{map, ap, sym, ◌<◌, length, ◌∙◌, rules}
use Rattle.std.specs.Vec.{with_items}
use Rattle.std.specs.Char.{to_ascii_lowercase}
use Rattle.zone_proto.proofs.Names.Lower.{label_written, lowered}
use Rattle.zone_proto.proofs.letter_case.lower_all.Goals as goal

pub loop-i-preserved : goal.loop-i-preserved
loop-i-preserved c =
    let lt : c.loop-i.i < length c.loop-i.labels.items = search (rules) in
    let label = c.index_mut.result.now in
    let low = lowered label.len label.items c.lower_octets.new.octets (sym label.ok.0)
    (c.lower_octets.ensures ∙ ap (map to_ascii_lowercase) c.deref_mut.ensures.value) in
    label_written (λ v. v.items) c.loop-i.labels.items c.loop-i.i label (with_items label c.lower_octets.new.octets) lt c.index_mut.ensures.value low
    ∙ c.loop-i.invariant
