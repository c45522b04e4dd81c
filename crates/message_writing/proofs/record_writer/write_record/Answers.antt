use Rattle.std.proofs.Common.{◌++◌, ◌-◌, length, refl, ap, ◌∙◌, arith}
use Rattle.zone_proto.specs.Data.{type_of}
use Rattle.message_writing.specs.DataText.{data_text}
use Rattle.message_writing.specs.KnownNames.{cut_text}
use Rattle.message_writing.proofs.AllBack.{data_back}
use Rattle.message_writing.proofs.RecordParts.{count_short, cut_at, cuts_at, writable}
use Rattle.message_writing.proofs.RecordsBack.{record_written}
use Rattle.message_writing.proofs.record_writer.write_record.Goals as goal

pub returns-clause-ok : goal.returns-clause-ok
returns-clause-ok c =
    let r = c.args.r.now in
    let old = c.args.out.now.items in
    let owner = c.in_ok-owner.owner in
    let cuts = c.in_ok-cuts.cuts in
    let w = writable _ r.rdata c.if-not-branch.false c.in_ok-is_writable.ensures.value in
    let names = cuts_at _ old cuts.first cuts.second r.rdata c.as_slice-2.ensures.value c.in_ok-cuts.ensures in
    record_written old c.push_cut.new.out.items c.push_fields.new.out.items c.push_short.new.out.items c.push_data.new.out.items c.put_short.new.out.items
    owner.labels owner.pointer r.name (type_of r.rdata) r.dns_class.0 c.args.ttl (length c.as_slice-at.result.now) _ (data_text cuts.first cuts.second r.rdata)
    r.rdata (cut_at _ old owner.labels owner.pointer r.name r.name c.as_slice.ensures.value refl c.in_ok-owner.ensures)
    c.labels.ensures.valid (data_back old cuts.first cuts.second r.rdata w c.in_ok-push_data.ensures.sound names)
    (c.in_ok-push_cut.ensures ∙ ap (λ n. old ++ cut_text owner.labels owner.pointer n) c.labels.ensures.value) c.in_ok-push_fields.ensures
    (ap length c.as_slice-at.ensures.value) c.in_ok-push_short.ensures c.in_ok-push_data.ensures.text
    (ap (λ s. length s - length c.as_slice-at.result.now - 2) c.as_slice-3.ensures.value) c.put_short.ensures

pub overflow_cast-count : goal.overflow_cast-count
overflow_cast-count c =
    let r = c.args.r.now in
    let old = c.args.out.now.items in
    let cuts = c.in_ok-cuts.cuts in
    let w = writable _ r.rdata c.if-not-branch.false c.in_ok-is_writable.ensures.value in
    let names = cuts_at _ old cuts.first cuts.second r.rdata c.as_slice-2.ensures.value c.in_ok-cuts.ensures in
    let most = count_short old c.push_fields.new.out.items c.push_short.new.out.items c.push_data.new.out.items cuts.first cuts.second r.rdata w
    c.in_ok-push_data.ensures.sound names c.in_ok-push_short.ensures c.in_ok-push_data.ensures.text in
    omega (arith, most, ap length c.as_slice-3.ensures.value, ap length c.as_slice-at.ensures.value)
