use Rattle.std.proofs.Common.{refl}
use Rattle.message_writing.specs.declared.kept_records.PointedText.{PointedText}
use Rattle.message_writing.proofs.KeptBack.{record_behind, tail_more}
use Rattle.message_writing.proofs.RecordParts.{writable}
use Rattle.message_writing.proofs.kept_records.with_record.Goals as goal

pub returns : goal.returns
returns c =
    let r = c.args.r.now in
    let named = c.in_ok-text.text in
    let fields : PointedText = record { fronts = named.fronts; tail = c.push_fields.new.out } in
    let counted : PointedText = record { fronts = named.fronts; tail = c.push_short.new.out } in
    record_behind c.args.origin.now c.args.text named fields counted c.in_ok-data.data c.in_ok-followed_by.field-0 r c.args.ttl c.in-Some.count
    (record { sum = 0; scale = 1 }) (writable _ r.rdata c.in-Ok-true.field-0-test c.in-Ok-true.ensures.value) c.in_ok-data.ensures.sound
    c.in_ok-data.ensures.text c.in-Some.ensures c.in_ok-text.ensures (λ p. tail_more p named fields _ refl c.in_ok-push_fields.ensures)
    (λ p. tail_more p fields counted _ refl c.in_ok-push_short.ensures) c.in_ok-followed_by.ensures
