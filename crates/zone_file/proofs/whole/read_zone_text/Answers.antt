use Rattle.std.proofs.Common.{◌≡◌, rules}
use Rattle.zone_file.specs.declared.error.ZoneFault.{ZoneFault}
use Rattle.zone_file.specs.declared.error.ZoneError.TheVariants as errors
use Rattle.zone_file.specs.Zones.{EndsIn, zone_of}
use Rattle.zone_file.proofs.ZoneFacts.{piece_ends, text_ends, whole_text}
use Rattle.zone_file.proofs.whole.read_zone_text.Goals as goal

pub returns-in_err-take_records-clause-fault : goal.returns-in_err-take_records-clause-fault
returns-in_err-take_records-clause-fault c =
    let quoted_word : (f : ZoneFault) → c.in_err-take_records.field-0.0 ≡ errors.Fault f → EndsIn f (zone_of c.args.origin c.args.text.now) =
    λ f e. piece_ends c.args.origin c.args.text.now c.new-reader.result c.new-records.result.items f c.new-records.ensures.items c.new-reader.ensures (c.in_err-take_records.ensures.fault f e) in
    search rules

pub returns-in_err-take_last-clause-fault : goal.returns-in_err-take_last-clause-fault
returns-in_err-take_last-clause-fault c =
    let quoted_word : (f : ZoneFault) → c.in_err-take_last.field-0.0 ≡ errors.Fault f → EndsIn f (zone_of c.args.origin c.args.text.now) =
    λ f e. text_ends c.args.origin c.args.text.now c.new-reader.result c.take_records.new.reader c.new-records.result.items c.take_records.new.records.items f c.new-records.ensures.items
    c.new-reader.ensures c.in_ok-take_records.ensures.ok (c.in_err-take_last.ensures.fault f e) in
    search rules

pub returns-clause-ok : goal.returns-clause-ok
returns-clause-ok c =
    whole_text c.args.origin c.args.text.now c.new-reader.result c.take_records.new.reader c.new-records.result.items c.take_records.new.records.items c.take_last.new.records.items
    c.new-records.ensures.items c.new-reader.ensures c.in_ok-take_records.ensures.ok c.in_ok-take_last.ensures.ok
