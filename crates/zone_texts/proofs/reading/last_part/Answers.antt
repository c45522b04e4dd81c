use Rattle.zone_texts.specs.Inclusions.{gathered}
use Rattle.zone_texts.proofs.Parts.{last_included}
use Rattle.zone_texts.proofs.reading.last_part.Goals as goal

pub returns-in-Some-clause-read : goal.returns-in-Some-clause-read
returns-in-Some-clause-read c = λ begin faultless inner beside.
    let taken = c.in_ok-inclusion-in-Ok-Some.ensures.entry begin faultless inner beside in
    last_included inner beside c.args.part.before c.args.text.now c.args.entries c.new-behind.result c.in-Ok-Some.entry
    (gathered c.args.context.now c.args.reading.now.records.items c.args.reading.now.sources.lines) _
    c.new-behind.ensures
    (rw c.in-Ok-Some.field-0-is at c.in-Ok-Some.ensures.ok)
    (rw c.in-Some.is at taken)
