use Rattle.std.proofs.Common.{◌≡◌, ◌+◌, [], min, refl}
use Rattle.std.specs.Prelude.{◌==◌, count_by}
use Rattle.zone_texts.specs.Inclusions.{gathered, most_lines}
use Rattle.zone_texts.proofs.Whole.{records_read}
use Rattle.zone_texts.proofs.files.read_whole.Goals as goal

pub returns : goal.returns
returns g c = λ files known same faultless.
    let none : c.in_ok-reading.reading.records.items ≡ [] = rw c.in_ok-reading.ensures.records c.new.ensures.items in
    let counted : c.saturating_add-reading.result ≡ min (count_by (λ b. b == 10) c.args.text.now + 1) most_lines = rw c.count_lines.ensures at c.saturating_add-reading.ensures in
    let run = c.in_ok-read_text.ensures.read refl faultless files known in
    records_read files c.args.origin c.args.file.now c.args.text.now c.saturating_add-reading.result
    (gathered c.read_text.new.context c.read_text.new.reading.records.items c.read_text.new.reading.sources.lines)
    same counted (rw none at run)
