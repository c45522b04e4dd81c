use Rattle.std.proofs.Common.{◌≡◌, ℕ, List, Some, inr, refl}
use Rattle.zone_file.specs.declared.error.InputError.TheVariants as inputs
use Rattle.zone_texts.specs.declared.state.Reading.{Reading}
use Rattle.zone_texts.specs.Readings.{IsReadOf}
use Rattle.zone_texts.proofs.Fallbacks.{always, included_again}
use Rattle.zone_texts.proofs.Whole.{records_alone}
use Rattle.zone_texts.proofs.files.read_files.Goals as goal

pub returns-in-Err-Fault-clause-alone : goal.returns-in-Err-Fault-clause-alone
returns-in-Err-Fault-clause-alone g c =
    let is = c.in-Err-Fault.is in
    let same : c.in-Err-Fault.field-0 ≡ inputs.Fault c.in-Err-Fault.first = cc in
    always c.read_again.result
    (λ (reading : Reading). (text : List ℕ) → g.R.Read.remaining c.args.input.now ≡ Some text → IsReadOf c.args.origin text reading.records.items)
    (λ reading text left. inr (c.in-Err-Fault.first, c.in-Err-Fault.ensures.fault c.in-Err-Fault.first same text left))

pub returns-in-Err-Fault-clause-included : goal.returns-in-Err-Fault-clause-included
returns-in-Err-Fault-clause-included g c =
    included_again c.read_again.result c.in-Ok.again c.args.origin c.args.file.now (g.T.Texts.known c.args.texts.now) (g.R.Read.remaining c.args.input.now)
    c.in-Ok.ensures.ok c.read_again.ensures

pub returns-in_ok-whole-in-Ok-read_zone-clause-included : goal.returns-in_ok-whole-in-Ok-read_zone-clause-included
returns-in_ok-whole-in-Ok-read_zone-clause-included g c = λ text left files known same faultless.
    let own : c.in_ok-whole-in-Ok-read_zone.field-0.records.items ≡ c.in-Ok-read_zone.records.items = rw c.in_ok-whole-in-Ok-read_zone.ensures.records refl in
    rw own (records_alone files c.args.origin c.args.file.now text c.in-Ok-read_zone.records.items same (c.in-Ok-read_zone.ensures.ok text left))
