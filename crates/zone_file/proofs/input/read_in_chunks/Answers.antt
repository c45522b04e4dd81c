use Rattle.std.proofs.Common.{◌≡◌, ℕ, List, Some, rules, arith}
use Rattle.zone_file.specs.declared.error.ZoneFault.{ZoneFault}
use Rattle.zone_file.specs.declared.error.InputError.TheVariants as inputs
use Rattle.zone_file.specs.Faults.{input_error_of}
use Rattle.zone_file.specs.Zones.{EndsIn, zone_of}
use Rattle.zone_file.proofs.InputFacts.{all_read, fault_read, last_read}
use Rattle.zone_file.proofs.input.read_in_chunks.Goals as goal

pub returns-in_err-read_to_end-clause-fault : goal.returns-in_err-read_to_end-clause-fault
returns-in_err-read_to_end-clause-fault g c =
    let quoted_word : (f : ZoneFault) → c.in_err-read_to_end.field-0.0 ≡ inputs.Fault f → (text : List ℕ) → g.R.Read.remaining c.args.input.now ≡ Some text
    → EndsIn f (zone_of c.args.origin text) =
    λ f e. fault_read c.args.origin (g.R.Read.remaining c.args.input.now) c.new-records.result.items c.new-reader.result f c.new-records.ensures.items c.new-reader.ensures
    (c.in_err-read_to_end.ensures.fault f e) in
    first_of (search rules, grind arith)

pub returns-in_err-take_last-clause-fault : goal.returns-in_err-take_last-clause-fault
returns-in_err-take_last-clause-fault g c =
    let quoted_word : (f : ZoneFault) → input_error_of c.in_err-take_last.field-0.0 ≡ inputs.Fault f → (text : List ℕ) → g.R.Read.remaining c.args.input.now ≡ Some text
    → EndsIn f (zone_of c.args.origin text) =
    λ f e. last_read c.args.origin (g.R.Read.remaining c.args.input.now) (g.R.Read.remaining c.read_to_end.new.input) c.new-records.result.items c.read_to_end.new.records.items
    c.new-reader.result c.read_to_end.new.reader c.in_err-take_last.field-0.0 f c.new-records.ensures.items c.new-reader.ensures c.in_ok-read_to_end.ensures.ok c.in_ok-read_to_end.ensures.end
    c.in_err-take_last.ensures.fault e in
    first_of (search rules, grind arith)

pub returns-clause-ok : goal.returns-clause-ok
returns-clause-ok g c =
    all_read c.args.origin (g.R.Read.remaining c.args.input.now) (g.R.Read.remaining c.read_to_end.new.input) c.new-records.result.items c.read_to_end.new.records.items c.take_last.new.records.items
    c.new-reader.result c.read_to_end.new.reader c.new-records.ensures.items c.new-reader.ensures c.in_ok-read_to_end.ensures.ok c.in_ok-read_to_end.ensures.end c.in_ok-take_last.ensures.ok
