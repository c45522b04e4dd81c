use Rattle.std.proofs.Common.{◌≡◌, ℕ, List, take, Some, rules, arith}
use Rattle.zone_file.specs.declared.error.ZoneFault.{ZoneFault}
use Rattle.zone_file.specs.declared.error.InputError.TheVariants as inputs
use Rattle.zone_file.specs.Faults.{input_error_of}
use Rattle.zone_file.specs.Inputs.{with_rest}
use Rattle.zone_file.specs.Zones.{EndsIn}
use Rattle.zone_file.proofs.InputFacts.{ends_within}
use Rattle.zone_file.proofs.input.read_more.Goals as goal

pub returns-in_err-take_records-clause-fault : goal.returns-in_err-take_records-clause-fault
returns-in_err-take_records-clause-fault g c =
    let quoted_word : (f : ZoneFault) → input_error_of c.in_err-take_records.field-0.0 ≡ inputs.Fault f → (text : List ℕ) → g.R.Read.remaining c.args.input.now ≡ Some text
    → EndsIn f (with_rest c.args.records.now.items text c.args.reader.now) =
    λ f e. ends_within (g.R.Read.remaining c.args.input.now) (g.R.Read.remaining c.read_some.new.input) c.args.records.now.items c.args.reader.now (take c.in-Ok.count c.read_some.new.buffer)
    c.in_err-take_records.field-0.0 f c.in-Ok.ensures.bytes.0 c.in_err-take_records.ensures.fault e in
    first_of (search rules, search (rules, quoted_word), grind (arith, quoted_word))
