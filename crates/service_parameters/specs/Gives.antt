-- What a call answers, unless memory ran out
use Rattle.std.specs.Prelude.{◌≡◌, Result, Ok, Err}
use Rattle.service_parameters.specs.declared.fault.ParameterFault.{ParameterFault}
use Rattle.service_parameters.specs.declared.fault.ParameterError.{ParameterError}
use Rattle.service_parameters.specs.declared.fault.ParameterError.TheVariants as errors

abbrev pub Fails : {Y : Type 0} → ParameterError → Result Y ParameterFault → Type 0
Fails errors.Memory read = Unit {0}
Fails (errors.Fault f) read = read ≡ Err f

-- what a call answered, seen by `view`, is what is read
abbrev pub Gives : {X Y : Type 0} → (X → Y) → Result X ParameterError → Result Y ParameterFault → Type 0
Gives view (Ok x) read = read ≡ Ok (view x)
Gives view (Err e) read = Fails e read
