-- The parameters of a service, to the end of an entry (RFC 9460 section 2.1)
use Rattle.std.specs.Prelude.{ℕ, ◌&&◌, nat_eq, List, [], ◌∷◌, ◌++◌, Bool, false, Result, Ok, Err, if◌then◌else◌}
use Rattle.std.specs.List.{ends_with}
use Rattle.zone_scanner.specs.declared.place.Place.{Place}
use Rattle.zone_scanner.specs.Entries.{WordText}
use Rattle.service_parameters.specs.declared.fault.ParameterFault.{ParameterFault}
use Rattle.service_parameters.specs.declared.fault.ParameterError.{ParameterError}
use Rattle.service_parameters.specs.declared.fault.ParameterError.TheVariants as parameter_errors
use Rattle.service_parameters.specs.Parameters.{KeyValue, whole, with_word}
use Rattle.record_fields.specs.declared.fault.Reason.TheVariants as reason
use Rattle.record_fields.specs.declared.fault.Fault.{Fault}
use Rattle.record_fields.specs.declared.fault.ReadError.{ReadError}
use Rattle.record_fields.specs.declared.fault.ReadError.TheVariants as errors
use Rattle.record_fields.specs.Readings.{fault, ◌>>=◌}
use Rattle.record_fields.specs.Fields.{Left, Reading, left_at}

-- what is wrong with a parameter is so at this place
abbrev pub at_place : {X : Type 0} → Place → Result X ParameterFault → Result X Fault
at_place p (Ok x) = Ok x
at_place p (Err f) = Err (fault p (reason.Parameter f))

abbrev pub error_at : Place → ParameterError → ReadError
error_at p parameter_errors.Memory = errors.Memory
error_at p (parameter_errors.Fault f) = errors.Fault (fault p (reason.Parameter f))

-- A value may be in quotes, which stand right behind the `=` of its key: it is cut as a word of its own then
abbrev pub is_value : WordText → WordText → Bool
is_value w v = if v.quoted && v.joined then ends_with nat_eq w.octets (61 ∷ []) else false

abbrev pub with_text : List KeyValue → WordText → List ℕ → Result (List KeyValue) Fault
with_text ps w t = if w.quoted then Err (fault w.place reason.Quoted) else at_place w.place (with_word ps t)

-- parameters, and those that words write
abbrev pub parameters_of : List KeyValue → List WordText → Result (List KeyValue) Fault
parameters_of ps [] = Ok ps
parameters_of ps (w ∷ []) = with_text ps w w.octets
parameters_of ps (w ∷ v ∷ ws) =
    if is_value w v then (with_text ps w (w.octets ++ v.octets) >>= λ qs. parameters_of qs ws)
    else (with_text ps w w.octets >>= λ qs. parameters_of qs (v ∷ ws))

-- their octets; where they lack one, the fault is at the word before them
abbrev pub next_parameters : Left → Reading (List ℕ)
next_parameters l = parameters_of [] l.words >>= λ ps. (at_place l.place (whole ps) >>= λ os. Ok (os, left_at l.place []))

-- the parameter that the first words write, and the words behind it
abbrev pub first_parameter : List KeyValue → WordText → List WordText → Result (List KeyValue × List WordText) Fault
first_parameter ps w [] = with_text ps w w.octets >>= λ qs. Ok (qs, [])
first_parameter ps w (v ∷ ws) =
    if is_value w v then (with_text ps w (w.octets ++ v.octets) >>= λ qs. Ok (qs, ws))
    else (with_text ps w w.octets >>= λ qs. Ok (qs, v ∷ ws))
