-- What is read, or the first fault
use Rattle.std.specs.Prelude.{◌≡◌, ◌++◌, ℕ, List, Option, Some, None, Result, Ok, Err}
use Rattle.zone_scanner.specs.declared.place.Place.{Place}
use Rattle.record_fields.specs.declared.fault.Reason.{Reason}
use Rattle.record_fields.specs.declared.fault.Fault.{Fault}
use Rattle.record_fields.specs.declared.fault.ReadError.{ReadError}
use Rattle.record_fields.specs.declared.fault.ReadError.TheVariants as errors

-- a fault at this place
abbrev pub fault : Place → Reason → Fault
fault p why = record { place = p; reason = why }

-- a reading, and then one that goes on with what was read
infixl 10 ◌>>=◌
abbrev pub ◌>>=◌ : {A B : Type 0} → Result A Fault → (A → Result B Fault) → Result B Fault
(Ok x) >>= f = f x
(Err e) >>= f = Err e

abbrev pub or_else_fault : {X : Type 0} → Option X → Fault → Result X Fault
or_else_fault None f = Err f
or_else_fault (Some x) f = Ok x

-- what a call answered, seen by `view`, is what is read, unless memory ran out
abbrev pub Fails : {Y : Type 0} → ReadError → Result Y Fault → Type 0
Fails errors.Memory read = Unit {0}
Fails (errors.Fault f) read = read ≡ Err f

abbrev pub Gives : {X Y : Type 0} → (X → Y) → Result X ReadError → Result Y Fault → Type 0
Gives view (Ok x) read = read ≡ Ok (view x)
Gives view (Err e) read = Fails e read

-- these octets, and then those that are read
abbrev pub after : List ℕ → Result (List ℕ) Fault → Result (List ℕ) Fault
after os r = r >>= λ more. Ok (os ++ more)
