-- Parameters that are read one after the other
use Rattle.std.proofs.Common.{◌≡◌, List, [], ◌∷◌, ◌++◌, Bool, true, false, cond, Result, Ok, Err, refl, sym, ap, ◌∙◌}
use Rattle.zone_scanner.specs.Entries.{WordText}
use Rattle.service_parameters.specs.Parameters.{KeyValue}
use Rattle.record_fields.specs.declared.fault.Fault.{Fault}
use Rattle.record_fields.specs.declared.fault.ReadError.{ReadError}
use Rattle.record_fields.specs.declared.fault.ReadError.TheVariants as errors
use Rattle.record_fields.specs.Readings.{Fails, ◌>>=◌}
use Rattle.record_fields.specs.Parameters.{first_parameter, is_value, parameters_of, with_text}

-- the parameters that words write are those of the first and those of the words behind it
in_turn : (ps : List KeyValue) (w : WordText) (ws : List WordText) → parameters_of ps (w ∷ ws) ≡ (first_parameter ps w ws >>= λ x. parameters_of x.0 x.1)
in_turn ps w [] = by (with_text ps w w.octets)
  where
    by : (r : Result (List KeyValue) Fault) → r ≡ ((r >>= λ qs. Ok (qs, [])) >>= λ (x : List KeyValue × List WordText). parameters_of x.0 x.1)
    by (Ok qs) = refl
    by (Err f) = refl
in_turn ps w (v ∷ ws) = at (is_value w v)
  where
    by : (r : Result (List KeyValue) Fault) (left : List WordText) → (r >>= λ qs. parameters_of qs left) ≡ ((r >>= λ qs. Ok (qs, left)) >>= λ (x : List KeyValue × List WordText). parameters_of x.0 x.1)
    by (Ok qs) left = refl
    by (Err f) left = refl

    at : (b : Bool) → cond b (with_text ps w (w.octets ++ v.octets) >>= λ qs. parameters_of qs ws) (with_text ps w w.octets >>= λ qs. parameters_of qs (v ∷ ws))
        ≡ (cond b (with_text ps w (w.octets ++ v.octets) >>= λ qs. Ok (qs, ws)) (with_text ps w w.octets >>= λ qs. Ok (qs, v ∷ ws)) >>= λ (x : List KeyValue × List WordText). parameters_of x.0 x.1)
    at true = by (with_text ps w (w.octets ++ v.octets)) ws
    at false = by (with_text ps w w.octets) (v ∷ ws)

pub parameter_more : (ps qs : List KeyValue) (w : WordText) (ws left : List WordText) → first_parameter ps w ws ≡ Ok (qs, left) → parameters_of ps (w ∷ ws) ≡ parameters_of qs left
parameter_more ps qs w ws left h = in_turn ps w ws ∙ ap (λ (r : Result (List KeyValue × List WordText) Fault). r >>= λ x. parameters_of x.0 x.1) h

parameter_fault : (ps : List KeyValue) (w : WordText) (ws : List WordText) (f : Fault) → first_parameter ps w ws ≡ Err f → parameters_of ps (w ∷ ws) ≡ Err f
parameter_fault ps w ws f h = in_turn ps w ws ∙ ap (λ (r : Result (List KeyValue × List WordText) Fault). r >>= λ x. parameters_of x.0 x.1) h

pub parameter_fails : (ps : List KeyValue) (w : WordText) (ws left : List WordText) (all : Result (List KeyValue) Fault) (e : ReadError) → left ≡ w ∷ ws → parameters_of ps left ≡ all
    → Fails e (first_parameter ps w ws) → Fails e all
parameter_fails ps w ws left all errors.Memory at same h = tt
parameter_fails ps w ws left all (errors.Fault f) at same h = sym same ∙ ap (parameters_of ps) at ∙ parameter_fault ps w ws f h
