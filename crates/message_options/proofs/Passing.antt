-- Loops that pass over records and options: what is left gives what the whole gives
use Rattle.std.proofs.Common.{◌≡◌, ℕ, suc, ◌+◌, ◌-◌, ◌<◌, true, false, eqb, List, Some, None, sym, ap, arith}
use Rattle.message_reading.specs.declared.record_frame.RecordFrame.{RecordFrame}
use Rattle.message_reading.specs.Unread.{record_frame_of}
use Rattle.message_options.specs.Options.{opt_within, option_of, option_value}

one_less : (n i : ℕ) → i < n → suc (n - (i + 1)) ≡ n - i
one_less n i h = omega arith

-- ---- records

data_from : (n i : ℕ) (rest : List ℕ) → i < n → opt_within (suc (n - (i + 1))) rest ≡ opt_within (n - i) rest
data_from n i rest less = ap (λ j. opt_within j rest) (one_less n i less)

pub data_out : (k : ℕ) (rest : List ℕ) → k ≡ 0 → None ≡ opt_within k rest
unfolding opt_within
data_out k rest e = ap (λ j. opt_within j rest) (sym e)

pub data_none : (n i : ℕ) (rest : List ℕ) → i < n → None ≡ record_frame_of rest → None ≡ opt_within (n - i) rest
unfolding opt_within
data_none n i rest less e = rw (sym e) at (data_from n i rest less)

pub data_found : (n i : ℕ) (r : RecordFrame × List ℕ × List ℕ) (rest : List ℕ) → i < n → Some r ≡ record_frame_of rest
    → eqb r.0.record_type 41 ≡ true → Some (r.0, r.1) ≡ opt_within (n - i) rest
unfolding opt_within
data_found n i r rest less e f = rw (sym e, f) at (data_from n i rest less)

pub data_more : (n i : ℕ) (r : RecordFrame × List ℕ × List ℕ) (rest : List ℕ) → i < n → Some r ≡ record_frame_of rest
    → eqb r.0.record_type 41 ≡ false → opt_within (n - (i + 1)) r.2 ≡ opt_within (n - i) rest
unfolding opt_within
data_more n i r rest less e f = rw (sym e, f) at (data_from n i rest less)

-- ---- options

value_from : (n i code : ℕ) (rest : List ℕ) → i < n → option_value (suc (n - (i + 1))) code rest ≡ option_value (n - i) code rest
value_from n i code rest less = ap (λ j. option_value j code rest) (one_less n i less)

pub value_out : (k code : ℕ) (rest : List ℕ) → k ≡ 0 → None ≡ option_value k code rest
unfolding option_value
value_out k code rest e = ap (λ j. option_value j code rest) (sym e)

pub value_none : (n i code : ℕ) (rest : List ℕ) → i < n → None ≡ option_of rest → None ≡ option_value (n - i) code rest
unfolding option_value
value_none n i code rest less e = rw (sym e) at (value_from n i code rest less)

pub value_found : (n i code : ℕ) (o : ℕ × List ℕ × List ℕ) (rest : List ℕ) → i < n → Some o ≡ option_of rest
    → eqb o.0 code ≡ true → Some o.1 ≡ option_value (n - i) code rest
unfolding option_value
value_found n i code o rest less e f = rw (sym e, f) at (value_from n i code rest less)

pub value_more : (n i code : ℕ) (o : ℕ × List ℕ × List ℕ) (rest : List ℕ) → i < n → Some o ≡ option_of rest
    → eqb o.0 code ≡ false → option_value (n - (i + 1)) code o.2 ≡ option_value (n - i) code rest
unfolding option_value
value_more n i code o rest less e f = rw (sym e, f) at (value_from n i code rest less)
