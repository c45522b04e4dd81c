-- A loop that passes over records: what is left gives what the whole gives
use Rattle.std.proofs.Common.{◌≡◌, ℕ, suc, ◌+◌, ◌-◌, ◌<◌, Bool, eqb, List, Some, None, sym, ap, ◌∙◌, arith}
use Rattle.std.specs.Prelude.{◌||◌}
use Rattle.message_reading.specs.declared.record_frame.RecordFrame.{RecordFrame}
use Rattle.message_reading.specs.Unread.{record_frame_of}
use Rattle.message_tsig.specs.Places.{passed}

-- one step fewer is left
one_less : (n i : ℕ) → i < n → suc (n - (i + 1)) ≡ n - i
one_less n i h = omega arith

pub passed_out : (k : ℕ) (found : Bool) (rest : List ℕ) → k ≡ 0 → Some (found, rest) ≡ passed k found rest
unfolding passed
passed_out k found rest e = ap (λ j. passed j found rest) (sym e)

passed_from : (n i : ℕ) (found : Bool) (rest : List ℕ) → i < n → passed (suc (n - (i + 1))) found rest ≡ passed (n - i) found rest
passed_from n i found rest less = ap (λ j. passed j found rest) (one_less n i less)

pub passed_none : (n i : ℕ) (found : Bool) (rest : List ℕ) → i < n → None ≡ record_frame_of rest → None ≡ passed (n - i) found rest
unfolding passed
passed_none n i found rest less e = rw (sym e) at (passed_from n i found rest less)

pub passed_more : (n i : ℕ) (found more : Bool) (rest : List ℕ) (r : RecordFrame × List ℕ × List ℕ) → i < n → Some r ≡ record_frame_of rest
    → more ≡ (found || eqb r.0.record_type 250) → passed (n - (i + 1)) more r.2 ≡ passed (n - i) found rest
unfolding passed
passed_more n i found more rest r less e f =
    ap (λ b. passed (n - (i + 1)) b r.2) f ∙ (rw (sym e) at (passed_from n i found rest less))
