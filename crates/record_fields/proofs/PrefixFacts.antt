-- Address prefixes that are read one after the other
use Rattle.std.proofs.Common.{◌≡◌, ℕ, List, ◌∷◌, ◌++◌, false, Some, Result, Ok, Err, refl, sym, ap, ◌∙◌, append_assoc}
use Rattle.zone_scanner.specs.Entries.{WordText}
use Rattle.record_fields.specs.declared.fault.Fault.{Fault}
use Rattle.record_fields.specs.Prefixes.{prefix_of_word}
use Rattle.record_fields.specs.Readings.{after, ◌>>=◌}
use Rattle.record_fields.specs.Texts.{prefixes_of}

regrouped : (out first : List ℕ) (r : Result (List ℕ) Fault) → after out (r >>= λ more. Ok (first ++ more)) ≡ after (out ++ first) r
regrouped out first (Ok more) = ap Ok (sym (append_assoc out first more))
regrouped out first (Err f) = refl

first_read : (w : WordText) (ws : List WordText) (first : List ℕ) → w.quoted ≡ false → prefix_of_word w.octets ≡ Some first
    → prefixes_of (w ∷ ws) ≡ (prefixes_of ws >>= λ more. Ok (first ++ more))
first_read w ws first plain read = rw (plain, read) refl

pub one_prefix_more : (out new first : List ℕ) (w : WordText) (left rest : List WordText) (all : Result (List ℕ) Fault)
    → left ≡ w ∷ rest → new ≡ out ++ first → w.quoted ≡ false → prefix_of_word w.octets ≡ Some first
    → after out (prefixes_of left) ≡ all → after new (prefixes_of rest) ≡ all
one_prefix_more out new first w left rest all steps pushed plain read h =
    ap (λ (t : List ℕ). after t (prefixes_of rest)) pushed
    ∙ sym (regrouped out first (prefixes_of rest))
    ∙ sym (ap (after out) (first_read w rest first plain read))
    ∙ sym (ap (λ (ws : List WordText). after out (prefixes_of ws)) steps) ∙ h
