-- Entries one after the other, as a loop reads them
use Rattle.std.proofs.Common.{◌≡◌, ℕ, suc, List, [], ◌∷◌, ◌++◌, Option, Some, None, refl, sym, ap, ◌∙◌, append_assoc}
use Rattle.std.proofs.lemmas.List.{append-nil}
use Rattle.message_reading.specs.Octets.{◌>>=◌}
use Rattle.message_reading.specs.Messages.{several}

-- what was read before, and what is still read
abbrev pub with_front : {A : Type 0} → List A → Option (List A × List ℕ) → Option (List A × List ℕ)
with_front front read = read >>= λ x. Some (front ++ x.0, x.1)

pub several_all : {A : Type 0} (read : Option (List A × List ℕ)) → with_front [] read ≡ read
several_all None = refl
several_all (Some x) = refl

pub several_none : {A : Type 0} (read : List ℕ → Option (A × List ℕ)) (k : ℕ) (octets : List ℕ) (front : List A) (whole : Option (List A × List ℕ))
    → None ≡ read octets → with_front front (several read (suc k) octets) ≡ whole → None ≡ whole
unfolding several
several_none read k octets front whole e h = rw (sym e) at h

pub several_more : {A : Type 0} (read : List ℕ → Option (A × List ℕ)) (k : ℕ) (octets next : List ℕ) (front : List A) (x : A) (whole : Option (List A × List ℕ))
    → Some (x, next) ≡ read octets → with_front front (several read (suc k) octets) ≡ whole
    → with_front (front ++ x ∷ []) (several read k next) ≡ whole
unfolding several
several_more {A = A} read k octets next front x whole e h = sym (regroup (several read k next)) ∙ (rw (sym e) at h)
  where
    regroup : (r : Option (List A × List ℕ)) → with_front front (r >>= λ others. Some (x ∷ others.0, others.1)) ≡ with_front (front ++ x ∷ []) r
    regroup None = refl
    regroup (Some y) = ap (λ s. Some (s, y.1)) (sym (append_assoc front (x ∷ []) y.0))

pub several_end : {A : Type 0} (read : List ℕ → Option (A × List ℕ)) (k : ℕ) (octets : List ℕ) (front : List A) (whole : Option (List A × List ℕ))
    → k ≡ 0 → with_front front (several read k octets) ≡ whole → Some (front, octets) ≡ whole
unfolding several
several_end read k octets front whole none h =
    ap (λ s. Some (s, octets)) (sym (append-nil front)) ∙ ap (λ j. with_front front (several read j octets)) (sym none) ∙ h
