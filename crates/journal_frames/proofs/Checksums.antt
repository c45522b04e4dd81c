-- Checksums: how long they are, and their comparison
use Rattle.std.proofs.Common.{◌≡◌, ◌≢◌, ℕ, List, [], ◌∷◌, length, refl, ap, ◌∙◌, Bool, true, false}
use Rattle.std.specs.Prelude.{nat_eq, ◌&&◌}
use Rattle.std.specs.Cmp.Lexicographic.{pointwise}
use Rattle.std.proofs.lemmas.Bool.{eq-eqb, eqb-true}
use Rattle.sha2.proofs.Facts256.{length-sha256}
use Rattle.journal_frames.specs.Frames.{checksum}

pub length-checksum : (m : List ℕ) → length (checksum m) ≡ 32
unfolding checksum
length-checksum m = length-sha256 m

pub same_octets : (xs : List ℕ) → pointwise nat_eq xs xs ≡ true
same_octets [] = refl
same_octets (x ∷ xs) = ap (λ b. b && pointwise nat_eq xs xs) (eq-eqb x x refl) ∙ same_octets xs

ends : (x y : ℕ) (xs ys : List ℕ) → (pointwise nat_eq xs ys ≡ true → xs ≡ ys) → (nat_eq x y && pointwise nat_eq xs ys) ≡ true → (x ∷ xs) ≡ (y ∷ ys)
ends x y xs ys ih h = by (nat_eq x y) refl h
  where
    by : (b : Bool) → nat_eq x y ≡ b → (b && pointwise nat_eq xs ys) ≡ true → (x ∷ xs) ≡ (y ∷ ys)
    by true e g = ap (λ (z : ℕ). z ∷ xs) (eqb-true x y e) ∙ ap (λ (zs : List ℕ). y ∷ zs) (ih g)
    by false e g = absurd cc

pub octets_same : (xs ys : List ℕ) → pointwise nat_eq xs ys ≡ true → xs ≡ ys
octets_same [] [] h = refl
octets_same [] (y ∷ ys) h = absurd cc
octets_same (x ∷ xs) [] h = absurd cc
octets_same (x ∷ xs) (y ∷ ys) h = ends x y xs ys (octets_same xs ys) h

pub octets_differ : (xs ys : List ℕ) → xs ≢ ys → pointwise nat_eq xs ys ≡ false
octets_differ xs ys h = by (pointwise nat_eq xs ys) refl
  where
    by : (b : Bool) → pointwise nat_eq xs ys ≡ b → b ≡ false
    by true e = absurd (h (octets_same xs ys e))
    by false e = refl
