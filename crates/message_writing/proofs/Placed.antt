-- Two octets in place of others
use Rattle.std.proofs.Common.{◌≡◌, ℕ, zero, suc, ◌+◌, ◌≤◌, List, [], ◌∷◌, ◌++◌, length, take, drop, refl, sym, ap, ◌∙◌, arith}
use Rattle.std.specs.Prelude.{set}

two_set : (o : List ℕ) (at a b : ℕ) → suc (suc at) ≤ length o → set (set o at a) (suc at) b ≡ take at o ++ (a ∷ b ∷ drop (suc (suc at)) o)
two_set [] at a b inside = absurd (omega arith)
two_set (x ∷ []) at a b inside = absurd (omega arith)
two_set (x ∷ y ∷ o) zero a b inside = refl
two_set (x ∷ y ∷ o) (suc at) a b inside = ap (λ s. x ∷ s) (two_set (y ∷ o) at a b (omega arith))

pub two_placed : (o : List ℕ) (at a b : ℕ) → at + 2 ≤ length o → set (set o at a) (at + 1) b ≡ take at o ++ (a ∷ b ∷ drop (at + 2) o)
two_placed o at a b inside =
    let one : at + 1 ≡ suc at = omega arith in
    let two : at + 2 ≡ suc (suc at) = omega arith in
    ap (λ n. set (set o at a) n b) one ∙ two_set o at a b (omega arith) ∙ ap (λ n. take at o ++ (a ∷ b ∷ drop n o)) (sym two)
