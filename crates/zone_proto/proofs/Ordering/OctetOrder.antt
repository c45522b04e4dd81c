-- Octets are ordered as the numbers are that eight of them make, the first one the highest.
use Rattle.std.proofs.Common.{◌≡◌, ℕ, suc, ◌+◌, ◌*◌, ◌^◌, ◌<◌, ◌≤◌, List, [], ◌∷◌, length, get_or, refl, sym, subst, ap, ◌∙◌, arith, w64}
use Rattle.std.proofs.Math.Nat.{mul-le-mul_left, pow-suc}
use Rattle.std.specs.Int.{from_be_bytes}
use Rattle.std.specs.Ordering.{nat_cmp, ordering_then}
use Rattle.std.specs.Cmp.Lexicographic.{slice_cmp}
use Rattle.zone_proto.proofs.Ordering.Base32Order.{weighed}

-- each is below 256
abbrev AreOctets : List ℕ → Type 0
AreOctets xs = (i : ℕ) → get_or xs i 0 < 256

-- the number that octets make
abbrev worth : List ℕ → ℕ
worth [] = 0
worth (b ∷ bs) = 256 ^ length bs * b + worth bs

worth_below : (xs : List ℕ) → AreOctets xs → worth xs < 256 ^ length xs
worth_below [] h = omega arith
worth_below (b ∷ bs) h =
    let room : 256 ^ length bs * suc b ≤ 256 ^ length bs * 256 = mul-le-mul_left (256 ^ length bs) (h 0) in
    let below : worth bs < 256 ^ length bs = worth_below bs (λ i. h (suc i)) in
    omega (arith, pow-suc 256 (length bs))

worth_sorts : (xs ys : List ℕ) → length xs ≡ length ys → AreOctets xs → AreOctets ys
    → nat_cmp (worth xs) (worth ys) ≡ slice_cmp nat_cmp xs ys
worth_sorts [] [] e h k = refl
worth_sorts [] (y ∷ ys) e h k = absurd (omega (arith, e))
worth_sorts (x ∷ xs) [] e h k = absurd (omega (arith, e))
worth_sorts (x ∷ xs) (y ∷ ys) e h k =
    let same : length xs ≡ length ys = omega (arith, e) in
    ap (λ n. nat_cmp (256 ^ n * x + worth xs) (256 ^ length ys * y + worth ys)) same
    ∙ weighed (256 ^ length ys) x (worth xs) y (worth ys) (subst (λ n. worth xs < 256 ^ n) same (worth_below xs (λ i. h (suc i)))) (worth_below ys (λ i. k (suc i)))
    ∙ ap (ordering_then (nat_cmp x y)) (worth_sorts xs ys same (λ i. h (suc i)) (λ i. k (suc i)))

-- eight of them
pub eight_sort : (xs ys : List ℕ) → length xs ≡ 8 → length ys ≡ 8 → AreOctets xs → AreOctets ys
    → nat_cmp (from_be_bytes w64 xs) (from_be_bytes w64 ys) ≡ slice_cmp nat_cmp xs ys
eight_sort xs ys e f h k = (λ i. nat_cmp (eight_worth xs e i) (eight_worth ys f i)) ∙ worth_sorts xs ys (e ∙ sym f) h k
  where
    eight_worth : (zs : List ℕ) → length zs ≡ 8 → from_be_bytes w64 zs ≡ worth zs
    eight_worth (a ∷ b ∷ c ∷ d ∷ p ∷ q ∷ r ∷ s ∷ []) e = omega arith
    eight_worth zs e = absurd (omega (arith, e))
