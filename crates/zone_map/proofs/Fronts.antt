-- The longest front of a list that passes a test
use Rattle.std.proofs.Common.{◌≡◌, ℕ, zero, suc, ◌<◌, ◌≤◌, Bool, true, false, cond, List, [], ◌∷◌, ◌++◌, length, take, drop, refl, sym, ap, ◌∙◌, ◌⊎◌, inl, inr, arith}
use Rattle.std.proofs.lemmas.List.{take-append-drop, length-append}
use Rattle.std.proofs.Math.Seq.{take-append_seam}
use Rattle.zone_map.specs.Fronts.{longest_front_of, longest_front, IsLongestFront}

up_to : (n k : ℕ) → n ≤ suc k → (n ≤ k) ⊎ (n ≡ suc k)
up_to n k h = grind arith

-- a front that passes, where no longer one does, is the longest
module _ {X : Type 0} (p : List X → Bool) (xs : List X) (n : ℕ) (longer : (k : ℕ) → n < k → k ≤ length xs → p (take k xs) ≡ false) where
  front_is : (k : ℕ) → n ≤ k → k ≤ length xs → p (take n xs) ≡ true → longest_front_of p xs k ≡ take n xs
  front_is zero a b h = let e : n ≡ 0 = omega arith in sym (ap (λ m. take m xs) e)
  front_is (suc k) a b h = by (up_to n k a) (λ q. front_is k q (omega arith) h)
    where
      by : (n ≤ k) ⊎ (n ≡ suc k) → (n ≤ k → longest_front_of p xs k ≡ take n xs) → cond (p (take (suc k) xs)) (take (suc k) xs) (longest_front_of p xs k) ≡ take n xs
      by (inl q) ih = ap (λ c. cond c (take (suc k) xs) (longest_front_of p xs k)) (longer (suc k) (omega arith) b) ∙ ih q
      by (inr q) ih = ap (λ c. cond c (take (suc k) xs) (longest_front_of p xs k)) (ap (λ m. p (take m xs)) (sym q) ∙ h) ∙ sym (ap (λ m. take m xs) q)

  pub longest_front_is : n ≤ length xs → p (take n xs) ≡ true → longest_front p xs ≡ take n xs
  longest_front_is a h = front_is (length xs) a (omega arith) h

-- ---- where the empty front passes, the longest front is one that passes, and none that passes is longer

module _ {X : Type 0} (p : List X → Bool) (xs : List X) (empty : p [] ≡ true) where
  front_taken : (k : ℕ) → k ≤ length xs → (n : ℕ) × (longest_front_of p xs k ≡ take n xs)
  front_taken zero h = (0, refl)
  front_taken (suc k) h = by (p (take (suc k) xs)) (front_taken k (omega arith))
    where
      by : (b : Bool) → (n : ℕ) × (longest_front_of p xs k ≡ take n xs) → (n : ℕ) × (cond b (take (suc k) xs) (longest_front_of p xs k) ≡ take n xs)
      by true ih = (suc k, refl)
      by false ih = ih

  front_passes : (k : ℕ) → p (longest_front_of p xs k) ≡ true
  front_passes zero = empty
  front_passes (suc k) = by (p (take (suc k) xs)) refl (front_passes k)
    where
      by : (b : Bool) → p (take (suc k) xs) ≡ b → p (longest_front_of p xs k) ≡ true → p (cond b (take (suc k) xs) (longest_front_of p xs k)) ≡ true
      by true e ih = e
      by false e ih = ih

  taken_length : (k : ℕ) (ys : List X) → k ≤ length ys → length (take k ys) ≡ k
  taken_length zero ys h = refl
  taken_length (suc k) [] h = absurd (omega arith)
  taken_length (suc k) (y ∷ ys) h = ap suc (taken_length k ys (omega arith))

  at_most : (n k : ℕ) → n ≤ k → k ≤ length xs → p (take n xs) ≡ true → n ≤ length (longest_front_of p xs k)
  at_most n zero a b h = omega arith
  at_most n (suc k) a b h = by (p (take (suc k) xs)) refl (up_to n k a) (λ q. at_most n k q (omega arith) h)
    where
      by : (c : Bool) → p (take (suc k) xs) ≡ c → (n ≤ k) ⊎ (n ≡ suc k) → (n ≤ k → n ≤ length (longest_front_of p xs k)) → n ≤ length (cond c (take (suc k) xs) (longest_front_of p xs k))
      by true e u ih = omega (arith, taken_length (suc k) xs b)
      by false e (inl q) ih = ih q
      by false e (inr q) ih = absurd (other (sym h ∙ ap (λ m. p (take m xs)) q ∙ e))
        where
          other : true ≡ false → ⊥
          other e = cc

  pub longest_front_law : IsLongestFront p xs (longest_front p xs)
  longest_front_law =
      let t = front_taken (length xs) (omega arith) in
      record {
        is_front = (drop t.0 xs, sym (take-append-drop t.0 xs) ∙ ap (λ f. f ++ drop t.0 xs) (sym t.1));
        passes = front_passes (length xs);
        longest = λ other rest e h.
            let is : take (length other) xs ≡ other = ap (take (length other)) e ∙ take-append_seam other rest in
            at_most (length other) (length xs) (fits other rest e) (omega arith) (ap p is ∙ h);
      }
    where
      fits : (other rest : List X) → xs ≡ other ++ rest → length other ≤ length xs
      fits other rest e = omega (arith, ap length e ∙ length-append other rest)
