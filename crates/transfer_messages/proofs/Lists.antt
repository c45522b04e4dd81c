-- Lists without their first elements, and a map from a key on
use Rattle.std.proofs.Common.{◌≡◌, ℕ, zero, suc, ◌+◌, ◌-◌, ◌<◌, ◌≤◌, Bool, true, false, true≢false, List, [], ◌∷◌, ◌++◌, length, drop, refl, sym, ap, ◌∙◌, arith}
use Rattle.std.specs.Prelude.{◌==◌, IfOk, Result, Ok, Err}
use Rattle.std.proofs.lemmas.Bool.{eqb-true}
use Rattle.std.proofs.lemmas.List.{drop-drop, drop_all}
use Rattle.std.proofs.Math.Seq.{drop-append-add}

-- joined lists without their first elements
pub drop_joined : {A : Type 0} (n : ℕ) (xs ys : List A) → drop n (xs ++ ys) ≡ drop n xs ++ drop (n - length xs) ys
drop_joined {A} n [] ys = by n
  where
    by : (k : ℕ) → drop k ys ≡ drop k [] ++ drop (k - 0) ys
    by zero = refl
    by (suc k) = let e : suc k ≡ suc k - 0 = omega arith in ap (λ (i : ℕ). drop i ys) e
drop_joined zero (x ∷ xs) ys = let e : 0 ≡ 0 - length (x ∷ xs) = omega arith in ap (λ (i : ℕ). (x ∷ xs) ++ drop i ys) e
drop_joined (suc n) (x ∷ xs) ys =
    let e : n - length xs ≡ suc n - length (x ∷ xs) = omega arith in
    drop_joined n xs ys ∙ ap (λ (i : ℕ). drop n xs ++ drop i ys) e

-- so many and so many elements are dropped at once
pub dropped_twice : {A : Type 0} (n sent count : ℕ) (xs : List A) → n ≡ sent + count → drop n xs ≡ drop count (drop sent xs)
dropped_twice n sent count xs e = ap (λ (i : ℕ). drop i xs) e ∙ sym (drop-drop count sent xs)

-- they go over the first of joined lists
pub dropped_over : {A : Type 0} (xs ys : List A) (s c sent count : ℕ) → (s + c) + length xs ≡ sent + count → drop c (drop s ys) ≡ drop count (drop sent (xs ++ ys))
dropped_over xs ys s c sent count e =
    let over : length xs + (s + c) ≡ sent + count = omega (arith, e) in
    drop-drop c s ys ∙ sym (drop-append-add xs ys (s + c)) ∙ ap (λ (i : ℕ). drop i (xs ++ ys)) over ∙ sym (drop-drop count sent (xs ++ ys))

-- where all is dropped
pub both_over : {A : Type 0} (n sent count : ℕ) (xs : List A) → length xs ≤ n → length xs ≤ sent + count → drop n xs ≡ drop count (drop sent xs)
both_over n sent count xs h k = drop_all n xs h ∙ sym (drop_all (sent + count) xs k) ∙ sym (drop-drop count sent xs)

pub no_elements : {A : Type 0} (xs : List A) → length xs ≡ 0 → xs ≡ []
no_elements [] e = refl
no_elements (x ∷ xs) e = absurd (omega (arith, e))

-- what holds of a value that is there
pub if_ok : {T E : Type 0} (r : Result T E) (P Q : T → Type 0) → ((x : T) → P x → Q x) → IfOk r P → IfOk r Q
if_ok (Ok x) P Q f h = f x h
if_ok (Err e) P Q f h = tt

-- a test of emptiness
pub none_there : {A : Type 0} (xs : List A) (b : Bool) → b ≡ (length xs == 0) → b ≡ true → length xs ≡ 0
none_there xs b e f = eqb-true (length xs) 0 (sym e ∙ f)

pub some_there : {A : Type 0} (xs : List A) (b : Bool) → b ≡ (length xs == 0) → b ≡ false → 0 < length xs
some_there [] b e f = absurd (true≢false (sym e ∙ f))
some_there (x ∷ xs) b e f = omega arith
