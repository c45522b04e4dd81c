-- Facts about the digits of a number that are read from the left.
use Rattle.std.proofs.Common.{◌≡◌, ◌≤◌, ◌<◌, ℕ, ◌+◌, ◌*◌, List, [], ◌∷◌, Bool, true, false, ◌&&◌, nat_lt, nat_le, length, drop, get_or, refl, arith, add-one, drop-cons, sym, ap, ◌∙◌, Option, Some, None, if◌then◌else◌, true≢false}
use Rattle.std.specs.Str.Parse.{digits_value, digits_value_after}
use Rattle.std.specs.Char.{digit_value, is_digit}
use Rattle.std.specs.List.{list_all}
use Rattle.std.proofs.lemmas.Bool.Decides.{leb_tells}
use Rattle.std.proofs.lemmas.List.{drop_all}
use Rattle.std.proofs.Math.Nat.{le-mul_of_pos_right}
use Rattle.line_text.specs.Numbers.{digit_of, at_most, is_numeral, number_within}

-- the digits up to i have been read as the number so far
pub record ReadsOn (base : ℕ) (word : List ℕ) (so_far i : ℕ) : Type 0 where
  pub value_is : digits_value base word ≡ digits_value_after base so_far (drop i word)
  pub digits : list_all (λ c. is_digit c base) word ≡ list_all (λ c. is_digit c base) (drop i word)

pub reads_on_start : (base : ℕ) (word : List ℕ) → ReadsOn base word 0 0
reads_on_start base word = record { value_is = refl; digits = refl }

cut_at : (word : List ℕ) (i : ℕ) → i < length word → drop i word ≡ get_or word i 0 ∷ drop (i + 1) word
cut_at word i within = rw (add-one, drop-cons word i 0)

-- a multiple is no less
factor : (n base : ℕ) → 1 ≤ base → n ≤ n * base
factor n base h = le-mul_of_pos_right n h

digit_none : (base c : ℕ) → digit_of base c ≡ None → is_digit c base ≡ false
digit_none base c h = by (is_digit c base) refl h
  where
    by : (b : Bool) → is_digit c base ≡ b → (if b then Some (digit_value c) else None) ≡ None → is_digit c base ≡ false
    by true e g = absurd (grind arith)
    by false e g = e

digit_some : (base c d : ℕ) → digit_of base c ≡ Some d → (is_digit c base ≡ true) × (digit_value c ≡ d)
digit_some base c d h = by (is_digit c base) refl h
  where
    by : (b : Bool) → is_digit c base ≡ b → (if b then Some (digit_value c) else None) ≡ Some d → (is_digit c base ≡ true) × (digit_value c ≡ d)
    by true e g = (e, grind arith)
    by false e g = absurd (grind arith)

pub reads_on_step : (base : ℕ) (word : List ℕ) (so_far i d : ℕ) → i < length word → digit_of base (get_or word i 0) ≡ Some d → ReadsOn base word so_far i → ReadsOn base word (so_far * base + d) (i + 1)
reads_on_step base word so_far i d within h reads =
    let cut = cut_at word i within in
    let found = digit_some base (get_or word i 0) d h in
    record {
      value_is = reads.value_is ∙ ap (digits_value_after base so_far) cut ∙ ap (λ k. digits_value_after base (so_far * base + k) (drop (i + 1) word)) found.1;
      digits = reads.digits ∙ ap (list_all (λ c. is_digit c base)) cut ∙ ap (λ b. b && list_all (λ c. is_digit c base) (drop (i + 1) word)) found.0;
    }

-- a number in a base grows with its digits
grows : (base n : ℕ) (ds : List ℕ) → 1 ≤ base → n ≤ digits_value_after base n ds
grows base n [] h = omega arith
grows base n (c ∷ cs) h = omega (arith, grows base (n * base + digit_value c) cs h, factor n base h)

-- where there are no digits, there is no number
pub read_nothing : (base most : ℕ) (word : List ℕ) → length word ≡ 0 → None ≡ number_within base most word
read_nothing base most [] h = refl
read_nothing base most (c ∷ cs) h = absurd (omega arith)

second_fails : (a b : Bool) (r : Option ℕ) → b ≡ false → None ≡ (if a && b then r else None)
second_fails true false r e = refl
second_fails false false r e = refl
second_fails a true r e = absurd (true≢false e)

no_value : (b : Bool) (r : Option ℕ) → r ≡ None → None ≡ (if b then r else None)
no_value true r e = sym e
no_value false r e = refl

above : (most n : ℕ) → most < n → at_most most n ≡ None
above most n h = let no : nat_le n most ≡ false = grind (arith, leb_tells) in rw no refl

pub within_most : (most n : ℕ) → n ≤ most → at_most most n ≡ Some n
within_most most n h = let yes : nat_le n most ≡ true = grind (arith, leb_tells) in rw yes refl

none_is_above : (most n : ℕ) → at_most most n ≡ None → most < n
none_is_above most n h = by (nat_le n most) refl h
  where
    by : (b : Bool) → nat_le n most ≡ b → (if b then Some n else None) ≡ None → most < n
    by true e g = absurd (grind arith)
    by false e g = grind (arith, leb_tells)

-- an octet that is no digit ends the reading
pub read_stuck : (base most : ℕ) (word : List ℕ) (so_far i : ℕ) → i < length word → digit_of base (get_or word i 0) ≡ None → ReadsOn base word so_far i → None ≡ number_within base most word
read_stuck base most word so_far i within h reads =
    let no : list_all (λ c. is_digit c base) word ≡ false = reads.digits ∙ ap (list_all (λ c. is_digit c base)) (cut_at word i within) ∙ ap (λ b. b && list_all (λ c. is_digit c base) (drop (i + 1) word)) (digit_none base (get_or word i 0) h) in
    second_fails (nat_lt 0 (length word)) _ (at_most most (digits_value base word)) no

-- a number that is too large stays so
pub read_large : (base most : ℕ) (word : List ℕ) (so_far i : ℕ) (d : ℕ) → i < length word → 2 ≤ base → digit_of base (get_or word i 0) ≡ Some d → at_most most (so_far * base + d) ≡ None → ReadsOn base word so_far i → None ≡ number_within base most word
read_large base most word so_far i d within h digit large reads =
    let at : digit_value (get_or word i 0) ≡ d = (digit_some base (get_or word i 0) d digit).1 in
    let value : digits_value base word ≡ digits_value_after base (so_far * base + d) (drop (i + 1) word) = reads.value_is ∙ ap (digits_value_after base so_far) (cut_at word i within) ∙ ap (λ k. digits_value_after base (so_far * base + k) (drop (i + 1) word)) at in
    let more = grows base (so_far * base + d) (drop (i + 1) word) (omega arith) in
    let over : most < so_far * base + d = none_is_above most (so_far * base + d) large in
    no_value (is_numeral base word) _ (above most (digits_value base word) (omega (arith, value, more, over)))

-- all digits have been read
pub read_whole : (base most : ℕ) (word : List ℕ) (so_far i : ℕ) → 0 < length word → length word ≤ i → so_far ≤ most → ReadsOn base word so_far i → Some so_far ≡ number_within base most word
read_whole base most word so_far i some ended within reads =
    let none_left = drop_all i word ended in
    let value : digits_value base word ≡ so_far = reads.value_is ∙ ap (digits_value_after base so_far) none_left in
    let all : list_all (λ c. is_digit c base) word ≡ true = reads.digits ∙ ap (list_all (λ c. is_digit c base)) none_left in
    let has : nat_lt 0 (length word) ≡ true = grind (arith, leb_tells) in
    rw (has, all, value) (sym (within_most most so_far within))
