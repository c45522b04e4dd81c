-- Facts about parts between separators that are taken from the left.
use Rattle.std.proofs.Common.{◌≡◌, ◌≤◌, ◌<◌, ℕ, ◌+◌, ◌-◌, take_all, length-drop, drop-drop, List, [], ◌∷◌, ◌++◌, Bool, true, false, cond, length, take, drop, set, ◌==◌, refl, sym, ap, ◌∙◌, arith, Option, Some, None, ltb, if◌then◌else◌, append_assoc, append-nil}
use Rattle.std.specs.Prelude.{option_map}
use Rattle.std.specs.List.{position_or_len}
use Rattle.std.proofs.lemmas.Bool.Decides.{leb_tells, nat_tests}
use Rattle.std.proofs.lemmas.Grind.{common_steps}
use Rattle.std.proofs.lemmas.List.Sums.{fails_before_first}
use Rattle.std.proofs.lemmas.List.Splits.{slice_split_none, slice_split_first, length-slice_split}
use Rattle.line_text.specs.Parts.{parts, octets_of_parts}
use Rattle.line_text.proofs.HexFacts.{after_octets}

-- where the separator was found
abbrev pub found_at : (ℕ → Bool) → List ℕ → Option ℕ
found_at p s = cond (ltb (position_or_len p s) (length s)) (Some (position_or_len p s)) None

none_found : (p : ℕ → Bool) (s : List ℕ) → found_at p s ≡ None → length s ≤ position_or_len p s
none_found p s h = by (ltb (position_or_len p s) (length s)) refl h
  where
    by : (b : Bool) → ltb (position_or_len p s) (length s) ≡ b → cond b (Some (position_or_len p s)) None ≡ None → length s ≤ position_or_len p s
    by true e g = absurd (grind arith)
    by false e g = grind (arith, leb_tells)

some_found : (p : ℕ → Bool) (s : List ℕ) (k : ℕ) → found_at p s ≡ Some k → (position_or_len p s ≡ k) × (k < length s)
some_found p s k h = by (ltb (position_or_len p s) (length s)) refl h
  where
    by : (b : Bool) → ltb (position_or_len p s) (length s) ≡ b → cond b (Some (position_or_len p s)) None ≡ Some k → (position_or_len p s ≡ k) × (k < length s)
    by true e g = let is : position_or_len p s ≡ k = grind arith in (is, grind (arith, leb_tells))
    by false e g = absurd (grind arith)

-- with no separator the text is its one part
pub one_part : (separator : ℕ) (s : List ℕ) → found_at (λ b. b == separator) s ≡ None → parts separator s ≡ s ∷ []
one_part separator s h =
    let ended = none_found (λ b. b == separator) s h in
    slice_split_none (λ b. b == separator) s (λ k d m. fails_before_first (λ b. b == separator) s k d (omega (arith, ended)))

-- the part before the first separator, and the others
pub first_part : (separator : ℕ) (s : List ℕ) (k : ℕ) → found_at (λ b. b == separator) s ≡ Some k → parts separator s ≡ take k s ∷ parts separator (drop (k + 1) s)
first_part separator s k h =
    let at = some_found (λ b. b == separator) s k h in
    rw at.0 at (slice_split_first (λ b. b == separator) s 0 (omega (arith, at.0, at.1)))

-- these octets have been read, and these parts are left
pub record PartsRead (octets_of : List ℕ → Option (List ℕ)) (ps left : List (List ℕ)) (octets : List ℕ) : Type 0 where
  pub octets_are : octets_of_parts octets_of ps ≡ after_octets octets (octets_of_parts octets_of left)

after_no_octets : (r : Option (List ℕ)) → after_octets [] r ≡ r
after_no_octets (Some more) = refl
after_no_octets None = refl

after_more : (octets x : List ℕ) (r : Option (List ℕ)) → after_octets octets (option_map (λ more. x ++ more) r) ≡ after_octets (octets ++ x) r
after_more octets x (Some more) = ap (λ (o : List ℕ). Some o) (sym (append_assoc octets x more))
after_more octets x None = refl

pub parts_start : (octets_of : List ℕ → Option (List ℕ)) (ps : List (List ℕ)) → PartsRead octets_of ps ps []
parts_start octets_of ps = record { octets_are = sym (after_no_octets _) }

pub parts_step : (octets_of : List ℕ → Option (List ℕ)) (ps left others : List (List ℕ)) (p octets x : List ℕ) → PartsRead octets_of ps left octets → left ≡ p ∷ others → octets_of p ≡ Some x → PartsRead octets_of ps others (octets ++ x)
parts_step octets_of ps left others p octets x reads e h = record {
  octets_are = reads.octets_are ∙ rw (e, h) (after_more octets x (octets_of_parts octets_of others));
}

pub parts_stuck : (octets_of : List ℕ → Option (List ℕ)) (ps left others : List (List ℕ)) (p octets : List ℕ) → PartsRead octets_of ps left octets → left ≡ p ∷ others → octets_of p ≡ None → octets_of_parts octets_of ps ≡ None
parts_stuck octets_of ps left others p octets reads e h = reads.octets_are ∙ rw (e, h) refl

pub parts_end : (octets_of : List ℕ → Option (List ℕ)) (ps left : List (List ℕ)) (octets : List ℕ) → PartsRead octets_of ps left octets → left ≡ [] → octets_of_parts octets_of ps ≡ Some octets
parts_end octets_of ps left octets reads e = reads.octets_are ∙ rw e (ap (λ (o : List ℕ). Some o) (append-nil octets))

-- of a count of parts that is wanted
pub wrong_count : (n wanted : ℕ) (r : Option (List ℕ)) → (n ≡ wanted → ⊥) → None ≡ (if n == wanted then r else None)
wrong_count n wanted r h = let no : (n == wanted) ≡ false = grind (arith, nat_tests) in rw no refl

pub no_octets : (n wanted : ℕ) (r : Option (List ℕ)) → r ≡ None → None ≡ (if n == wanted then r else None)
no_octets n wanted r e = by (n == wanted)
  where
    by : (b : Bool) → None ≡ (if b then r else None)
    by true = sym e
    by false = refl

pub right_count : (n wanted : ℕ) (r : Option (List ℕ)) (octets : List ℕ) → n ≡ wanted → r ≡ Some octets → Some octets ≡ (if n == wanted then r else None)
right_count n wanted r octets h e = let yes : (n == wanted) ≡ true = grind (arith, nat_tests) in rw (yes, e) refl

pub some_parts : (separator : ℕ) (s : List ℕ) → 1 ≤ length (parts separator s)
some_parts separator s = omega (arith, length-slice_split (λ b. b == separator) s)

-- one octet more, and two, of those that are at the front
pub one_octet_more : (xs : List ℕ) (i x : ℕ) → i < length xs → take (i + 1) (set xs i x) ≡ take i xs ++ x ∷ []
one_octet_more xs i x h = grind (arith, common_steps)

pub two_octets_more : (xs : List ℕ) (i x y : ℕ) → i + 1 < length xs → take (i + 2) (set (set xs i x) (i + 1) y) ≡ take i xs ++ x ∷ y ∷ []
two_octets_more xs i x y h = grind (arith, common_steps)

-- what follows the separator
pub after_separator : (k : ℕ) (s from : List ℕ) → from ≡ drop k s → take (length from - 1) (drop 1 from) ≡ drop (k + 1) s
after_separator k s from e =
    let whole : take (length from - 1) (drop 1 from) ≡ drop 1 from = take_all (length from - 1) (drop 1 from) (omega (arith, length-drop 1 from)) in
    whole ∙ ap (drop 1) e ∙ drop-drop 1 k s

pub ruleset reading = (parts_start, parts_step, parts_stuck, parts_end, wrong_count, no_octets, right_count, one_octet_more, two_octets_more)
