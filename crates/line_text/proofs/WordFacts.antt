-- Facts about the words of a line that are taken from the left.
use Rattle.std.proofs.Common.{◌≡◌, ◌≤◌, ◌<◌, ℕ, ◌+◌, List, [], ◌∷◌, Bool, true, false, cond, not, length, take, drop, get_or, refl, sym, ap, ◌∙◌, arith, Some, None, unwrap_or, ltb, add-one, drop-cons}
use Rattle.std.specs.List.{slice_split, filter, position_or_len, All}
use Rattle.std.proofs.lemmas.Bool.Decides.{leb_tells}
use Rattle.std.proofs.lemmas.Grind.{common_steps}
use Rattle.std.proofs.lemmas.List.{drop_all, take_all}
use Rattle.std.proofs.lemmas.List.Sums.{prefix_len-le-length, passes_at_first, fails_before_first}
use Rattle.std.proofs.lemmas.List.Splits.{slice_split-cons_yes, slice_split_none, slice_split_first}
use Rattle.line_text.specs.Words.{is_blank, words, has_octets}

-- the first place that passes, or the length if there is none
pub place : (p : ℕ → Bool) (s : List ℕ) → unwrap_or (cond (ltb (position_or_len p s) (length s)) (Some (position_or_len p s)) None) (length s) ≡ position_or_len p s
place p s = by (ltb (position_or_len p s) (length s)) refl
  where
    by : (b : Bool) → ltb (position_or_len p s) (length s) ≡ b → unwrap_or (cond b (Some (position_or_len p s)) None) (length s) ≡ position_or_len p s
    by true e = refl
    by false e = grind (arith, leb_tells, prefix_len-le-length)

-- a blank before a line has no part in its words
words_after_blank : (b : ℕ) (s : List ℕ) → is_blank b ≡ true → words (b ∷ s) ≡ words s
words_after_blank b s e = ap (filter has_octets) (slice_split-cons_yes is_blank b s e)

drop_more : (b k : ℕ) (s : List ℕ) → drop (1 + k) (b ∷ s) ≡ drop k s
drop_more b k s = grind (arith, common_steps)

-- the blanks at the front have no part in the words
pub words_after_blanks : (s : List ℕ) → words (drop (position_or_len (λ b. not (is_blank b)) s) s) ≡ words s
words_after_blanks [] = refl
words_after_blanks (b ∷ s) = by (is_blank b) refl (words_after_blanks s)
  where
    by : (p : Bool) → is_blank b ≡ p → words (drop (position_or_len (λ c. not (is_blank c)) s) s) ≡ words s → words (drop (cond (not (not p)) (1 + position_or_len (λ c. not (is_blank c)) s) 0) (b ∷ s)) ≡ words (b ∷ s)
    by true e more = ap words (drop_more b _ s) ∙ more ∙ sym (words_after_blank b s e)
    by false e more = refl

pub has_some : (w : List ℕ) → 0 < length w → has_octets w ≡ true
has_some [] h = absurd (omega arith)
has_some (b ∷ w) h = refl

-- a word before what is left of a line
kept : (w : List ℕ) (ws : List (List ℕ)) → 0 < length w → filter has_octets (w ∷ ws) ≡ w ∷ filter has_octets ws
kept [] ws h = absurd (omega arith)
kept (b ∷ w) ws h = refl

length_before : (k : ℕ) (s : List ℕ) → 0 < k → k ≤ length s → 0 < length (take k s)
length_before k s h g = grind (arith, common_steps)

-- a word that ends at a blank
word_first : (s : List ℕ) → 0 < position_or_len is_blank s → position_or_len is_blank s < length s → words s ≡ take (position_or_len is_blank s) s ∷ words (drop (position_or_len is_blank s) s)
word_first s h g =
    let k = position_or_len is_blank s in
    let at : is_blank (get_or s k 0) ≡ true = passes_at_first is_blank s 0 g in
    let cut : drop k s ≡ get_or s k 0 ∷ drop (k + 1) s = rw (add-one, drop-cons s k 0) in
    let after : words (drop k s) ≡ words (drop (k + 1) s) = ap words cut ∙ words_after_blank (get_or s k 0) (drop (k + 1) s) at in
    ap (filter has_octets) (slice_split_first is_blank s 0 g) ∙ kept (take k s) (slice_split is_blank (drop (k + 1) s)) (length_before k s h (omega arith)) ∙ ap (λ ws. take k s ∷ ws) (sym after)

-- a word that ends the line
word_last : (s : List ℕ) → 0 < length s → length s ≤ position_or_len is_blank s → words s ≡ take (position_or_len is_blank s) s ∷ words (drop (position_or_len is_blank s) s)
word_last s h g =
    let none : All (λ b. is_blank b ≡ false) s = λ k d m. fails_before_first is_blank s k d (omega arith) in
    ap (filter has_octets) (slice_split_none is_blank s none) ∙ kept s [] h ∙ rw (take_all (position_or_len is_blank s) s g, drop_all (position_or_len is_blank s) s g) refl

-- a word and what follows it
pub words_split : (s : List ℕ) → 0 < position_or_len is_blank s → words s ≡ take (position_or_len is_blank s) s ∷ words (drop (position_or_len is_blank s) s)
words_split s h = by (ltb (position_or_len is_blank s) (length s)) refl
  where
    by : (b : Bool) → ltb (position_or_len is_blank s) (length s) ≡ b → words s ≡ take (position_or_len is_blank s) s ∷ words (drop (position_or_len is_blank s) s)
    by true e = word_first s h (grind (arith, leb_tells))
    by false e = word_last s (grind (arith, prefix_len-le-length)) (grind (arith, leb_tells))

-- a line that begins with no blank and with no word is empty
no_word : (b : ℕ) (s : List ℕ) → is_blank b ≡ false → position_or_len is_blank (b ∷ s) ≡ 0 → b ∷ s ≡ []
no_word b s e h =
    let more : position_or_len is_blank (b ∷ s) ≡ 1 + position_or_len is_blank s = ap (λ p. cond (not p) (1 + position_or_len is_blank s) 0) e in
    absurd (omega arith)

-- where no word begins, nothing is left
pub words_none : (s : List ℕ) → position_or_len is_blank (drop (position_or_len (λ b. not (is_blank b)) s) s) ≡ 0 → drop (position_or_len (λ b. not (is_blank b)) s) s ≡ []
words_none [] h = refl
words_none (b ∷ s) h = by (is_blank b) refl (words_none s) h
  where
    by : (p : Bool) → is_blank b ≡ p
        → (position_or_len is_blank (drop (position_or_len (λ c. not (is_blank c)) s) s) ≡ 0 → drop (position_or_len (λ c. not (is_blank c)) s) s ≡ [])
        → position_or_len is_blank (drop (cond (not (not p)) (1 + position_or_len (λ c. not (is_blank c)) s) 0) (b ∷ s)) ≡ 0
        → drop (cond (not (not p)) (1 + position_or_len (λ c. not (is_blank c)) s) 0) (b ∷ s) ≡ []
    by true e more g = drop_more b _ s ∙ more (ap (position_or_len is_blank) (sym (drop_more b _ s)) ∙ g)
    by false e more g = no_word b s e g

-- the words of a text, by the word at its front: none, or the word and what follows
pub no_more : (s : List ℕ) (n k : ℕ) → n ≡ position_or_len (λ b. not (is_blank b)) s → k ≡ position_or_len is_blank (drop n s) → k ≡ 0 → words s ≡ []
no_more s n k e f z =
    let none : drop n s ≡ [] = rw e (words_none s (rw (← e) (sym f ∙ z))) in
    sym (rw (← e) at (words_after_blanks s)) ∙ ap words none

pub one_more : (s : List ℕ) (n k : ℕ) → n ≡ position_or_len (λ b. not (is_blank b)) s → k ≡ position_or_len is_blank (drop n s) → 0 < k → words s ≡ take k (drop n s) ∷ words (drop k (drop n s))
one_more s n k e f h =
    let from : words (drop n s) ≡ words s = rw e (words_after_blanks s) in
    let split = words_split (drop n s) (rw (← f) h) in
    sym from ∙ (rw (← f) at split)

pub place_within : (p : ℕ → Bool) (s : List ℕ) → position_or_len p s ≤ length s
place_within p s = prefix_len-le-length (λ b. not (p b)) s

pub ruleset taking = (place_within, no_more, one_more)
