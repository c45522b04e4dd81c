-- Lines that are taken from the left
use Rattle.std.proofs.Common.{◌≡◌, ◌≢◌, ◌≤◌, ◌<◌, ◌+◌, ◌==◌, ℕ, suc, List, [], ◌∷◌, ◌++◌, Bool, true, false, length, take, drop, not, ◌||◌, ◌-◌, nat_le, get_or, refl, sym, ap, ◌∙◌, subst, arith, Option, Some, None, append_assoc, append-nil, length-append, add-one, drop-cons, if◌then◌else◌}
use Rattle.std.specs.Prelude.{All, map, slice_index}
use Rattle.std.specs.List.{slice_split, slice_range}
use Rattle.std.specs.Str.Lines.{lines, lines_of_parts, strip_carriage_return}
use Rattle.std.proofs.lemmas.Bool.{eqb-true}
use Rattle.std.proofs.lemmas.Bool.Decides.{leb_tells, nat_tests}
use Rattle.std.proofs.lemmas.Grind.{common_steps}
use Rattle.std.proofs.lemmas.List.{drop-drop, drop-take, get_or_default, get_or-take, take-append-drop}
use Rattle.std.proofs.Math.Seq.{drop-append-add, drop-length}
use Rattle.std.proofs.lemmas.List.Elements.{All-append}
use Rattle.std.proofs.lemmas.List.Splits.{length-slice_split, slice_split_at, slice_split_none}
use Rattle.memchr.specs.Find.{is_byte, IsFirstByte, Passes}
use Rattle.zonectl_commands.specs.Lines.{plain, lines_of}
use Rattle.zonectl_commands.specs.InHand.{HasNoFeed, IsBegun, InHand, IsUntaken, TakesLine}
use Rattle.zonectl_commands.specs.Kept.{begun_of, is_feed, kept_if, IsCut}

-- ---- the first line feed

feed_test : (o : ℕ) → o ≢ 10 → is_feed o ≡ false
feed_test o h = by (is_feed o) refl
  where
    by : (b : Bool) → is_feed o ≡ b → b ≡ false
    by true e = absurd (h (eqb-true o 10 e))
    by false e = refl

-- an octet of which the kit's search says that it is no line feed
no_feed : (xs : List ℕ) (k d : ℕ) → k < length xs → ¬ Passes (is_byte 10) xs k → get_or xs k d ≢ 10
no_feed xs k d m other e = other (ap (λ o. o == 10) (get_or_default xs k 0 d m ∙ e))

pub cut_none : (xs : List ℕ) → IsFirstByte (is_byte 10) xs None → IsCut xs xs false
cut_none xs none = (λ k d m. no_feed xs k d m (none k (omega arith) m), refl)

pub cut_some : (xs : List ℕ) (i : ℕ) → IsFirstByte (is_byte 10) xs (Some i) → IsCut xs (take i xs) true
cut_some xs i found =
    let feed : get_or xs i 0 ≡ 10 = eqb-true (slice_index xs i) 10 found.1 in
    let within : i < length xs = found.0.high in
    let from : drop i xs ≡ 10 ∷ drop (i + 1) xs = rw (add-one, drop-cons xs i 0) (ap (λ o. o ∷ drop (suc i) xs) feed) in
    let before : HasNoFeed (take i xs) = λ k d m.
    let low : k < i = grind (arith, common_steps) in
    rw (get_or-take i xs k d low) (no_feed xs k d (omega (arith, low, within)) (found.0.before k (omega arith) low)) in
    (before, (drop (i + 1) xs, sym (take-append-drop i xs) ∙ ap (λ ys. take i xs ++ ys) from))

pub ruleset cutting = (cut_none, cut_some)

-- ---- the lines of octets, by the first line feed

feedless : (l : List ℕ) → HasNoFeed l → All (λ o. is_feed o ≡ false) l
feedless l h = λ k d m. feed_test (get_or l k d) (h k d m)

some_part : (xs : List ℕ) → slice_split is_feed xs ≢ []
some_part xs e = let none : length (slice_split is_feed xs) ≡ 0 = ap length e in absurd (omega (arith, none, length-slice_split is_feed xs))

parts_after : (part xs : List ℕ) → lines_of_parts (part ∷ slice_split is_feed xs) ≡ strip_carriage_return part ∷ lines_of_parts (slice_split is_feed xs)
parts_after part xs = by (slice_split is_feed xs) (some_part xs)
  where
    by : (ps : List (List ℕ)) → ps ≢ [] → lines_of_parts (part ∷ ps) ≡ strip_carriage_return part ∷ lines_of_parts ps
    by [] n = absurd (n refl)
    by (p ∷ ps) n = refl

lines_first : (l rest : List ℕ) → HasNoFeed l → lines (l ++ 10 ∷ rest) ≡ strip_carriage_return l ∷ lines rest
lines_first l rest h = ap lines_of_parts (slice_split_at is_feed l 10 rest (feedless l h) refl) ∙ parts_after l rest

-- the line that ends first is taken from octets, whatever follows them
pub first_line_of : (l rest : List ℕ) → HasNoFeed l → TakesLine (l ++ 10 ∷ rest) (plain (strip_carriage_return l)) rest
first_line_of l rest h more =
    ap lines_of (append_assoc l (10 ∷ rest) more) ∙ ap (map plain) (lines_first l (rest ++ more) h)

-- octets without a line feed are one line, if there are some
pub last_line_of : (l : List ℕ) → HasNoFeed l → 0 < length l → lines_of l ≡ plain l ∷ []
last_line_of l h some = ap (λ ps. map plain (lines_of_parts ps)) (slice_split_none is_feed l (feedless l h)) ∙ by (length l == 0) refl
  where
    by : (b : Bool) → (length l == 0) ≡ b → map plain (if length l == 0 then [] else l ∷ []) ≡ plain l ∷ []
    by true e = absurd (grind (arith, nat_tests))
    by false e = rw e refl

-- ---- lines that are too long

too_long : (l : List ℕ) → 4096 < length l → plain l ≡ None
too_long l h = rw (test (nat_le (length l) 4096) refl) refl
  where
    test : (b : Bool) → nat_le (length l) 4096 ≡ b → nat_le (length l) 4096 ≡ false
    test true e = absurd (grind (arith, leb_tells))
    test false e = e

stripped_long : (l : List ℕ) → 4097 < length l → 4096 < length (strip_carriage_return l)
stripped_long l h = by (get_or l (length l - 1) 0 == 13)
  where
    by : (b : Bool) → 4096 < length (if b then take (length l - 1) l else l)
    by true = grind (arith, common_steps)
    by false = omega arith

-- what is kept of a line tells what the line is
pub kept_tells : (fits : Bool) (kept line : List ℕ) → IsBegun (kept_if fits kept) line → (if fits then plain kept else None) ≡ plain line
kept_tells true kept line h = ap plain (sym h)
kept_tells false kept line h = sym (too_long line (omega (arith, h)))

pub stripped_tells : (fits : Bool) (kept line : List ℕ) → IsBegun (kept_if fits kept) line → (if fits then plain (strip_carriage_return kept) else None) ≡ plain (strip_carriage_return line)
stripped_tells true kept line h = ap (λ l. plain (strip_carriage_return l)) (sym h)
stripped_tells false kept line h = sym (too_long (strip_carriage_return line) (stripped_long line h))

-- ---- what was read ahead

ahead_from : (chunk : List ℕ) (at filled k : ℕ) → at + k ≤ filled → slice_range chunk (at + k) filled ≡ drop k (slice_range chunk at filled)
ahead_from chunk at filled k h =
    let parts : filled - at ≡ k + (filled - (at + k)) = omega arith in
    sym (ap (λ n. drop k (take n (drop at chunk))) parts ∙ drop-take k (filled - (at + k)) (drop at chunk) ∙ ap (take (filled - (at + k))) (drop-drop k at chunk))

pub within_ahead : (chunk : List ℕ) (at filled k : ℕ) → at ≤ filled → k ≤ length (slice_range chunk at filled) → at + k ≤ filled
within_ahead chunk at filled k h g = grind (arith, common_steps)

pub ahead_after : (chunk piece rest : List ℕ) (at filled : ℕ) → at ≤ filled → slice_range chunk at filled ≡ piece ++ 10 ∷ rest → slice_range chunk (at + length piece + 1) filled ≡ rest
ahead_after chunk piece rest at filled h e =
    let some : length (slice_range chunk at filled) ≡ length piece + (length rest + 1) = ap length e ∙ length-append piece (10 ∷ rest) ∙ (omega arith) in
    let within : at + (length piece + 1) ≤ filled = within_ahead chunk at filled (length piece + 1) h (omega (arith, some)) in
    let at_once : at + length piece + 1 ≡ at + (length piece + 1) = omega arith in
    ap (λ n. slice_range chunk n filled) at_once ∙ ahead_from chunk at filled (length piece + 1) within ∙ ap (drop (length piece + 1)) e ∙ drop-append-add piece (10 ∷ rest) 1

-- ---- a line is taken

-- what is put behind a line that goes on, or begins one unless it is empty
pub goes_on : (was is_empty fits now : Bool) (kept more piece begun : List ℕ)
    → (is_empty ≡ true → piece ≡ [])
    → IsBegun (begun_of was fits kept) begun
    → IsBegun (kept_if now more) (begun ++ piece)
    → IsBegun (begun_of (was || not is_empty) now more) (begun ++ piece)
goes_on true is_empty fits now kept more piece begun none b k = k
goes_on false false fits now kept more piece begun none b k = k
goes_on false true fits now kept more piece begun none b k = ap (λ xs. xs ++ piece) b ∙ none refl

-- nothing is begun behind the end of a line
pub nothing_begun : (ahead : List ℕ) (hand : InHand) → hand.begun ≡ Some [] → hand.ahead ≡ ahead → IsUntaken hand ahead
nothing_begun ahead hand b a = record {
  begun = [];
  whole = sym a;
  kept = rw b refl;
  no_feed = λ k d m. absurd (omega arith);
}

-- the line that ends in what was read ahead is taken
pub taken_first : (hand left : InHand) (octets piece rest kept : List ℕ) (fits : Bool) (tells : Option (List ℕ))
    → IsUntaken hand octets
    → hand.ahead ≡ piece ++ 10 ∷ rest
    → HasNoFeed piece
    → ((begun : List ℕ) → IsBegun hand.begun begun → IsBegun (kept_if fits kept) (begun ++ piece))
    → tells ≡ (if fits then plain (strip_carriage_return kept) else None)
    → left.begun ≡ Some []
    → left.ahead ≡ rest
    → (after : List ℕ) × IsUntaken left after × TakesLine octets tells after
taken_first hand left octets piece rest kept fits tells u ahead no_feed put tell b a =
    let line : List ℕ = u.begun ++ piece in
    let whole : line ++ 10 ∷ rest ≡ octets = append_assoc u.begun piece (10 ∷ rest) ∙ ap (λ xs. u.begun ++ xs) (sym ahead) ∙ sym u.whole in
    let feedless : HasNoFeed line = All-append (λ o. o ≢ 10) u.begun piece u.no_feed no_feed in
    let told_so : plain (strip_carriage_return line) ≡ tells = sym (tell ∙ stripped_tells fits kept line (put u.begun u.kept)) in
    let first : TakesLine (line ++ 10 ∷ rest) (plain (strip_carriage_return line)) rest = first_line_of line rest feedless in
    let P : List ℕ → Type 0 = λ xs. TakesLine xs tells rest in
    let Q : Option (List ℕ) → Type 0 = λ t. TakesLine (line ++ 10 ∷ rest) t rest in
    (rest, nothing_begun rest left b a, subst P whole (subst Q told_so first))

-- a line goes on where no line feed was read
pub taken_none : (hand left : InHand) (octets piece : List ℕ)
    → IsUntaken hand octets
    → hand.ahead ≡ piece
    → HasNoFeed piece
    → ((begun : List ℕ) → IsBegun hand.begun begun → IsBegun left.begun (begun ++ piece))
    → left.ahead ≡ []
    → IsUntaken left octets × HasNoFeed octets
taken_none hand left octets piece u ahead no_feed put a =
    let line : List ℕ = u.begun ++ piece in
    let whole : octets ≡ line = u.whole ∙ ap (λ xs. u.begun ++ xs) ahead in
    let feedless : HasNoFeed line = All-append (λ o. o ≢ 10) u.begun piece u.no_feed no_feed in
    let P : List ℕ → Type 0 = λ xs. HasNoFeed xs in (
      record { begun = line; whole = whole ∙ sym (ap (λ xs. line ++ xs) a ∙ append-nil line); kept = put u.begun u.kept; no_feed = feedless },
      subst P (sym whole) feedless,
    )

-- the last line
pub taken_last : (hand : InHand) (octets kept : List ℕ) (fits : Bool) (tells : Option (List ℕ))
    → IsUntaken hand octets
    → hand.ahead ≡ []
    → hand.begun ≡ kept_if fits kept
    → (fits ≡ true → 0 < length kept)
    → tells ≡ (if fits then plain kept else None)
    → lines_of octets ≡ tells ∷ []
taken_last hand octets kept fits tells u ahead b some tell =
    let line : List ℕ = u.begun in
    let whole : octets ≡ line = u.whole ∙ ap (λ xs. line ++ xs) ahead ∙ append-nil line in
    let is_kept : IsBegun (kept_if fits kept) line = rw (← b) u.kept in
    let long : 0 < length line = nonempty fits is_kept some in
    ap lines_of whole ∙ last_line_of line u.no_feed long ∙ ap (λ t. t ∷ []) (sym (tell ∙ kept_tells fits kept line is_kept))
  where
    nonempty : (fits : Bool) → IsBegun (kept_if fits kept) u.begun → (fits ≡ true → 0 < length kept) → 0 < length u.begun
    nonempty true e h = let P : List ℕ → Type 0 = λ l. 0 < length l in subst P (sym e) (h refl)
    nonempty false e h = omega (arith, e)

-- where nothing is begun, and nothing was read ahead, nothing is left
pub none_left : (hand : InHand) (octets : List ℕ) → IsUntaken hand octets → hand.begun ≡ Some [] → hand.ahead ≡ [] → octets ≡ []
none_left hand octets u b a = let nothing : u.begun ≡ [] = rw b at u.kept in u.whole ∙ ap (λ xs. u.begun ++ xs) a ∙ append-nil u.begun ∙ nothing

-- a piece up to a line feed, and one without
pub cut_by : (from octets piece : List ℕ) (is_end b : Bool) → from ≡ octets → is_end ≡ b → IsCut from piece is_end → IsCut octets piece b
cut_by from octets piece is_end b same e cut =
    let P : Bool → Type 0 = λ t. IsCut from piece t in
    let Q : List ℕ → Type 0 = λ xs. IsCut xs piece b in
    subst Q same (subst P e cut)

pub empty_piece : (piece : List ℕ) → (length piece == 0) ≡ true → piece ≡ []
empty_piece [] e = refl
empty_piece (o ∷ os) e = absurd (grind (arith, nat_tests))

-- nothing is left where a piece was all that was read ahead
pub all_ahead : (chunk piece : List ℕ) (at filled : ℕ) → at ≤ filled → slice_range chunk at filled ≡ piece → slice_range chunk (at + length piece) filled ≡ []
all_ahead chunk piece at filled h e =
    let within : at + length piece ≤ filled = within_ahead chunk at filled (length piece) h (omega (arith, ap length e)) in
    ahead_from chunk at filled (length piece) within ∙ ap (drop (length piece)) e ∙ drop-length piece
