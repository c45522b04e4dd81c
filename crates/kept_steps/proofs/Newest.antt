-- The newest of some steps
use Rattle.std.proofs.Common.{◌≡◌, ℕ, suc, ◌+◌, ◌-◌, ◌<◌, ◌≤◌, Bool, true, false, List, [], ◌∷◌, ◌++◌, length, get_or, take, drop, refl, sym, ap, ◌∙◌, arith, length-append}
use Rattle.std.specs.Prelude.{nat_le, if◌then◌else◌}
use Rattle.std.specs.List.{flat_map}
use Rattle.std.proofs.lemmas.Bool.{le-leb, lt-leb}
use Rattle.std.proofs.lemmas.List.{length-drop}
use Rattle.std.proofs.Math.Seq.{take-append_seam}
use Rattle.shown_zones.specs.declared.step.ZoneStep.{ZoneStep}
use Rattle.kept_steps.specs.Kept.{newest_within, records_of, size_of}
use Rattle.kept_steps.proofs.Rooms.{drop_at}

pub size_first : (s : ZoneStep) (ss : List ZoneStep) → size_of (s ∷ ss) ≡ length (records_of s) + size_of ss
size_first s ss = length-append (records_of s) (flat_map records_of ss)

pub size_last : (ss : List ZoneStep) (s : ZoneStep) → size_of (ss ++ s ∷ []) ≡ size_of ss + length (records_of s)
size_last [] s =
    let e : size_of (s ∷ []) ≡ length (records_of s) + 0 = size_first s [] in
    omega (arith, e)
size_last (t ∷ ss) s =
    let e : size_of (t ∷ (ss ++ s ∷ [])) ≡ length (records_of t) + size_of (ss ++ s ∷ []) = size_first t (ss ++ s ∷ []) in
    let f : size_of (t ∷ ss) ≡ length (records_of t) + size_of ss = size_first t ss in
    let g : size_of (ss ++ s ∷ []) ≡ size_of ss + length (records_of s) = size_last ss s in
    omega (arith, e, f, g)

-- those behind some of the first
pub newest_is_end : (most : ℕ) (ss : List ZoneStep) → (k : ℕ) × (newest_within most ss ≡ drop k ss)
unfolding newest_within
newest_is_end most [] = (0, refl)
newest_is_end most (s ∷ ss) = by (nat_le (size_of (s ∷ ss)) most) (newest_is_end most ss)
  where
    by : (b : Bool) → ((k : ℕ) × (newest_within most ss ≡ drop k ss)) → (k : ℕ) × ((if b then s ∷ ss else newest_within most ss) ≡ drop k (s ∷ ss))
    by true h = (0, refl)
    by false h = (suc h.0, h.1)

-- all have too many
pub goes_on : (most : ℕ) (s : ZoneStep) (ss : List ZoneStep) → most < size_of (s ∷ ss) → newest_within most (s ∷ ss) ≡ newest_within most ss
unfolding newest_within
goes_on most s ss lt = ap (λ (b : Bool). if b then s ∷ ss else newest_within most ss) (lt-leb (size_of (s ∷ ss)) most lt)

-- what is left from a place on has too many, so that its first step goes
pub one_goes : (most left : ℕ) (ss : List ZoneStep) (i : ℕ) (s : ZoneStep) → i < length ss → s ≡ get_or ss i s → left ≡ size_of (drop i ss) → most < left
    → (left ≡ length (records_of s) + size_of (drop (i + 1) ss)) × (newest_within most (drop i ss) ≡ newest_within most (drop (i + 1) ss))
one_goes most left ss i s lt is counted many =
    let at : drop i ss ≡ s ∷ drop (i + 1) ss = drop_at ss i s lt is in
    let first : size_of (s ∷ drop (i + 1) ss) ≡ length (records_of s) + size_of (drop (i + 1) ss) = size_first s (drop (i + 1) ss) in
    let all : left ≡ length (records_of s) + size_of (drop (i + 1) ss) = counted ∙ ap size_of at ∙ first in
    (all, ap (newest_within most) at ∙ goes_on most s (drop (i + 1) ss) (omega (arith, first, all, many)))

-- or they haven't
pub all_stay : (most : ℕ) (ss : List ZoneStep) → size_of ss ≤ most → newest_within most ss ≡ ss
unfolding newest_within
all_stay most [] le = refl
all_stay most (s ∷ ss) le = ap (λ (b : Bool). if b then s ∷ ss else newest_within most ss) (le-leb (size_of (s ∷ ss)) most le)

-- the last one has too many by itself
pub none_stays : (most : ℕ) (ss : List ZoneStep) (s : ZoneStep) → most < length (records_of s) → newest_within most (ss ++ s ∷ []) ≡ []
unfolding newest_within
none_stays most [] s lt =
    let e : size_of (s ∷ []) ≡ length (records_of s) + 0 = size_first s [] in
    goes_on most s [] (omega (arith, e, lt))
none_stays most (t ∷ ss) s lt =
    let e : size_of (t ∷ (ss ++ s ∷ [])) ≡ length (records_of t) + size_of (ss ++ s ∷ []) = size_first t (ss ++ s ∷ []) in
    let f : size_of (ss ++ s ∷ []) ≡ size_of ss + length (records_of s) = size_last ss s in
    goes_on most t (ss ++ s ∷ []) (omega (arith, e, f, lt)) ∙ none_stays most ss s lt

-- the others, behind those that go
pub left_of_turned : {X : Type 0} → (xs : List X) (count : ℕ) → take (length xs - count) (drop count xs ++ take count xs) ≡ drop count xs
left_of_turned xs count =
    ap (λ n. take n (drop count xs ++ take count xs)) (sym (length-drop count xs)) ∙ take-append_seam (drop count xs) (take count xs)
