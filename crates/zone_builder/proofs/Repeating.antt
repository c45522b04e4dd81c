-- Records that have the data of others before them, and what a set becomes without these
use Rattle.std.proofs.Common.{◌≡◌, ℕ, ◌+◌, ◌-◌, ◌<◌, Bool, true, false, cond, not, ◌&&◌, ◌||◌, List, [], ◌∷◌, ◌++◌, length, get_or, take, drop, refl, sym, ap, ◌∙◌, true≢false, arith}
use Rattle.std.specs.Prelude.{map}
use Rattle.std.specs.List.{AllByRecursion, list_any}
use Rattle.std.proofs.lemmas.List.{drop_more, length-drop, map-append, take_all}
use Rattle.std.proofs.lemmas.List.Folds.{list_any-append}
use Rattle.zone_proto.specs.DataEquality.{same_data_equiv}
use Rattle.zone_proto.specs.declared.rdata.RData.{RData}
use Rattle.zone_proto.specs.Data.{same_data}
use Rattle.zone_builder.specs.declared.given.GivenRecord.{GivenRecord}
use Rattle.zone_builder.specs.Repeats.{holds, new_behind, repeated_behind, first_ones, repeated, are_distinct, flagged, unflagged, repeats_behind, HaveOneData}

-- the data of a record
abbrev pub data_of : GivenRecord → RData
data_of g = g.record.rdata

or_false : (b : Bool) → (b || false) ≡ b
or_false true = refl
or_false false = refl

-- ---- which data stand among records

pub holds_push : (before : List GivenRecord) (g : GivenRecord) (d : RData) → holds (before ++ g ∷ []) d ≡ (holds before d || same_data (data_of g) d)
holds_push before g d =
    list_any-append (λ (h : GivenRecord). same_data h.record.rdata d) before (g ∷ [])
    ∙ ap (λ b. holds before d || b) (or_false (same_data (data_of g) d))

-- equal data do alike
same_right : (x a b : RData) → same_data a b ≡ true → same_data x a ≡ same_data x b
same_right x a b h = same_data_equiv.symm x a ∙ same_data_equiv.congr a b x h ∙ same_data_equiv.symm b x

holds_same : (gs : List GivenRecord) (a b : RData) → same_data a b ≡ true → holds gs a ≡ holds gs b
holds_same [] a b h = refl
holds_same (g ∷ gs) a b h = ap (λ c. c || holds gs a) (same_right (data_of g) a b h) ∙ ap (λ c. same_data (data_of g) b || c) (holds_same gs a b h)

-- data that stand there already change nothing
pub holds_again : (before : List GivenRecord) (g : GivenRecord) → holds before (data_of g) ≡ true → (d : RData) → holds before d ≡ holds (before ++ g ∷ []) d
holds_again before g h d = by (same_data (data_of g) d) refl ∙ sym (holds_push before g d)
  where
    true_or : (b : Bool) → b ≡ true → b ≡ (b || true)
    true_or true e = refl
    true_or false e = absurd (true≢false (sym e))

    by : (b : Bool) → same_data (data_of g) d ≡ b → holds before d ≡ (holds before d || b)
    by true e = true_or (holds before d) (sym (holds_same before (data_of g) d e) ∙ h)
    by false e = sym (or_false (holds before d))

-- ---- what is said of each record

holds_mapped : (before : List GivenRecord) (d : RData) → list_any (λ (y : RData). same_data y d) (map data_of before) ≡ holds before d
holds_mapped [] d = refl
holds_mapped (g ∷ gs) d = ap (λ b. same_data (data_of g) d || b) (holds_mapped gs d)

said_push : (before gs : List GivenRecord) (g : GivenRecord) → repeats_behind same_data (map data_of before ++ data_of g ∷ []) (map data_of gs) ≡ repeats_behind same_data (map data_of (before ++ g ∷ [])) (map data_of gs)
said_push before gs g = ap (λ ds. repeats_behind same_data ds (map data_of gs)) (sym (map-append data_of before (g ∷ [])))

pub flagged_repeats : (before gs : List GivenRecord) → flagged gs (repeats_behind same_data (map data_of before) (map data_of gs)) ≡ repeated_behind before gs
flagged_repeats before [] = refl
flagged_repeats before (g ∷ gs) =
    ap (λ b. cond b (g ∷ flagged gs (repeats_behind same_data (map data_of before ++ data_of g ∷ []) (map data_of gs))) (flagged gs (repeats_behind same_data (map data_of before ++ data_of g ∷ []) (map data_of gs)))) (holds_mapped before (data_of g))
    ∙ ap (λ xs. cond (holds before (data_of g)) (g ∷ xs) xs) (ap (flagged gs) (said_push before gs g) ∙ flagged_repeats (before ++ g ∷ []) gs)

pub unflagged_repeats : (before gs : List GivenRecord) → unflagged gs (repeats_behind same_data (map data_of before) (map data_of gs)) ≡ new_behind before gs
unflagged_repeats before [] = refl
unflagged_repeats before (g ∷ gs) =
    ap (λ b. cond b (unflagged gs (repeats_behind same_data (map data_of before ++ data_of g ∷ []) (map data_of gs))) (g ∷ unflagged gs (repeats_behind same_data (map data_of before ++ data_of g ∷ []) (map data_of gs)))) (holds_mapped before (data_of g))
    ∙ ap (λ xs. cond (holds before (data_of g)) xs (g ∷ xs)) (ap (unflagged gs) (said_push before gs g) ∙ unflagged_repeats (before ++ g ∷ []) gs)

-- ---- records of which no two have equal data

-- at a place of a list
pub distinct_at : (gs : List GivenRecord) (i : ℕ) (g : GivenRecord) → i < length gs → g ≡ get_or gs i g
    → are_distinct (drop i gs) ≡ (not (holds (drop (i + 1) gs) (data_of g)) && are_distinct (drop (i + 1) gs))
distinct_at gs i g within is =
    ap are_distinct (drop_more gs i g within)
    ∙ ap (λ (h : GivenRecord). not (holds (drop (i + 1) gs) (data_of h)) && are_distinct (drop (i + 1) gs)) (sym is)

-- those behind a place
pub rest_whole : (gs : List GivenRecord) (k : ℕ) → take (length gs - k) (drop k gs) ≡ drop k gs
rest_whole gs k = take_all (length gs - k) (drop k gs) (omega (arith, length-drop k gs))

first_of : (a b : Bool) → (a && b) ≡ true → a ≡ true
first_of true b h = refl
first_of false b h = h

second_of : (a b : Bool) → (a && b) ≡ true → b ≡ true
second_of true b h = h
second_of false b h = absurd (true≢false (sym h))

not_true : (b : Bool) → not b ≡ true → b ≡ false
not_true true h = sym h
not_true false h = refl

or_none : (a b : Bool) → (a || b) ≡ false → (a ≡ false) × (b ≡ false)
or_none true b h = absurd (true≢false h)
or_none false b h = (refl, h)

-- none of some records has data that stand among others
abbrev NoneIn : List GivenRecord → List GivenRecord → Type 0
NoneIn before gs = AllByRecursion (λ (g : GivenRecord). holds before (data_of g) ≡ false) gs

none_in_more : (before gs : List GivenRecord) (g : GivenRecord) → NoneIn before gs → holds gs (data_of g) ≡ false → NoneIn (before ++ g ∷ []) gs
none_in_more before [] g none h = tt
none_in_more before (x ∷ xs) g none h =
    let apart = or_none (same_data (data_of x) (data_of g)) (holds xs (data_of g)) h in (
      holds_push before g (data_of x) ∙ ap (λ b. b || same_data (data_of g) (data_of x)) none.0 ∙ same_data_equiv.symm (data_of g) (data_of x) ∙ apart.0,
      none_in_more before xs g none.1 apart.1,
    )

distinct_new : (before gs : List GivenRecord) → NoneIn before gs → are_distinct gs ≡ true → new_behind before gs ≡ gs
distinct_new before [] none h = refl
distinct_new before (g ∷ gs) none h =
    ap (λ b. cond b (new_behind (before ++ g ∷ []) gs) (g ∷ new_behind (before ++ g ∷ []) gs)) none.0
    ∙ ap (◌∷◌ g) (distinct_new (before ++ g ∷ []) gs (none_in_more before gs g none.1 (not_true _ (first_of _ _ h))) (second_of (not (holds gs (data_of g))) _ h))

distinct_repeated : (before gs : List GivenRecord) → NoneIn before gs → are_distinct gs ≡ true → repeated_behind before gs ≡ []
distinct_repeated before [] none h = refl
distinct_repeated before (g ∷ gs) none h =
    ap (λ b. cond b (g ∷ repeated_behind (before ++ g ∷ []) gs) (repeated_behind (before ++ g ∷ []) gs)) none.0
    ∙ distinct_repeated (before ++ g ∷ []) gs (none_in_more before gs g none.1 (not_true _ (first_of _ _ h))) (second_of (not (holds gs (data_of g))) _ h)

none_in_none : (gs : List GivenRecord) → NoneIn [] gs
none_in_none [] = tt
none_in_none (g ∷ gs) = (refl, none_in_none gs)

pub all_first : (gs : List GivenRecord) → are_distinct gs ≡ true → first_ones gs ≡ gs
all_first gs h = distinct_new [] gs (none_in_none gs) h

pub none_repeated : (gs : List GivenRecord) → are_distinct gs ≡ true → repeated gs ≡ []
none_repeated gs h = distinct_repeated [] gs (none_in_none gs) h

-- ---- records that all have the data of the first

all_repeated : (first : RData) (before gs : List GivenRecord) → ((d : RData) → same_data d first ≡ true → holds before d ≡ true) → AllByRecursion (λ (h : GivenRecord). same_data (data_of h) first ≡ true) gs → repeated_behind before gs ≡ gs
all_repeated first before [] there h = refl
all_repeated first before (g ∷ gs) there h =
    ap (λ b. cond b (g ∷ repeated_behind (before ++ g ∷ []) gs) (repeated_behind (before ++ g ∷ []) gs)) (there (data_of g) h.0)
    ∙ ap (◌∷◌ g) (all_repeated first (before ++ g ∷ []) gs (λ d e. holds_push before g d ∙ ap (λ b. b || same_data (data_of g) d) (there d e)) h.1)

-- all but the first repeat it
pub others_repeated : (g : GivenRecord) (gs : List GivenRecord) → HaveOneData (g ∷ gs) → repeated (g ∷ gs) ≡ gs
others_repeated g gs h = all_repeated (data_of g) (g ∷ []) gs (λ d e. ap (λ b. b || false) (same_data_equiv.symm (data_of g) d ∙ e)) h

-- ---- what holds of all records holds of the first of equal data

pub all_new : (P : GivenRecord → Type 0) (before gs : List GivenRecord) → AllByRecursion P gs → AllByRecursion P (new_behind before gs)
all_new P before [] h = tt
all_new P before (g ∷ gs) h = by (holds before (data_of g)) (all_new P (before ++ g ∷ []) gs h.1)
  where
    by : (b : Bool) → AllByRecursion P (new_behind (before ++ g ∷ []) gs) → AllByRecursion P (cond b (new_behind (before ++ g ∷ []) gs) (g ∷ new_behind (before ++ g ∷ []) gs))
    by true rest = rest
    by false rest = (h.0, rest)
