-- How many records sets and steps have
use Rattle.std.proofs.Common.{◌≡◌, ℕ, ◌+◌, ◌<◌, List, [], ◌∷◌, ◌++◌, length, get_or, take, drop, sym, ap, ◌∙◌, arith, length-append}
use Rattle.std.specs.List.{flat_map}
use Rattle.std.proofs.lemmas.Grind.{flat_map-append}
use Rattle.std.proofs.lemmas.List.{drop_more, take-append-drop, take_more}
use Rattle.zone_proto.specs.Sets.{RRset}
use Rattle.shown_zones.specs.Sending.{sent, sent_sets, sent_step}
use Rattle.shown_zones.specs.Steps.{Step}

-- how many records sets have
abbrev pub count_of : List RRset → ℕ
count_of sets = length (flat_map sent sets)

pub count_both : (xs ys : List RRset) → count_of (xs ++ ys) ≡ count_of xs + count_of ys
count_both xs ys = ap length (flat_map-append sent xs ys) ∙ length-append (flat_map sent xs) (flat_map sent ys)

pub count_first : (x : RRset) (ys : List RRset) → count_of (x ∷ ys) ≡ length (sent x) + count_of ys
count_first x ys = length-append (sent x) (flat_map sent ys)

-- the records of a step are those of its four parts
pub step_count : (s : Step) → length (sent_step s) ≡ length (sent s.old_soa) + (count_of s.deleted + (length (sent s.new_soa) + count_of s.added))
step_count s =
    let all : count_of (sent_sets s) ≡ length (sent s.old_soa) + count_of (s.deleted ++ s.new_soa ∷ s.added) = count_first s.old_soa (s.deleted ++ s.new_soa ∷ s.added) in
    let both : count_of (s.deleted ++ s.new_soa ∷ s.added) ≡ count_of s.deleted + count_of (s.new_soa ∷ s.added) = count_both s.deleted (s.new_soa ∷ s.added) in
    let new : count_of (s.new_soa ∷ s.added) ≡ length (sent s.new_soa) + count_of s.added = count_first s.new_soa s.added in
    omega (arith, all, both, new)

-- what is left from a place on begins with what is there
pub drop_at : {X : Type 0} → (xs : List X) (i : ℕ) (x : X) → i < length xs → x ≡ get_or xs i x → drop i xs ≡ x ∷ drop (i + 1) xs
drop_at xs i x lt is = drop_more xs i x lt ∙ ap (λ y. y ∷ drop (i + 1) xs) (sym is)

-- the set at a place, between those before it and those behind it
split_at : (sets : List RRset) (i : ℕ) (s : RRset) → i < length sets → s ≡ get_or sets i s → sets ≡ take i sets ++ s ∷ drop (i + 1) sets
split_at sets i s lt is = sym (take-append-drop i sets) ∙ ap (λ xs. take i sets ++ xs) (drop_at sets i s lt is)

pub count_to : (sets : List RRset) (i : ℕ) (s : RRset) → i < length sets → s ≡ get_or sets i s
    → count_of sets ≡ count_of (take i sets) + (length (sent s) + count_of (drop (i + 1) sets))
count_to sets i s lt is =
    let both : count_of (take i sets ++ s ∷ drop (i + 1) sets) ≡ count_of (take i sets) + count_of (s ∷ drop (i + 1) sets) = count_both (take i sets) (s ∷ drop (i + 1) sets) in
    let first : count_of (s ∷ drop (i + 1) sets) ≡ length (sent s) + count_of (drop (i + 1) sets) = count_first s (drop (i + 1) sets) in
    let all : count_of sets ≡ count_of (take i sets ++ s ∷ drop (i + 1) sets) = ap count_of (split_at sets i s lt is) in
    omega (arith, both, first, all)

pub count_more : (sets : List RRset) (i : ℕ) (s : RRset) → i < length sets → s ≡ get_or sets i s → count_of (take (i + 1) sets) ≡ count_of (take i sets) + length (sent s)
count_more sets i s lt is =
    let all : count_of (take (i + 1) sets) ≡ count_of (take i sets ++ s ∷ []) =
    ap count_of (take_more sets i s lt ∙ ap (λ (r : RRset). take i sets ++ r ∷ []) (sym is)) in
    let both : count_of (take i sets ++ s ∷ []) ≡ count_of (take i sets) + count_of (s ∷ []) = count_both (take i sets) (s ∷ []) in
    let one : count_of (s ∷ []) ≡ length (sent s) + 0 = count_first s [] in
    omega (arith, all, both, one)
