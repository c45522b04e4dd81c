-- The sets of a step, read back, are parted where its newer SOA stands
use Rattle.std.proofs.Common.{◌≡◌, ◌≢◌, ℕ, ◌+◌, Bool, true, false, true≢false, cond, ◌==◌, ◌&&◌, not, nat_lt, List, [], ◌∷◌, ◌++◌, length, take, drop, refl, sym, ap, ◌∙◌, subst, arith, length-append, lt-ltb}
use Rattle.std.specs.Prelude.{◌||◌, Option, Some, None, map, if◌then◌else◌}
use Rattle.std.specs.List.{AllByRecursion, list_any, position, prefix_len}
use Rattle.std.proofs.lemmas.Bool.{eqb-true}
use Rattle.std.proofs.lemmas.List.{drop_at, map-append, take_at}
use Rattle.zone_proto.specs.Names.{Name, same_name}
use Rattle.zone_proto.specs.Sets.{RRset}
use Rattle.zone_proto.specs.Types.{RRSIG, SOA}
use Rattle.message_reading.specs.Octets.{◌>>=◌}
use Rattle.message_series.specs.Series.{records_of}
use Rattle.shown_zones.specs.Shown.{shown_set, spelled}
use Rattle.shown_zones.specs.Steps.{Step, shown_step}
use Rattle.zone_journal.specs.Entries.{entry_of, first_of, is_soa, parted_at, step_in, step_with}
use Rattle.shown_zones.specs.Sending.{sent_sets, sent_step}
use Rattle.zone_journal.specs.Grouping.{sets_in}
use Rattle.zone_journal.specs.Writing.{IsSound, all_follow, follows, is_soa_set, is_writable}
use Rattle.zone_journal.proofs.Grouped.{AreApart, Starts, sets_back}

both : (a b : Bool) → (a && b) ≡ true → (a ≡ true) × (b ≡ true)
both true b h = (refl, h)
both false b h = absurd (true≢false (sym h))

refuted : (b : Bool) → not b ≡ true → b ≡ false
refuted true h = absurd (true≢false (sym h))
refuted false h = refl

filled : {A : Type 0} (xs : List A) → not (length xs == 0) ≡ true → xs ≢ []
filled [] h e = true≢false (sym h)
filled (x ∷ xs) h e = cc

-- ---- the sets stand apart

no_signatures : (t : ℕ) → (t == SOA) ≡ true → (t == RRSIG) ≡ false
no_signatures t h = ap (λ u. u == RRSIG) (eqb-true t SOA h)

soa_starts : (cur : Option RRset) (n : Name) (t : ℕ) → (t == SOA) ≡ true → Starts cur n t
soa_starts None n t h = tt
soa_starts (Some c) n t h = ap (λ b. not b && (same_name n c.owner && t == c.record_type)) h

-- sets that follow one another, and what comes behind them
all_apart : (before : RRset) (ss rest : List RRset) → all_follow before ss ≡ true → ((cur : Option RRset) → AreApart cur rest) → AreApart (Some (shown_set before)) (ss ++ rest)
all_apart before [] rest h g = g (Some (shown_set before))
all_apart before (s ∷ ss) rest h g =
    let first = both (follows before s) (all_follow s ss) h in
    let some = both (not (length s.records == 0)) _ first.0 in
    let plain = both (not (s.record_type == RRSIG)) _ some.1 in
    let other = both (not (s.record_type == SOA)) _ plain.1 in (
      filled s.records some.0,
      refuted (s.record_type == RRSIG) plain.0,
      ap (λ b. b && (same_name (spelled s.owner s.records) (spelled before.owner before.records) && s.record_type == before.record_type)) other.0
          ∙ refuted (same_name (spelled s.owner s.records) (spelled before.owner before.records) && s.record_type == before.record_type) other.1,
      all_apart s ss rest first.1 g,
    )

step_apart : (s : Step) → is_writable s ≡ true → AreApart None (sent_sets s)
step_apart s h =
    let old = both (is_soa_set s.old_soa) _ h in
    let new = both (is_soa_set s.new_soa) _ old.1 in
    let sets = both (all_follow s.old_soa s.deleted) _ new.1 in
    let old_is = both (s.old_soa.record_type == SOA) _ old.0 in
    let new_is = both (s.new_soa.record_type == SOA) _ new.0 in (
      filled s.old_soa.records old_is.1,
      no_signatures s.old_soa.record_type old_is.0,
      tt,
      all_apart s.old_soa s.deleted (s.new_soa ∷ s.added) sets.0
          (λ cur. (
            filled s.new_soa.records new_is.1,
            no_signatures s.new_soa.record_type new_is.0,
            soa_starts cur (spelled s.new_soa.owner s.new_soa.records) s.new_soa.record_type new_is.0,
            last s sets.1,
          )),
    )
  where
    nothing : (ss : List RRset) → ss ++ [] ≡ ss
    nothing [] = refl
    nothing (x ∷ ss) = ap (λ xs. x ∷ xs) (nothing ss)

    last : (s : Step) → all_follow s.new_soa s.added ≡ true → AreApart (Some (shown_set s.new_soa)) s.added
    last s h = subst (AreApart (Some (shown_set s.new_soa))) (nothing s.added) (all_apart s.new_soa s.added [] h (λ cur. tt))

-- ---- where the newer SOA stands

no_soas : (before : RRset) (ss : List RRset) → all_follow before ss ≡ true → AllByRecursion (λ (s : RRset). is_soa s ≡ false) ss
no_soas before [] h = tt
no_soas before (s ∷ ss) h =
    let first = both (follows before s) (all_follow s ss) h in
    let some = both (not (length s.records == 0)) _ first.0 in
    let plain = both (not (s.record_type == RRSIG)) _ some.1 in
    let other = both (not (s.record_type == SOA)) _ plain.1 in
    (refuted (s.record_type == SOA) other.0, no_soas s ss first.1)

none_shown : (ss : List RRset) → AllByRecursion (λ (s : RRset). is_soa s ≡ false) ss → list_any is_soa (map shown_set ss) ≡ false
none_shown [] h = refl
none_shown (s ∷ ss) h = ap (λ b. b || list_any is_soa (map shown_set ss)) h.0 ∙ none_shown ss h.1

passed : (ss : List RRset) (n : RRset) (rest : List RRset) → AllByRecursion (λ (s : RRset). is_soa s ≡ false) ss → is_soa n ≡ true
    → prefix_len (λ s. not (is_soa s)) (ss ++ n ∷ rest) ≡ length ss
passed [] n rest h g = ap (λ b. cond (not b) (1 + prefix_len (λ s. not (is_soa s)) rest) 0) g
passed (s ∷ ss) n rest h g =
    let more = passed ss n rest h.1 g in
    ap (λ b. cond (not b) (1 + prefix_len (λ s. not (is_soa s)) (ss ++ n ∷ rest)) 0) h.0 ∙ omega (arith, more)

stands_at : (ss : List RRset) (n : RRset) (rest : List RRset) → AllByRecursion (λ (s : RRset). is_soa s ≡ false) ss → is_soa n ≡ true
    → position is_soa (ss ++ n ∷ rest) ≡ Some (length ss)
stands_at ss n rest h g =
    let at = passed ss n rest h g in
    ap (λ k. cond (nat_lt k (length (ss ++ n ∷ rest))) (Some k) None) at
    ∙ ap (λ b. cond b (Some (length ss)) None) (lt-ltb (length ss) (length (ss ++ n ∷ rest)) (omega (arith, length-append ss (n ∷ rest))))

shown_soas : (ss : List RRset) → AllByRecursion (λ (s : RRset). is_soa s ≡ false) ss → AllByRecursion (λ (s : RRset). is_soa s ≡ false) (map shown_set ss)
shown_soas [] h = tt
shown_soas (s ∷ ss) h = (h.0, shown_soas ss h.1)

parted_back : (s : Step) → is_writable s ≡ true → step_in (map shown_set (sent_sets s)) ≡ Some (shown_step s)
parted_back s h =
    let old = both (is_soa_set s.old_soa) _ h in
    let new = both (is_soa_set s.new_soa) _ old.1 in
    let sets = both (all_follow s.old_soa s.deleted) _ new.1 in
    let old_is = both (s.old_soa.record_type == SOA) _ old.0 in
    let new_is = both (s.new_soa.record_type == SOA) _ new.0 in
    let deleted : List RRset = map shown_set s.deleted in
    let behind : List RRset = shown_set s.new_soa ∷ map shown_set s.added in
    let all : List RRset = map shown_set (s.deleted ++ s.new_soa ∷ s.added) in
    ap (λ b. if b then parted_at (shown_set s.old_soa) all (position is_soa all) else None) old_is.0
    ∙ ap (λ ss. parted_at (shown_set s.old_soa) ss (position is_soa ss)) (map-append shown_set s.deleted (s.new_soa ∷ s.added))
    ∙ ap (parted_at (shown_set s.old_soa) (deleted ++ behind)) (stands_at deleted (shown_set s.new_soa) (map shown_set s.added) (shown_soas s.deleted (no_soas s.old_soa s.deleted sets.0)) new_is.0)
    ∙ (λ i. step_with (shown_set s.old_soa) (take_at deleted behind (length deleted) refl i) (drop_at deleted behind (length deleted) refl i))
    ∙ ap (λ b. if b then None else Some (shown_step s)) (none_shown s.added (no_soas s.new_soa s.added sets.1))

-- ---- an entry, from its records

pub entry_back : (octets : List ℕ) (s : Step) → records_of octets ≡ Some (sent_step s) → is_writable s ≡ true → AllByRecursion IsSound (sent_sets s)
    → entry_of octets ≡ Some (shown_step s)
entry_back octets s h writable sound =
    ap (λ o. o >>= λ records. sets_in records >>= step_in) h
    ∙ ap (λ o. o >>= step_in) (sets_back (sent_sets s) sound (step_apart s writable))
    ∙ parted_back s writable

-- ---- the step that sets are

abbrev all_of : Option (RRset × List RRset) → List RRset
all_of None = []
all_of (Some x) = x.0 ∷ x.1

all_there : (sets : List RRset) → all_of (first_of sets) ≡ sets
all_there [] = refl
all_there (s ∷ ss) = refl

pub step_is : (sets ss front back : List RRset) (s : RRset) (at : ℕ) (made : Option Step) → Some (s, ss) ≡ first_of sets → is_soa s ≡ true → Some at ≡ position is_soa ss
    → front ≡ take at ss → back ≡ drop at ss → made ≡ step_with s front back → made ≡ step_in sets
step_is sets ss front back s at made first soa place f b is =
    is
    ∙ (λ i. step_with s (f i) (b i))
    ∙ ap (parted_at s ss) place
    ∙ ap (λ b. if b then parted_at s ss (position is_soa ss) else None) (sym soa)
    ∙ ap step_in (ap all_of first ∙ all_there sets)
