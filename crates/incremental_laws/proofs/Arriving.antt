-- What is under a key once the sets of a step are taken out and given
use Rattle.std.proofs.Common.{◌≡◌, ℕ, ◌==◌, ◌&&◌, not, Bool, true, false, true≢false, cond, List, [], ◌∷◌, ◌++◌, refl, sym, ap, ◌∙◌}
use Rattle.std.specs.Prelude.{◌||◌, Option, Some, None, is_some, map, filter, if◌then◌else◌}
use Rattle.std.specs.Cmp.Lexicographic.{pointwise}
use Rattle.std.specs.Map.{lookup}
use Rattle.std.proofs.lemmas.List.{map-append}
use Rattle.std.proofs.lemmas.List.Folds.{list_any-append}
use Rattle.zone_proto.specs.Keys.{key_eq}
use Rattle.zone_proto.specs.Names.{same_name}
use Rattle.zone_proto.specs.Records.{same_record}
use Rattle.zone_proto.specs.SetEquality.{same_set_equiv}
use Rattle.zone_proto.specs.Sets.{RRset, same_set}
use Rattle.zone_proto.specs.declared.record.Record.{Record}
use Rattle.zone_proto.specs.declared.rr_key.RrKey.{RrKey}
use Rattle.zone_map.specs.Zones.{Sets}
use Rattle.zone_difference.specs.Differences.{same_at}
use Rattle.zone_difference.proofs.Found.{found_filter, left_of, InOrder}
use Rattle.shown_zones.specs.Sending.{sent}
use Rattle.shown_zones.specs.Shown.{have_same_head, have_same_records, shown_if, shown_set, spelled, with_ttl}
use Rattle.shown_zones.specs.Steps.{is_changed}
use Rattle.shown_zones.proofs.Shows.{shown_alike}
use Rattle.incremental_laws.specs.Holding.{has_exactly, is_exactly, sent_if, SameRecords}
use Rattle.incremental_laws.proofs.Lists.{exact_equiv, nothing_in}
use Rattle.incremental_laws.proofs.SetsInTurn.{given_if}

-- ---- sets that are shown alike have the same records

both : (a b : Bool) → (a && b) ≡ true → (a ≡ true) × (b ≡ true)
both true b h = (refl, h)
both false b h = absurd (true≢false (sym h))

listed_alike : (u v : ℕ) (xs ys : List Record) → (u == v) ≡ true → pointwise same_record xs ys ≡ true → SameRecords (map (with_ttl u) xs) (map (with_ttl v) ys)
listed_alike u v [] [] e h r = refl
listed_alike u v [] (y ∷ ys) e h r = absurd (true≢false (sym h))
listed_alike u v (x ∷ xs) [] e h r = absurd (true≢false (sym h))
listed_alike u v (x ∷ xs) (y ∷ ys) e h r =
    let parts = both (same_record x y) (pointwise same_record xs ys) h in
    let exactly : is_exactly (with_ttl u x) (with_ttl v y) ≡ true = (λ i. parts.0 i && e i) in
    let rest : has_exactly (map (with_ttl u) xs) r ≡ has_exactly (map (with_ttl v) ys) r = listed_alike u v xs ys e parts.1 r in
    (λ i. exact_equiv.congr (with_ttl u x) (with_ttl v y) r exactly i || rest i)

in_two : (u : ℕ) (rs sigs : List Record) (r : Record) → has_exactly (map (with_ttl u) (rs ++ sigs)) r ≡ (has_exactly (map (with_ttl u) rs) r || has_exactly (map (with_ttl u) sigs) r)
in_two u rs sigs r =
    ap (λ xs. has_exactly xs r) (map-append (with_ttl u) rs sigs)
    ∙ list_any-append (λ (x : Record). is_exactly x r) (map (with_ttl u) rs) (map (with_ttl u) sigs)

sent_alike : (s t : RRset) → same_set (shown_set s) (shown_set t) ≡ true → SameRecords (sent s) (sent t)
sent_alike s t h r =
    let parts = both (have_same_head s t) (have_same_records s t) (sym (shown_alike s t) ∙ h) in
    let head = both (same_name (spelled s.owner s.records) (spelled t.owner t.records)) (s.record_type == t.record_type && s.ttl == t.ttl) parts.0 in
    let ttls = both (s.record_type == t.record_type) (s.ttl == t.ttl) head.1 in
    let lists = both (pointwise same_record s.records t.records) (pointwise same_record s.signatures t.signatures) parts.1 in
    let front : has_exactly (map (with_ttl s.ttl) s.records) r ≡ has_exactly (map (with_ttl t.ttl) t.records) r = listed_alike s.ttl t.ttl s.records t.records ttls.1 lists.0 r in
    let back : has_exactly (map (with_ttl s.ttl) s.signatures) r ≡ has_exactly (map (with_ttl t.ttl) t.signatures) r = listed_alike s.ttl t.ttl s.signatures t.signatures ttls.1 lists.1 r in
    in_two s.ttl s.records s.signatures r ∙ (λ i. front i || back i) ∙ sym (in_two t.ttl t.records t.signatures r)

-- ---- the sets of a step

-- of the sets that two versions have: that of the first, where the second doesn't show it
abbrev pub only : Option RRset → Option RRset → Option RRset
only None y = None
only (Some s) y = if not (same_at (shown_if y) (Some (shown_set s))) then Some s else None

pub found_changed : (soa : RrKey) (a b : Sets) → InOrder a → (q : RrKey) → key_eq soa q ≡ false
    → lookup (key_eq q) (filter (is_changed soa b) a) ≡ only (lookup (key_eq q) a) (lookup (key_eq q) b)
found_changed soa a b ordered q f = found_filter (λ k s. is_changed soa b (k, s)) a ordered q ∙ by (lookup (key_eq q) a)
  where
    by : (x : Option RRset) → left_of (λ k s. is_changed soa b (k, s)) q x ≡ only x (lookup (key_eq q) b)
    by None = refl
    by (Some s) = ap (λ c. if not c && not (same_at (shown_if (lookup (key_eq q) b)) (Some (shown_set s))) then Some s else None) f

pub none_changed : (soa : RrKey) (a b : Sets) → InOrder a → (q : RrKey) → key_eq soa q ≡ true → lookup (key_eq q) (filter (is_changed soa b) a) ≡ None
none_changed soa a b ordered q f = found_filter (λ k s. is_changed soa b (k, s)) a ordered q ∙ by (lookup (key_eq q) a)
  where
    by : (x : Option RRset) → left_of (λ k s. is_changed soa b (k, s)) q x ≡ None
    by None = refl
    by (Some s) = ap (λ c. if not c && not (same_at (shown_if (lookup (key_eq q) b)) (Some (shown_set s))) then Some s else None) f

only_first : (x y : Option RRset) (s : RRset) → only x y ≡ Some s → x ≡ Some s
only_first None y s h = absurd cc
only_first (Some t) y s h = by (not (same_at (shown_if y) (Some (shown_set t)))) h
  where
    by : (b : Bool) → (if b then Some t else None) ≡ Some s → Some t ≡ Some s
    by true h = h
    by false h = absurd cc

-- a set of a step is one of the version, and not the SOA
pub changed_is : (soa : RrKey) (a b : Sets) → InOrder a → (q : RrKey) (s : RRset) → lookup (key_eq q) (filter (is_changed soa b) a) ≡ Some s
    → (key_eq soa q ≡ false) × (lookup (key_eq q) a ≡ Some s)
changed_is soa a b ordered q s h = by (key_eq soa q) refl
  where
    by : (c : Bool) → key_eq soa q ≡ c → (key_eq soa q ≡ false) × (lookup (key_eq q) a ≡ Some s)
    by true f = let no : None ≡ Some s = sym (none_changed soa a b ordered q f) ∙ h in absurd cc
    by false f = (f, only_first (lookup (key_eq q) a) (lookup (key_eq q) b) s (sym (found_changed soa a b ordered q f) ∙ h))

-- where a set is given, none is left once those that the second version doesn't show are taken out
pub room : (x y : Option RRset) (hs : List Record) (t : RRset) → SameRecords hs (sent_if x) → only y x ≡ Some t → cond (is_some (only x y)) [] hs ≡ []
room x None hs t like h = absurd cc
room None (Some u) hs t like h = nothing_in hs like
room (Some s) (Some u) hs t like h = by (same_set (shown_set s) (shown_set u)) refl h
  where
    by : (b : Bool) → same_set (shown_set s) (shown_set u) ≡ b → (if not b then Some u else None) ≡ Some t
        → cond (is_some (if not (same_set (shown_set u) (shown_set s)) then Some s else None)) [] hs ≡ []
    by true g h = absurd cc
    by false g h = ap (λ b. cond (is_some (if not b then Some s else None)) [] hs) (same_set_equiv.symm (shown_set u) (shown_set s) ∙ g)

-- and what is there in the end are the records of the second version
pub arrives : (x y : Option RRset) (hs : List Record) → SameRecords hs (sent_if x) → SameRecords (given_if (only y x) (cond (is_some (only x y)) [] hs)) (sent_if y)
arrives None None hs like r = like r
arrives None (Some t) hs like r = refl
arrives (Some s) None hs like r = refl
arrives (Some s) (Some t) hs like r = by (same_set (shown_set s) (shown_set t)) refl
  where
    by : (b : Bool) → same_set (shown_set s) (shown_set t) ≡ b
        → has_exactly (given_if (if not (same_set (shown_set s) (shown_set t)) then Some t else None) (cond (is_some (if not (same_set (shown_set t) (shown_set s)) then Some s else None)) [] hs)) r
        ≡ has_exactly (sent t) r
    by true g =
        (λ i. has_exactly (given_if (if not (g i) then Some t else None) (cond (is_some (if not (same_set (shown_set t) (shown_set s)) then Some s else None)) [] hs)) r)
        ∙ ap (λ b. has_exactly (cond (is_some (if not b then Some s else None)) [] hs) r) (same_set_equiv.symm (shown_set t) (shown_set s) ∙ g)
        ∙ like r
        ∙ sent_alike s t g r
    by false g = (λ i. has_exactly (given_if (if not (g i) then Some t else None) (cond (is_some (if not (same_set (shown_set t) (shown_set s)) then Some s else None)) [] hs)) r)
