-- Sets of denial that come where none stood
use Rattle.std.proofs.Common.{◌≡◌, ℕ, Bool, true, false, cond, [], ◌∷◌, refl, sym, ap, ◌∙◌, eqb-true}
use Rattle.std.specs.Prelude.{List, Option, Some, None, is_some, not, ◌==◌, ◌||◌, filter, option_map, IfSome}
use Rattle.std.specs.List.{list_any}
use Rattle.std.specs.List.Sorted.{IsStrictlySortedBy}
use Rattle.std.specs.Map.{lookup, keys_of}
use Rattle.std.specs.Option.{IfNone}
use Rattle.std.specs.Ordering.{is_eq}
use Rattle.std.proofs.lemmas.List.Folds.{list_any-append}
use Rattle.std.proofs.lemmas.Map.Entries.{lookup-filter-keys}
use Rattle.std.proofs.lemmas.Map.Made.{is_some-lookup}
use Rattle.std.proofs.lemmas.Map.Views.{btree_set_contains_iff}
use Rattle.zone_proto.specs.declared.rr_key.RrKey.{RrKey}
use Rattle.zone_proto.specs.Keys.{key_cmp, key_eq}
use Rattle.zone_proto.specs.Names.{Name, name_cmp}
use Rattle.zone_proto.specs.Sets.{RRset}
use Rattle.zone_proto.specs.Types.{NSEC, NSEC3}
use Rattle.zone_proto.proofs.Ordering.KeyOrder.{key_same}
use Rattle.zone_proto.proofs.Names.Tree.{name_order}
use Rattle.zone_frozen.specs.Sets.{MovesSets}
use Rattle.zone_map.specs.Puts.{with_exchanged, with_before, without_added, without_denials}
use Rattle.zone_map.specs.Upserts.{is_denial_type}
use Rattle.zone_map.specs.Zones.{Sets, owns, owners}
use Rattle.zone_map.proofs.Lists.{contains_owner, contained_owner}
use Rattle.zone_map.proofs.Putting.{put_undone, first_false, keys_of-append, none_of, same_entries, sorted_filter, update_all_apart}

abbrev is_kept : RrKey → Bool
is_kept k = not (is_denial_type k.record_type.0)

found_kept : (q : RrKey) (m : Sets) → lookup (key_eq q) (without_denials m) ≡ cond (is_kept q) (lookup (key_eq q) m) None
found_kept q m = lookup-filter-keys (key_eq q) is_kept (is_kept q) (λ k same. ap is_kept (sym (key_same q k same))) m

-- ---- no set of denial stands where no owner of one is listed

owned_listed : (m : Sets) (n : Name) (t : ℕ) → list_any (λ a. is_eq (name_cmp n a)) (owners m t) ≡ owns m n t
owned_listed m n t =
    let told = btree_set_contains_iff name_order.total (λ a b. name_order.exact a b) (record { keys = owners m t }) n in
    both (list_any (λ a. is_eq (name_cmp n a)) (owners m t)) (owns m n t) (λ h. contained_owner m n t (told.0 h)) (λ h. told.1 (contains_owner m n t h))
  where
    both : (b c : Bool) → (b ≡ true → c ≡ true) → (c ≡ true → b ≡ true) → b ≡ c
    both true c f g = sym (f refl)
    both false true f g = g refl
    both false false f g = refl

absent_unlisted : (m : Sets) (q : RrKey) → owners m q.record_type.0 ≡ [] → lookup (key_eq q) m ≡ None
absent_unlisted m q none = none_of (lookup (key_eq q) m) (sym (owned_listed m q.name q.record_type.0) ∙ ap (list_any (λ a. is_eq (name_cmp q.name a))) none)

pub none_denied : (m : Sets) → IsStrictlySortedBy key_cmp (keys_of m) → owners m NSEC ≡ [] → owners m NSEC3 ≡ [] → without_denials m ≡ m
none_denied m sorted nsec nsec3 =
    same_entries (without_denials m) m (sorted_filter is_kept m sorted) sorted (λ q. found_kept q m ∙ by q (q.record_type.0 == NSEC) refl (q.record_type.0 == NSEC3) refl)
  where
    by : (q : RrKey) (b : Bool) → (q.record_type.0 == NSEC) ≡ b → (c : Bool) → (q.record_type.0 == NSEC3) ≡ c
        → cond (not ((q.record_type.0 == NSEC) || (q.record_type.0 == NSEC3))) (lookup (key_eq q) m) None ≡ lookup (key_eq q) m
    by q true g c h =
        ap (λ x. cond (not (x || (q.record_type.0 == NSEC3))) (lookup (key_eq q) m) None) g
        ∙ sym (absent_unlisted m q (ap (owners m) (eqb-true q.record_type.0 NSEC g) ∙ nsec))
    by q false g true h =
        ap (λ x. cond (not (x || (q.record_type.0 == NSEC3))) (lookup (key_eq q) m) None) g
        ∙ ap (λ x. cond (not x) (lookup (key_eq q) m) None) h
        ∙ sym (absent_unlisted m q (ap (owners m) (eqb-true q.record_type.0 NSEC3 h) ∙ nsec3))
    by q false g false h =
        ap (λ x. cond (not (x || (q.record_type.0 == NSEC3))) (lookup (key_eq q) m) None) g
        ∙ ap (λ x. cond (not x) (lookup (key_eq q) m) None) h

-- ---- so no key is common

pub none_common : (had more : Sets) → without_denials had ≡ had → without_denials more ≡ [] → filter (λ (e : RrKey × RRset). list_any (key_eq e.0) (keys_of had)) more ≡ []
none_common had [] none all = refl
none_common had (e ∷ es) none all = by (is_denial_type e.0.record_type.0) refl all (none_common had es none)
  where
    common : Sets
    common = filter (λ (e : RrKey × RRset). list_any (key_eq e.0) (keys_of had)) es

    by : (b : Bool) → is_denial_type e.0.record_type.0 ≡ b → cond (not b) (e ∷ without_denials es) (without_denials es) ≡ [] → (without_denials es ≡ [] → common ≡ [])
        → cond (list_any (key_eq e.0) (keys_of had)) (e ∷ common) common ≡ []
    by true g all i =
        let absent : lookup (key_eq e.0) had ≡ None = ap (lookup (key_eq e.0)) (sym none) ∙ found_kept e.0 had ∙ ap (λ b. cond (not b) (lookup (key_eq e.0) had) None) g in
        ap (λ b. cond b (e ∷ common) common) (sym (is_some-lookup (key_eq e.0) had) ∙ ap is_some absent) ∙ i all
    by false g all i = absurd cc

-- ---- and without the sets of denial that came, all or some of them, the others are as they were

pub denials_out : (had made after rest : Sets) → IsStrictlySortedBy key_cmp (keys_of had) → MovesSets had made after rest
    → without_denials had ≡ had → without_denials made ≡ [] → without_denials after ≡ had
denials_out had made after rest ordered (xs, parts, inserts) none all =
    same_entries (without_denials after) had (sorted_filter is_kept after inserts.1) ordered (λ q. found_kept q after ∙ by q (is_denial_type q.record_type.0) refl)
  where
    by : (q : RrKey) (b : Bool) → is_denial_type q.record_type.0 ≡ b → cond (not (is_denial_type q.record_type.0)) (lookup (key_eq q) after) None ≡ lookup (key_eq q) had
    by q true g =
        ap (λ b. cond (not b) (lookup (key_eq q) after) None) g
        ∙ sym (ap (lookup (key_eq q)) (sym none) ∙ found_kept q had ∙ ap (λ b. cond (not b) (lookup (key_eq q) had) None) g)
    by q false g =
        let absent : lookup (key_eq q) made ≡ None = sym (found_kept q made ∙ ap (λ b. cond (not b) (lookup (key_eq q) made) None) g) ∙ ap (lookup (key_eq q)) all in
        let whole : list_any (key_eq q) (keys_of made) ≡ false = sym (is_some-lookup (key_eq q) made) ∙ ap is_some absent in
        ap (λ b. cond (not b) (lookup (key_eq q) after) None) g
        ∙ inserts.0 q
        ∙ update_all_apart xs (λ k. lookup (key_eq k) had) q (first_false (list_any (key_eq q) (keys_of xs)) (list_any (key_eq q) (keys_of rest))
        (sym (list_any-append (key_eq q) (keys_of xs) (keys_of rest)) ∙ ap (list_any (key_eq q)) (sym (keys_of-append xs rest) ∙ ap keys_of (sym parts)) ∙ whole))

-- however those are told that were added, with them and those that were exchanged the sets are as they were
pub all_undone : {V : Type 0} (items : V → List RrKey) (added : Option V) (had more common : Sets) (sorted : IsStrictlySortedBy key_cmp (keys_of more))
    (is_common : common ≡ filter (λ (e : RrKey × RRset). list_any (key_eq e.0) (keys_of had)) more) (made : Sets)
    (is_fresh : made ≡ filter (λ (e : RrKey × RRset). not (list_any (key_eq e.0) (keys_of had))) more)
    → IfSome added (λ keys. items keys ≡ keys_of made) → IfNone added ((common ≡ []) × (without_denials had ≡ had) × (without_denials made ≡ []))
    → (sets after : Sets) (before : Sets) → sets ≡ with_exchanged had common → IsStrictlySortedBy key_cmp (keys_of sets)
    → (rest : Sets) × MovesSets sets made after rest → with_before sets before ≡ had
    → with_before (without_added after (option_map items added)) before ≡ had
all_undone items (Some keys) had more common sorted is_common made is_fresh are_keys denials sets after before exchanged ordered moved undone =
    put_undone had more common sorted is_common made is_fresh sets after (items keys) before exchanged ordered moved are_keys undone
all_undone items None had more common sorted is_common made is_fresh keys (alone, none, all) sets after before exchanged ordered (rest, moved) undone =
    let same : sets ≡ had = exchanged ∙ ap (with_exchanged had) alone in
    ap (λ (n : Sets). with_before n before) (denials_out sets made after rest ordered moved (ap without_denials same ∙ none ∙ sym same) all) ∙ undone
