-- The NSEC sets that are in a zone, passed one after the other, and found by name and type
use Rattle.std.proofs.Common.{◌≡◌, ℕ, ◌==◌, Bool, true, false, cond, List, [], ◌∷◌, ◌++◌, map, refl, sym, ap, ◌∙◌, subst, append_assoc, append-nil, eqb-true}
use Rattle.std.specs.Prelude.{Some, None, filter, option_map}
use Rattle.std.specs.Cmp.{eq_by_cmp_equiv}
use Rattle.std.specs.List.{IsDistinct}
use Rattle.std.specs.Map.{lookup, keys_of}
use Rattle.std.proofs.lemmas.Map.Entries.{lookup-filter-keys}
use Rattle.std.proofs.lemmas.Map.Keys.{IsDistinct-from_sorted}
use Rattle.std.proofs.lemmas.Map.Made.{update_all_none, IsDistinct-keys_filter}
use Rattle.zone_proto.specs.declared.rdata.denial.NSEC.{NSEC as NsecData}
use Rattle.zone_proto.specs.declared.rr_key.RrKey.{RrKey}
use Rattle.zone_proto.specs.Keys.{key, key_cmp, key_eq}
use Rattle.zone_proto.specs.Names.{Name, lower}
use Rattle.zone_proto.specs.Sets.{RRset}
use Rattle.zone_proto.specs.Types.{NSEC}
use Rattle.zone_proto.proofs.Ordering.KeyLaws.{key_cmp_total}
use Rattle.zone_proto.proofs.Ordering.KeyOrder.{key_same}
use Rattle.zone_map.specs.Standing.{renumbered, standing_at}
use Rattle.zone_map.specs.Zones.{Sets, set_at, last_at, IsStoredAt, IsZone}
use Rattle.zone_denial.specs.NsecLinks.{AreLinked}
use Rattle.zone_denial.specs.NsecSets.{nsec_data, new_set}
use Rattle.zone_denial.specs.StandingSets.{standing_sets}
use Rattle.zone_denial.proofs.Ascending.{Ascends}
use Rattle.zone_denial.proofs.Sets.Linking.{Linking, Linking-start, Linking-end}
use Rattle.zone_denial.proofs.Sets.TypesJoined.{numbers, of_numbers}

-- an entry as it would be made now
abbrev pub renewed : ℕ → RrKey × RRset → RrKey × RRset
renewed serial e = (e.0, renumbered serial e.1)

module _ (type' serial : ℕ) (e : RrKey × RRset) (left rest : Sets) (is : left ≡ e ∷ rest) where
  by_test : (b : Bool) → (e.0.record_type.0 == type') ≡ b
      → standing_sets type' serial left ≡ map (renewed serial) (cond b (e ∷ filter (λ (d : RrKey × RRset). d.0.record_type.0 == type') rest) (filter (λ (d : RrKey × RRset). d.0.record_type.0 == type') rest))
  by_test b test =
      ap (standing_sets type' serial) is
      ∙ ap (λ c. map (renewed serial) (cond c (e ∷ filter (λ (d : RrKey × RRset). d.0.record_type.0 == type') rest) (filter (λ (d : RrKey × RRset). d.0.record_type.0 == type') rest))) test

  -- a set of another type doesn't count, and one of the type comes first
  pub standing_other : (e.0.record_type.0 == type') ≡ false → standing_sets type' serial left ≡ standing_sets type' serial rest
  standing_other test = by_test false test

  pub standing_first : (e.0.record_type.0 == type') ≡ true → standing_sets type' serial left ≡ renewed serial e ∷ standing_sets type' serial rest
  standing_first test = by_test true test

-- ---- passed one after the other

module _ (origin : Name) (ks : List RrKey) (ttl : ℕ) (all : Sets) where
  -- those passed are linked, and with those that are left they are all
  abbrev pub StandSoFar : Sets → List RrKey → Type 0
  StandSoFar left keys = (serial : ℕ) → (done : Sets) × (done ++ standing_sets NSEC serial left ≡ standing_sets NSEC serial all) × Linking origin ks ttl serial done keys

  pub StandSoFar-start : (left : Sets) → left ≡ all → Ascends key_cmp ks → StandSoFar left ks
  StandSoFar-start left is a = λ serial. ([], ap (standing_sets NSEC serial) is, Linking-start origin ks ttl serial a)

  module _ (e : RrKey × RRset) (left rest : Sets) (is : left ≡ e ∷ rest) (keys : List RrKey) (so_far : StandSoFar left keys) where
    pub StandSoFar-other : (e.0.record_type.0 == NSEC) ≡ false → StandSoFar rest keys
    StandSoFar-other test = λ serial.
        let s = so_far serial in
        (s.0, ap (λ es. s.0 ++ es) (sym (standing_other NSEC serial e left rest is test)) ∙ s.1, s.2)

    pub StandSoFar-more : (others : List RrKey) (made : ℕ → RrKey × RRset) → (e.0.record_type.0 == NSEC) ≡ true → ((serial : ℕ) → made serial ≡ renewed serial e)
        → ((serial : ℕ) (done : Sets) → Linking origin ks ttl serial done keys → Linking origin ks ttl serial (done ++ made serial ∷ []) others) → StandSoFar rest others
    StandSoFar-more others made test same more = λ serial.
        let s = so_far serial in (
          s.0 ++ renewed serial e ∷ [],
          append_assoc s.0 (renewed serial e ∷ []) (standing_sets NSEC serial rest) ∙ ap (λ es. s.0 ++ es) (sym (standing_first NSEC serial e left rest is test)) ∙ s.1,
          subst (λ (d : RrKey × RRset). Linking origin ks ttl serial (s.0 ++ d ∷ []) others) (same serial) (more serial s.0 s.2),
        )

  pub StandSoFar-end : (left : Sets) (keys : List RrKey) → left ≡ [] → keys ≡ [] → StandSoFar left keys → (serial : ℕ) → AreLinked origin ks ttl serial (standing_sets NSEC serial all)
  StandSoFar-end left keys none no_keys so_far = λ serial.
      let s = so_far serial in
      let whole : s.0 ≡ standing_sets NSEC serial all = sym (append-nil s.0) ∙ ap (λ (es : Sets). s.0 ++ standing_sets NSEC serial es) (sym none) ∙ s.1 in
      subst (λ (es : Sets). AreLinked origin ks ttl serial es) whole (Linking-end origin ks ttl serial s.0 keys no_keys s.2)

-- an entry whose set is what would be made for a name is the entry of that name
pub under_own_key : (e : RrKey × RRset) (name : Name) (ttl serial : ℕ) (data' : NsecData) → IsStoredAt e.0.name e.0.record_type.0 e.1 → (e.0.record_type.0 == NSEC) ≡ true → lower name ≡ name
    → renumbered serial e.1 ≡ new_set ttl serial name data' → (key name NSEC, new_set ttl serial name data') ≡ renewed serial e
under_own_key e name ttl serial data' stored denies low same =
    let named : e.0.name ≡ name = sym stored.owner ∙ ap (λ (s : RRset). lower s.owner) same ∙ low in
    let type' : e.0.record_type.0 ≡ NSEC = eqb-true e.0.record_type.0 NSEC denies in
    let own : e.0 ≡ key name NSEC = (λ i. key (named i) (type' i)) in
    λ i. (sym own i, sym same i)

-- ---- found by name and type

lookup-renewed : (serial : ℕ) (q : RrKey) (es : Sets) → lookup (key_eq q) (map (renewed serial) es) ≡ option_map (renumbered serial) (lookup (key_eq q) es)
lookup-renewed serial q [] = refl
lookup-renewed serial q (e ∷ es) = by (key_eq q e.0) (lookup-renewed serial q es)
  where
    by : (b : Bool) → lookup (key_eq q) (map (renewed serial) es) ≡ option_map (renumbered serial) (lookup (key_eq q) es)
        → cond b (Some (renumbered serial e.1)) (lookup (key_eq q) (map (renewed serial) es)) ≡ option_map (renumbered serial) (cond b (Some e.1) (lookup (key_eq q) es))
    by true i = refl
    by false i = i

pub keys_of-renewed : (serial : ℕ) (es : Sets) → keys_of (map (renewed serial) es) ≡ keys_of es
keys_of-renewed serial [] = refl
keys_of-renewed serial (e ∷ es) = ap (λ ks. e.0 ∷ ks) (keys_of-renewed serial es)

pub last_at-standing : (m : Sets) → IsZone m → (type' serial : ℕ) (n : Name) (t : ℕ) → last_at (standing_sets type' serial m) n t ≡ standing_at m type' serial n t
last_at-standing m zone type' serial n t =
    let own = filter (λ (e : RrKey × RRset). e.0.record_type.0 == type') m in
    let differ = IsDistinct-keys_filter key_eq (λ (e : RrKey × RRset). e.0.record_type.0 == type') m (IsDistinct-from_sorted key_cmp (keys_of m) zone.ordered) in
    let found =
    lookup-filter-keys (key_eq (key n t)) (λ (k : RrKey). k.record_type.0 == type') (t == type')
    (λ k same. ap (λ (x : RrKey). x.record_type.0 == type') (sym (key_same (key n t) k same))) m in
    update_all_none (eq_by_cmp_equiv key_cmp_total) key_eq (λ x y. refl) (map (renewed serial) own) (key n t) (subst (IsDistinct key_eq) (sym (keys_of-renewed serial own)) differ)
    ∙ lookup-renewed serial (key n t) own ∙ ap (option_map (renumbered serial)) found ∙ by (t == type')
  where
    by : (b : Bool) → option_map (renumbered serial) (cond b (set_at m n t) None) ≡ cond b (option_map (renumbered serial) (set_at m n t)) None
    by true = refl
    by false = refl

-- ---- NSEC data by their parts

pub nsec_data_is : (data' : NsecData) (next : Name) (ts : List ℕ) → data'.next_domain_name ≡ next → numbers data'.types ≡ ts → data' ≡ nsec_data next ts
nsec_data_is data' next ts follows numbered =
    let same = of_numbers data'.types ∙ ap (map (λ n. record { 0 = n })) numbered in
    λ i. record { next_domain_name = follows i; types = same i }
