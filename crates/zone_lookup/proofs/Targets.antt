-- A found set leads where a stored set leads, and few stored sets lead anywhere
use Rattle.std.proofs.Common.{◌≡◌, ℕ, suc, ◌≤◌, arith, Bool, true, false, cond, ◌||◌, List, [], ◌∷◌, map, length, refl, sym, ap, ◌∙◌, subst, true≢false, ◌⊎◌, inl, inr}
use Rattle.std.specs.Prelude.{Option, Some, None, filter, filter_map, option_and_then, option_map, ◌==◌, is_some}
use Rattle.std.specs.Option.{option_or}
use Rattle.std.specs.List.{All, list_any, cons_option}
use Rattle.std.specs.Map.{keys_of}
use Rattle.zone_proto.specs.declared.rdata.RData.{RData}
use Rattle.zone_proto.specs.declared.rdata.RData.TheVariants as V
use Rattle.zone_proto.specs.declared.record.Record.{Record}
use Rattle.zone_proto.specs.declared.rr_key.RrKey.{RrKey}
use Rattle.zone_proto.specs.Data.{type_of}
use Rattle.zone_proto.specs.Keys.{key}
use Rattle.zone_proto.specs.Names.{Name, name_eq}
use Rattle.zone_proto.specs.Sets.{RRset, record_under}
use Rattle.zone_proto.specs.Types.{A, NS, CNAME, SOA, MX, AAAA, SRV, ANAME}
use Rattle.zone_proto.proofs.Members.{In, In-filter_map, In-map, any_from_In}
use Rattle.zone_proto.proofs.Names.NameTree.{name_eq-Decides}
use Rattle.zone_map.specs.Zones.{Sets, set_at, owns, IsZone}
use Rattle.zone_map.specs.Direct.{direct, referral, nearest_delegation, exact, least_owned, types_for}
use Rattle.zone_map.specs.Wildcards.{found, wildcard, asked_wildcard, renamed}
use Rattle.zone_map.specs.Chains.{alias_target, first_target}
use Rattle.zone_lookup.specs.Additionals.{followed, first_data, next_name, run_target, names_host, run_types, leads_to, alias_sets}
use Rattle.zone_map.proofs.Owned.{has_entry}

-- ---- options

either : {X : Type 0} (o p : Option X) (x : X) → option_or o p ≡ Some x → (o ≡ Some x) ⊎ (p ≡ Some x)
either None p x e = inr e
either (Some y) p x e = inl e

from_and_then : {X Y : Type 0} (f : X → Option Y) (o : Option X) (y : Y) → option_and_then f o ≡ Some y → (x : X) × (o ≡ Some x) × (f x ≡ Some y)
from_and_then f None y e = absurd cc
from_and_then f (Some x) y e = (x, refl, e)

from_map : {X Y : Type 0} (f : X → Y) (o : Option X) (y : Y) → option_map f o ≡ Some y → (x : X) × (o ≡ Some x) × (f x ≡ y)
from_map f None y e = absurd cc
from_map f (Some x) y e = (x, refl, cc)

unless : {X : Type 0} (b : Bool) (o : Option X) (x : X) → cond b None o ≡ Some x → o ≡ Some x
unless true o x e = absurd cc
unless false o x e = e

-- ---- a found set says what a stored set says

-- some stored set begins with these data
abbrev IsStoredData : Sets → Option RData → Type 0
IsStoredData m p = (n : Name) × (t : ℕ) × (s : RRset) × (set_at m n t ≡ Some s) × (first_data s.records ≡ p)

module _ (m : Sets) where
  direct_stored : (n : Name) (t : ℕ) (s : RRset) → direct m n t ≡ Some s → IsStoredData m (first_data s.records)
  direct_stored n t s e = by (either (referral m n t) (exact m n t) s e)
    where
      by : (referral m n t ≡ Some s) ⊎ (exact m n t ≡ Some s) → IsStoredData m (first_data s.records)
      by (inl r) =
          let a = from_and_then (λ a. cond (owns m a SOA) None (set_at m a NS)) (nearest_delegation m n t) s r in
          (a.0, NS, s, unless (owns m a.0 SOA) (set_at m a.0 NS) s a.2, refl)
      by (inr r) = let a = from_and_then (set_at m n) (least_owned m n (types_for t)) s r in (n, a.0, s, a.2, refl)

  kept : (n : Name) (ttl : ℕ) (rs : List Record) → first_data rs ≡ first_data (map (record_under n ttl) rs)
  kept n ttl [] = refl
  kept n ttl (r ∷ rs) = refl

  found_data : (signed : Bool) (n : Name) (t : ℕ) (s : RRset) → found m signed n t ≡ Some s → IsStoredData m (first_data s.records)
  found_data signed n t s e = by (either (direct m n t) (wildcard m signed n t) s e)
    where
      by : (direct m n t ≡ Some s) ⊎ (wildcard m signed n t ≡ Some s) → IsStoredData m (first_data s.records)
      by (inl r) = direct_stored n t s r
      by (inr r) =
          let a = from_and_then (λ wildcard_name. option_map (renamed signed wildcard_name n) (direct m wildcard_name t)) (asked_wildcard m n) s r in
          let b = from_map (renamed signed a.0 n) (direct m a.0 t) s a.2 in
          let c = direct_stored a.0 t b.0 b.1 in
          (c.0, c.1, c.2, c.3, c.4 ∙ kept n b.0.ttl b.0.records ∙ ap (λ (x : RRset). first_data x.records) b.2)

-- where data lead
abbrev goes : ℕ → Option RData → Option Name
goes t p = option_or (option_and_then alias_target p) (option_and_then (followed t) p)

target_of : (t : ℕ) (s : RRset) → run_target t s ≡ goes t (first_data s.records)
target_of t s = ap (λ o. option_or o (next_name t s)) (by s.records)
  where
    by : (rs : List Record) → first_target rs ≡ option_and_then alias_target (first_data rs)
    by [] = refl
    by (r ∷ rs) = refl

-- ---- the targets of all stored sets

module _ (m : Sets) (t : ℕ) where
  abbrev target_at : RrKey → Option Name
  target_at k = option_and_then (run_target t) (set_at m k.name k.record_type.0)

  pub targets : List Name
  targets = filter_map target_at (keys_of m)

  pub leads_among : (signed : Bool) (n a : Name) → leads_to m signed t n ≡ Some a → list_any (name_eq a) targets ≡ true
  unfolding targets
  leads_among signed n a e =
      let r = from_and_then (run_target t) (found m signed n t) a e in
      let q = found_data m signed n t r.0 r.1 in
      let to : run_target t q.2 ≡ Some a = target_of t q.2 ∙ ap (goes t) q.4 ∙ sym (target_of t r.0) ∙ r.2 in
      let entry = has_entry m q.0 q.1 (ap is_some q.3) in
      any_from_In (name_eq a) a (filter_map target_at (keys_of m))
      (In-filter_map target_at (key q.0 q.1) a (keys_of m) (In-map (λ (d : RrKey × RRset). d.0) (key q.0 q.1, entry.0) m entry.1) (ap (option_and_then (run_target t)) q.3 ∙ to))
      ((name_eq-Decides a a).1 refl)

-- ---- how many they are

few : {X Y : Type 0} (f : X → Option Y) (p : X → Bool) → ((x : X) (y : Y) → f x ≡ Some y → p x ≡ true) → (xs : List X) → length (filter_map f xs) ≤ length (filter p xs)
few f p h [] = omega arith
few {X} {Y} f p h (x ∷ xs) = by (f x) refl (few f p h xs)
  where
    by : (o : Option Y) → f x ≡ o → length (filter_map f xs) ≤ length (filter p xs) → length (cons_option o (filter_map f xs)) ≤ length (cond (p x) (x ∷ filter p xs) (filter p xs))
    by None e ih = two (p x) ih
      where
        two : (b : Bool) → length (filter_map f xs) ≤ length (filter p xs) → length (filter_map f xs) ≤ length (cond b (x ∷ filter p xs) (filter p xs))
        two true ih = omega arith
        two false ih = ih
    by (Some y) e ih = subst (λ b. suc (length (filter_map f xs)) ≤ length (cond b (x ∷ filter p xs) (filter p xs))) (sym (h x y e)) (let k : suc (length (filter_map f xs)) ≤ suc (length (filter p xs)) = omega arith in k)

alias_is : (d : RData) (a : Name) → alias_target d ≡ Some a → type_of d ≡ CNAME
alias_is (V.CNAME n) a e = refl
alias_is _ a e = absurd cc

-- a type whose own data name no host
record IsPlain (t : ℕ) : Type 0 where
  servers : (t == NS) ≡ false
  exchange : (t == MX) ≡ false
  service : (t == SRV) ≡ false

failed : {X : Type 0} (b : Bool) (x y : X) → b ≡ false → cond b (Some x) None ≡ Some y → ⊥
failed true x y q e = true≢false q
failed false x y q e = cc

followed_is : (t : ℕ) → IsPlain t → (d : RData) (a : Name) → followed t d ≡ Some a → type_of d ≡ ANAME
followed_is t p (V.ANAME n) a e = refl
followed_is t p (V.NS n) a e = absurd (failed (t == NS) _ _ p.servers e)
followed_is t p (V.MX d) a e = absurd (failed (t == MX) _ _ p.exchange e)
followed_is t p (V.SRV d) a e = absurd (failed (t == SRV) _ _ p.service e)
followed_is t p _ a e = absurd cc

or_neither : (a b : Bool) → a || b ≡ false → (a ≡ false) × (b ≡ false)
or_neither true b e = absurd (true≢false e)
or_neither false b e = (refl, e)

plain : (u t : ℕ) → In t (run_types u) → IsPlain t
plain u t i = by (names_host u) refl i
  where
    at : (v : ℕ) → v ≡ t → IsPlain v → IsPlain t
    at v e p = subst IsPlain e p

    by : (b : Bool) → names_host u ≡ b → In t (cond b (A ∷ AAAA ∷ []) (u ∷ [])) → IsPlain t
    by true e (inl q) = at A q (record { servers = refl; exchange = refl; service = refl })
    by true e (inr (inl q)) = at AAAA q (record { servers = refl; exchange = refl; service = refl })
    by true e (inr (inr i)) = absurd i
    by false e (inl q) =
        let r = or_neither ((u == ANAME) || (u == NS) || (u == MX)) (u == SRV) e in
        let s = or_neither ((u == ANAME) || (u == NS)) (u == MX) r.0 in
        at u q (record { servers = (or_neither (u == ANAME) (u == NS) s.0).1; exchange = s.1; service = r.1 })
    by false e (inr i) = absurd i

first_typed : (t : ℕ) (rs : List Record) → All (λ (r : Record). type_of r.rdata ≡ t) rs → (d : RData) → first_data rs ≡ Some d → type_of d ≡ t
first_typed t [] h d e = absurd cc
first_typed t (r ∷ rs) h d e = let q : r.rdata ≡ d = cc in sym (ap type_of q) ∙ h 0 r (omega arith)

typed : (m : Sets) → IsZone m → (n : Name) (t : ℕ) (s : RRset) (d : RData) → set_at m n t ≡ Some s → first_data s.records ≡ Some d → type_of d ≡ t
typed m zone n t s d e f = let there = zone.stored n t s e in first_typed s.record_type s.records there.set.types d f ∙ there.record_type

module _ (m : Sets) (zone : IsZone m) (u t : ℕ) (among : In t (run_types u)) where
  of_alias : (k : RrKey) (a : Name) → target_at m t k ≡ Some a → ((k.record_type.0 == CNAME) || (k.record_type.0 == ANAME)) ≡ true
  of_alias k a e =
      let s = from_and_then (run_target t) (set_at m k.name k.record_type.0) a e in
      by s.0 s.1 (either (option_and_then alias_target (first_data s.0.records)) (option_and_then (followed t) (first_data s.0.records)) a (sym (target_of t s.0) ∙ s.2))
    where
      by : (s : RRset) → set_at m k.name k.record_type.0 ≡ Some s → (option_and_then alias_target (first_data s.records) ≡ Some a) ⊎ (option_and_then (followed t) (first_data s.records) ≡ Some a)
          → ((k.record_type.0 == CNAME) || (k.record_type.0 == ANAME)) ≡ true
      by s q (inl r) =
          let d = from_and_then alias_target (first_data s.records) a r in
          ap (λ v. (v == CNAME) || (v == ANAME)) (sym (typed m zone k.name k.record_type.0 s d.0 q d.1) ∙ alias_is d.0 a d.2)
      by s q (inr r) =
          let d = from_and_then (followed t) (first_data s.records) a r in
          ap (λ v. (v == CNAME) || (v == ANAME)) (sym (typed m zone k.name k.record_type.0 s d.0 q d.1) ∙ followed_is t (plain u t among) d.0 a d.2)

  pub targets_few : length (targets m t) ≤ alias_sets m
  unfolding targets
  targets_few = few (target_at m t) (λ (k : RrKey). (k.record_type.0 == CNAME) || (k.record_type.0 == ANAME)) of_alias (keys_of m)
