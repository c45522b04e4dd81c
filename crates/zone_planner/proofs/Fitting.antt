-- What is known of keys and zones with which nothing is wrong
use Rattle.std.proofs.Common.{◌≡◌, ℕ, zero, suc, ◌+◌, ◌/◌, ◌%◌, ◌≤◌, ◌==◌, ◌&&◌, ◌||◌, not, Bool, true, false, cond, List, [], ◌∷◌, length, refl, sym, ap, ◌∙◌, true≢false, inl, inr, arith}
use Rattle.std.specs.Prelude.{Option, Some, None, filter_map, nat_le}
use Rattle.std.specs.List.{All, AllByRecursion, position, position_from, cons_option}
use Rattle.std.specs.Map.{keys_of}
use Rattle.std.specs.Option.{option_or}
use Rattle.std.proofs.lemmas.Bool.{leb-true}
use Rattle.std.proofs.lemmas.Iterator.Adapters.{position_from-zero}
use Rattle.zone_proto.specs.declared.rr_key.RrKey.{RrKey}
use Rattle.zone_proto.specs.Keys.{key}
use Rattle.zone_proto.specs.Names.{Name, is_at_or_above}
use Rattle.zone_proto.specs.Sets.{RRset}
use Rattle.zone_proto.specs.Types.{SOA, CNAME, is_derived}
use Rattle.zone_proto.proofs.Members.{In, In-map, and_right}
use Rattle.zone_map.specs.Zones.{Sets, owns}
use Rattle.zone_map.proofs.Owned.{has_entry}
use Rattle.zone_denial.specs.Chains.{is_below_dname}
use Rattle.zone_planning.specs.declared.fault.PlanFault.{PlanFault}
use Rattle.zone_planning.specs.declared.fault.PlanFault.TheVariants as fault
use Rattle.zone_planner.specs.declared.keys.PlannedKey.{PlannedKey}
use Rattle.zone_planner.specs.Requests.{can_stand, is_bad, is_revoked, IsShort, AreFit}
use Rattle.zone_planner.specs.Zones.{apex_fault, first, set_fault, sets_fault, zone_fault}

-- ---- keys

none_from : {A : Type 0} (p : A → Bool) (i : ℕ) (xs : List A) → position_from p i xs ≡ None → AllByRecursion (λ x. p x ≡ false) xs
none_from p i [] e = tt
none_from p i (x ∷ xs) e = by (p x) refl e (λ h. none_from p (i + 1) xs h)
  where
    by : (b : Bool) → p x ≡ b → cond b (Some i) (position_from p (i + 1) xs) ≡ None → (position_from p (i + 1) xs ≡ None → AllByRecursion (λ x. p x ≡ false) xs) → AllByRecursion (λ x. p x ≡ false) (x ∷ xs)
    by true q h ih = absurd cc
    by false q h ih = (q, ih h)

or_parts : (a b : Bool) → a || b ≡ false → (a ≡ false) × (b ≡ false)
or_parts false false e = (refl, refl)
or_parts false true e = absurd (true≢false e)
or_parts true b e = absurd (true≢false e)

not_false : (b : Bool) → not b ≡ false → b ≡ true
not_false true e = refl
not_false false e = absurd (true≢false e)

short_key : (k : PlannedKey) → is_bad k ≡ false → IsShort k
short_key k e =
    let stands = not_false (can_stand k.key) (or_parts (not (can_stand k.key)) (is_revoked k.key && k.signs_others) e).0 in
    let zone = and_right (k.key.protocol == 3) ((k.key.flags / 256 % 2 == 1) && (not (k.key.algorithm == 1) && nat_le (length k.key.public_key) 65531)) stands in
    let other = and_right (k.key.flags / 256 % 2 == 1) (not (k.key.algorithm == 1) && nat_le (length k.key.public_key) 65531) zone in
    leb-true (length k.key.public_key) 65531 (and_right (not (k.key.algorithm == 1)) (nat_le (length k.key.public_key) 65531) other)

all_short : (ks : List PlannedKey) → AllByRecursion (λ k. is_bad k ≡ false) ks → AllByRecursion IsShort ks
all_short [] h = tt
all_short (k ∷ ks) h = (short_key k h.0, all_short ks h.1)

at_each : {A : Type 0} (P : A → Type 0) (xs : List A) → AllByRecursion P xs → All P xs
at_each P [] h k d within = absurd (omega (arith, within))
at_each P (x ∷ xs) h zero d within = h.0
at_each P (x ∷ xs) h (suc k) d within = at_each P xs h.1 k d (omega (arith, within))

pub fit_keys : (keys : List PlannedKey) → length keys ≤ 256 → position is_bad keys ≡ None → AreFit keys
fit_keys keys few none = record { few = few; short = at_each IsShort keys (all_short keys (none_from is_bad 0 keys (sym (position_from-zero is_bad keys) ∙ none))) }

-- ---- zones

-- nothing is wrong with the sets of a zone
pub record IsFitSet (origin : Name) (m : Sets) (n : Name) (t : ℕ) : Type 0 where
  pub inside : is_at_or_above origin n ≡ true
  pub kept : is_derived t ≡ false
  pub open' : is_below_dname m n ≡ false

none_first : (o : Option PlanFault) (es : List PlanFault) → first (cons_option o es) ≡ None → (o ≡ None) × (first es ≡ None)
none_first None es e = (refl, e)
none_first (Some f) es e = absurd cc

none_of : (f : RrKey → Option PlanFault) (ks : List RrKey) → first (filter_map f ks) ≡ None → (k : RrKey) → In k ks → f k ≡ None
none_of f [] e k i = absurd i
none_of f (q ∷ ks) e k (inl same) = ap f (sym same) ∙ (none_first (f q) (filter_map f ks) e).0
none_of f (q ∷ ks) e k (inr i) = none_of f ks (none_first (f q) (filter_map f ks) e).1 k i

fit : (origin : Name) (m : Sets) (k : RrKey) → set_fault origin m k ≡ None → IsFitSet origin m k.name k.record_type.0
fit origin m k e = by (is_at_or_above origin k.name) refl (is_derived k.record_type.0) refl (is_below_dname m k.name) refl e
  where
    by : (a : Bool) → is_at_or_above origin k.name ≡ a → (b : Bool) → is_derived k.record_type.0 ≡ b → (c : Bool) → is_below_dname m k.name ≡ c
        → cond (not a) (Some (fault.Outside k.name)) (cond b (Some (fault.Made k.name k.record_type)) (cond c (Some (fault.BelowDname k.name)) None)) ≡ None
        → IsFitSet origin m k.name k.record_type.0
    by true p false q false r h = record { inside = p; kept = q; open' = r }
    by false p b q c r h = absurd cc
    by true p true q c r h = absurd cc
    by true p false q true r h = absurd cc

module _ (origin : Name) (m : Sets) (faultless : zone_fault origin m ≡ None) where
  parts : (o p : Option PlanFault) → option_or o p ≡ None → (o ≡ None) × (p ≡ None)
  parts None p e = (refl, e)
  parts (Some f) p e = absurd cc

  -- a set that stands in it is fit
  pub fit_set : (n : Name) (t : ℕ) → owns m n t ≡ true → IsFitSet origin m n t
  fit_set n t k =
      let entry = has_entry m n t k in
      fit origin m (key n t) (none_of (set_fault origin m) (keys_of m) (parts (apex_fault origin m) (sets_fault origin m) faultless).1 (key n t) (In-map (λ (e : RrKey × RRset). e.0) (key n t, entry.0) m entry.1))

  -- none that signing makes stands there
  pub none_made : (n : Name) (t : ℕ) → is_derived t ≡ true → owns m n t ≡ false
  none_made n t made = by (owns m n t) refl
    where
      by : (b : Bool) → owns m n t ≡ b → b ≡ false
      by true k = absurd (true≢false (sym made ∙ (fit_set n t k).kept))
      by false k = refl

  -- an SOA stands at the origin, and no CNAME
  apex : (a b : Bool) → owns m origin SOA ≡ a → owns m origin CNAME ≡ b → cond (not a) (Some fault.NoSoa) (cond b (Some fault.CnameAtOrigin) None) ≡ None → (owns m origin SOA ≡ true) × (owns m origin CNAME ≡ false)
  apex true false p q e = (p, q)
  apex false b p q e = absurd cc
  apex true true p q e = absurd cc

  pub has_soa : owns m origin SOA ≡ true
  has_soa = (apex (owns m origin SOA) (owns m origin CNAME) refl refl (parts (apex_fault origin m) (sets_fault origin m) faultless).0).0

  pub no_cname : owns m origin CNAME ≡ false
  no_cname = (apex (owns m origin SOA) (owns m origin CNAME) refl refl (parts (apex_fault origin m) (sets_fault origin m) faultless).0).1
