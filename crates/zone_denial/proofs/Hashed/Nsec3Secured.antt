-- A zone that gets its NSEC3 sets has a circle of them, where the hash tells the names of the circle apart
use Rattle.std.proofs.Common.{◌≡◌, ℕ, Bool, true, false, cond, List, [], ◌∷◌, length, refl, sym, ap, ◌∙◌, subst, true≢false, inl, inr, Ordering}
use Rattle.std.specs.Prelude.{Option, Some, None, filter_map, option_map}
use Rattle.std.specs.List.{cons_option, Contains}
use Rattle.std.specs.Option.{option_map_or}
use Rattle.zone_proto.specs.declared.rdata.denial.NSEC3PARAM.{NSEC3PARAM as Nsec3Parameters}
use Rattle.zone_proto.specs.declared.record.Record.{Record}
use Rattle.zone_proto.specs.HashedOwners.{hashed_owner}
use Rattle.zone_proto.specs.Names.{Name, name_eq}
use Rattle.zone_proto.specs.Sets.{RRset}
use Rattle.zone_proto.specs.Types.{NSEC3}
use Rattle.zone_proto.proofs.Members.{In, In-Contains, Contains-In, In-from_filter_map}
use Rattle.zone_proto.proofs.Names.NameTree.{name_eq-Decides}
use Rattle.zone_proto.proofs.Ordering.Orders.{IsOrder, irrefl}
use Rattle.zone_proto.proofs.Names.Tree.{name_eq_itself}
use Rattle.zone_map.specs.Zones.{Sets, set_at, owns}
use Rattle.zone_map.proofs.Owned.{set_of as owned_set}
use Rattle.zone_denial.specs.Covering.{next_around}
use Rattle.zone_denial.specs.Nsec3Circle.{IsNsec3Circle, IsOnNsec3Circle, digests, first_nsec3, next_digest, nsec3_data}
use Rattle.zone_denial.specs.Nsec3Laws.{SecuredIsNsec3Circle}
use Rattle.zone_denial.specs.Nsec3Names.{nsec3_names}
use Rattle.zone_denial.specs.Nsec3Sets.{HasNsec3Sets, HashedName, hashed_cmp, hashed_names, nsec3_record, set_of}
use Rattle.zone_denial.specs.Nsec3Zones.{IsCircleName, HasDistinctDigests}
use Rattle.zone_denial.proofs.Ascending.{Ascends, Ascends-from_sorted}
use Rattle.zone_denial.proofs.Hashed.HashedCircle.{hashed_order, hashed_ascends, hashed, on_circle, hashed_in, name_of_hashed, next_has_next_digest}
use Rattle.zone_denial.proofs.Hashed.Nsec3Owners.{same_value, same_by_owner}
use Rattle.zone_denial.proofs.Hashed.Nsec3SameNames.{same_names, same_types}

-- ---- what is made of the one element of an ascending list that passes a test

module _ {A B : Type 0} {R : A → A → Ordering} (o : IsOrder R) (p : A → Bool) (f : A → B) where
  abbrev taken : A → Option B
  taken x = cond (p x) (Some (f x)) None

  none_taken : (xs : List A) → ((x : A) → In x xs → p x ≡ true → ⊥) → filter_map taken xs ≡ []
  none_taken [] none = refl
  none_taken (x ∷ xs) none = by (p x) refl (none_taken xs (λ y i. none y (inr i)))
    where
      by : (b : Bool) → p x ≡ b → filter_map taken xs ≡ [] → cons_option (cond b (Some (f x)) None) (filter_map taken xs) ≡ []
      by true e ih = absurd (none x (inl refl) e)
      by false e ih = ih

  one_taken : (x : A) (xs : List A) → Ascends R xs → In x xs → p x ≡ true → ((y : A) → In y xs → p y ≡ true → y ≡ x) → filter_map taken xs ≡ f x ∷ []
  one_taken x [] a i h only = absurd i
  one_taken x (y ∷ xs) a i h only = by (p y) refl i (λ j. one_taken x xs a.1 j h (λ z k. only z (inr k)))
    where
      by : (b : Bool) → p y ≡ b → In x (y ∷ xs) → (In x xs → filter_map taken xs ≡ f x ∷ []) → cons_option (cond b (Some (f y)) None) (filter_map taken xs) ≡ f x ∷ []
      by true e i ih =
          let same = only y (inl refl) e in
          let none = none_taken xs (λ z j q. irrefl o y (ap (R y) (same ∙ sym (only z (inr j) q)) ∙ a.0 z j)) in
          λ l. f (same l) ∷ none l
      by false e (inl q) ih = absurd (true≢false (sym h ∙ ap p (sym q) ∙ e))
      by false e (inr j) ih = ih j

-- what is taken passed the test
passed : {A : Type 0} (b : Bool) (x y : A) → cond b (Some x) None ≡ Some y → b ≡ true
passed true x y e = refl
passed false x y e = absurd cc

no_fault : {E : Type 0} (p : Option E) → option_map_or (λ _. false) p true ≡ true → p ≡ None
no_fault None e = refl
no_fault (Some x) e = absurd (true≢false (sym e))

module _ (origin : Name) (m after : Sets) (hash : Name → Option (List ℕ)) (parameters : Nsec3Parameters) (ttl serial : ℕ) (h : HasNsec3Sets origin m hash parameters ttl serial after) (apart : HasDistinctDigests (IsCircleName origin m parameters.opt_out) hash) where
  abbrev names : List Name
  names = nsec3_names origin m parameters.opt_out

  abbrev all : List HashedName
  all = hashed_names origin m hash parameters.opt_out

  abbrev entry : Name → HashedName
  entry n = hashed origin m hash parameters.opt_out apart n

  abbrev owner : Name → Name
  owner n = hashed_owner origin (apart.digest n)

  abbrev is_owner : Name → HashedName → Bool
  is_owner o k = name_eq o (hashed_owner origin k.digest)

  abbrev made : HashedName → Record
  made k = nsec3_record origin m hash parameters ttl serial k

  named : (n : Name) → In n names → IsCircleName origin m parameters.opt_out n
  named n i = on_circle origin m hash parameters.opt_out apart n i

  -- ---- the set at the hashed owner of a name is of one record

  one_record : (n : Name) → In n names → filter_map (λ k. cond (is_owner (owner n) k) (Some (made k)) None) all ≡ made (entry n) ∷ []
  one_record n i =
      one_taken hashed_order (is_owner (owner n)) made (entry n) all
      (Ascends-from_sorted hashed_cmp all (hashed_ascends origin m hash parameters.opt_out))
      (hashed_in origin m hash parameters.opt_out apart n i)
      (name_eq_itself (owner n))
      only
    where
      only : (k : HashedName) → In k all → is_owner (owner n) k ≡ true → k ≡ entry n
      only k j e =
          let r = name_of_hashed origin m hash parameters.opt_out apart k j in
          let same : owner n ≡ owner r.0 = (name_eq-Decides (owner n) (hashed_owner origin k.digest)).0 e ∙ ap (λ (w : HashedName). hashed_owner origin w.digest) r.2 in
          r.2 ∙ ap entry (sym (same_by_owner apart origin n r.0 (named n i) (named r.0 r.1) same))

  set_stands : (n : Name) → In n names → (s : RRset) × (set_at after (owner n) NSEC3 ≡ Some s) × (s.records ≡ made (entry n) ∷ [])
  set_stands n i = by (set_at after (owner n) NSEC3) refl (h.denials (owner n) ∙ ap (λ rs. option_map (λ (s : RRset). s.records) (set_of (owner n) NSEC3 serial rs)) (one_record n i))
    where
      by : (p : Option RRset) → set_at after (owner n) NSEC3 ≡ p → option_map (λ (s : RRset). s.records) p ≡ Some (made (entry n) ∷ []) → (s : RRset) × (set_at after (owner n) NSEC3 ≡ Some s) × (s.records ≡ made (entry n) ∷ [])
      by None e q = absurd cc
      by (Some s) e q = (s, e, cc)

  -- which is as the circle has it
  set_on_circle : (n : Name) → In n names → (s : RRset) × (set_at after (owner n) NSEC3 ≡ Some s) × IsOnNsec3Circle origin after hash parameters n (apart.digest n) s
  set_on_circle n i =
      let r = set_stands n i in
      let same = same_names origin m after h.others parameters.opt_out in
      let next : (next_around hashed_cmp all (entry n)).digest ≡ next_digest (digests hash (nsec3_names origin after parameters.opt_out)) (apart.digest n) =
      next_has_next_digest origin m hash parameters.opt_out apart n i ∙ ap (λ ns. next_digest (digests hash ns) (apart.digest n)) (sym same) in
      let types = sym (same_types origin m after h.others n) in
      (r.0, r.1, record { single = ap length r.2; says = ap first_nsec3 r.2 ∙ (λ j. Some (nsec3_data parameters (next j) (types j))) })

  -- ---- an owner of NSEC3 is the hashed owner of a name

  name_of_owner : (o : Name) → owns after o NSEC3 ≡ true → (n : Name) × In n names × (o ≡ owner n)
  name_of_owner o k = let s = owned_set after o NSEC3 k in by (filter_map made_at all) refl s.0 (sym (ap (option_map (λ (s : RRset). s.records)) s.1) ∙ h.denials o)
    where
      made_at : HashedName → Option Record
      made_at k = cond (is_owner o k) (Some (made k)) None

      by : (rs : List Record) → filter_map made_at all ≡ rs → (s : RRset) → Some s.records ≡ option_map (λ (s : RRset). s.records) (set_of o NSEC3 serial rs) → (n : Name) × In n names × (o ≡ owner n)
      by [] e s q = absurd cc
      by (r ∷ rs) e s q =
          let c = In-from_filter_map made_at r all (subst (In r) (sym e) (inl refl)) in
          let w = name_of_hashed origin m hash parameters.opt_out apart c.0 c.1 in
          let test = passed (is_owner o c.0) (made c.0) r c.2 in
          (w.0, w.1, (name_eq-Decides o (hashed_owner origin c.0.digest)).0 test ∙ ap (λ (k : HashedName). hashed_owner origin k.digest) w.2)

  secured_circle : IsNsec3Circle origin after hash parameters
  secured_circle = record {
    one_for_each = λ n d c e.
        let i = Contains-In n names (subst (λ ns. Contains ns n) same c) in
        subst (λ w. (s : RRset) × (set_at after (hashed_owner origin w) NSEC3 ≡ Some s) × IsOnNsec3Circle origin after hash parameters n w s)
        (same_value (apart.digest n) d (sym (apart.answers n (named n i)) ∙ e)) (set_on_circle n i);
    no_other = λ o k.
        let r = name_of_owner o k in
        (r.0, apart.digest r.0, subst (λ ns. Contains ns r.0) (sym same) (In-Contains r.0 names r.1), apart.answers r.0 (named r.0 r.1), r.2);
    announced = h.announced;
  }
    where
      same : nsec3_names origin after parameters.opt_out ≡ names
      same = same_names origin m after h.others parameters.opt_out

pub secured_is_nsec3_circle : SecuredIsNsec3Circle
secured_is_nsec3_circle origin m after hash parameters ttl serial below_root zone h apart = record {
  zone = zone;
  circle = secured_circle origin m after hash parameters ttl serial h apart;
  below_root = below_root;
}
