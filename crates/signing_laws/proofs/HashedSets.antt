-- The NSEC3 sets that stand in a zone which gets them with trimmed lists: one of a single record at the hashed owner of each name
use Rattle.std.proofs.Common.{◌≡◌, ℕ, Bool, true, false, cond, List, [], ◌∷◌, length, map, refl, sym, ap, ◌∙◌, subst, true≢false, inl, inr, Ordering}
use Rattle.std.specs.Prelude.{Option, Some, None, filter_map, option_map}
use Rattle.std.specs.List.{cons_option, Contains}
use Rattle.zone_proto.specs.declared.rdata.denial.NSEC3.{NSEC3 as Nsec3Data}
use Rattle.zone_proto.specs.declared.rdata.denial.NSEC3PARAM.{NSEC3PARAM as Nsec3Parameters}
use Rattle.zone_proto.specs.declared.record.Record.{Record}
use Rattle.zone_proto.specs.declared.record_type.RecordType.{RecordType}
use Rattle.zone_proto.specs.HashedOwners.{hashed_owner}
use Rattle.zone_proto.specs.Names.{Name, name_eq}
use Rattle.zone_proto.specs.Sets.{RRset}
use Rattle.zone_proto.specs.Types.{NSEC3}
use Rattle.zone_proto.proofs.Members.{In, In-from_filter_map}
use Rattle.zone_proto.proofs.Names.NameTree.{name_eq-Decides}
use Rattle.zone_proto.proofs.Ordering.Orders.{IsOrder, irrefl}
use Rattle.zone_proto.proofs.Names.Tree.{name_eq_itself}
use Rattle.zone_map.specs.Zones.{Sets, set_at, owns}
use Rattle.zone_map.proofs.Owned.{set_of as owned_set}
use Rattle.zone_denial.specs.Covering.{next_around}
use Rattle.zone_denial.specs.Nsec3Circle.{first_nsec3, digests, next_digest, nsec3_data, nsec3_types}
use Rattle.zone_denial.specs.Nsec3Names.{nsec3_names}
use Rattle.zone_denial.specs.Nsec3Sets.{HashedName, hashed_cmp, hashed_names, nsec3_record, set_of}
use Rattle.zone_denial.specs.Nsec3Zones.{IsCircleName, HasDistinctDigests}
use Rattle.zone_denial.proofs.Ascending.{Ascends, Ascends-from_sorted}
use Rattle.zone_denial.proofs.Hashed.HashedCircle.{hashed_order, hashed_ascends, hashed, on_circle, hashed_in, name_of_hashed, next_has_next_digest}
use Rattle.zone_denial.proofs.Hashed.Nsec3Owners.{same_by_owner}
use Rattle.zone_denial.proofs.Hashed.Nsec3SameNames.{same_names, same_types}
use Rattle.zone_trimming.specs.Trimming.{trimmed_set, trimmed_types}
use Rattle.zone_trimming.proofs.TrimmedLists.{left, typed, same_left}
use Rattle.signing_laws.specs.TrimmedHashedChains.{HasTrimmedNsec3Sets}

-- ---- what is made of the one element of an ascending list that passes a test

module _ {A B : Type 0} {R : A → A → Ordering} (o : IsOrder R) (p : A → Bool) (f : A → B) where
  abbrev taken : A → Option B
  taken x = cond (p x) (Some (f x)) None

  none_taken : (xs : List A) → ((x : A) → In x xs → p x ≡ true → ⊥) → filter_map taken xs ≡ []
  none_taken [] none = refl
  none_taken (x ∷ xs) none = by (p x) refl (none_taken xs (λ y i. none y (inr i)))
    where
      by : (b : Bool) → p x ≡ b → filter_map taken xs ≡ [] → cons_option (cond b (Some (f x)) None) (filter_map taken xs) ≡ []
      by true e ih = absurd (none x (inl refl) e)
      by false e ih = ih

  one_taken : (x : A) (xs : List A) → Ascends R xs → In x xs → p x ≡ true → ((y : A) → In y xs → p y ≡ true → y ≡ x) → filter_map taken xs ≡ f x ∷ []
  one_taken x [] a i h only = absurd i
  one_taken x (y ∷ xs) a i h only = by (p y) refl i (λ j. one_taken x xs a.1 j h (λ z k. only z (inr k)))
    where
      by : (b : Bool) → p y ≡ b → In x (y ∷ xs) → (In x xs → filter_map taken xs ≡ f x ∷ []) → cons_option (cond b (Some (f y)) None) (filter_map taken xs) ≡ f x ∷ []
      by true e i ih =
          let same = only y (inl refl) e in
          let none = none_taken xs (λ z j q. irrefl o y (ap (R y) (same ∙ sym (only z (inr j) q)) ∙ a.0 z j)) in
          λ l. f (same l) ∷ none l
      by false e (inl q) ih = absurd (true≢false (sym h ∙ ap p (sym q) ∙ e))
      by false e (inr j) ih = ih j

-- what is taken passed the test
passed : {A : Type 0} (b : Bool) (x y : A) → cond b (Some x) None ≡ Some y → b ≡ true
passed true x y e = refl
passed false x y e = absurd cc

-- of the records of a set that may be there: how many they are, and what the first one says
abbrev length_of : Option (List Record) → ℕ
length_of None = 0
length_of (Some rs) = length rs

abbrev first_of : Option (List Record) → Option Nsec3Data
first_of None = None
first_of (Some rs) = first_nsec3 rs

-- numbers of types, and the types of these numbers
types_back : (ts : List RecordType) → typed (map (λ (t : RecordType). t.0) ts) ≡ ts
types_back [] = refl
types_back (t ∷ ts) = ap (λ (us : List RecordType). t ∷ us) (types_back ts)

trimmed_typed : (ts : List ℕ) → trimmed_types (typed ts) ≡ typed (left ts)
trimmed_typed ts = sym (types_back (trimmed_types (typed ts))) ∙ ap typed (same_left ts)

module _ (origin : Name) (m after : Sets) (hash : Name → Option (List ℕ)) (parameters : Nsec3Parameters) (ttl serial : ℕ) (h : HasTrimmedNsec3Sets origin m hash parameters ttl serial after) (apart : HasDistinctDigests (IsCircleName origin m parameters.opt_out) hash) where
  abbrev names : List Name
  names = nsec3_names origin m parameters.opt_out

  abbrev all : List HashedName
  all = hashed_names origin m hash parameters.opt_out

  abbrev entry : Name → HashedName
  entry n = hashed origin m hash parameters.opt_out apart n

  abbrev owner : Name → Name
  owner n = hashed_owner origin (apart.digest n)

  abbrev is_owner : Name → HashedName → Bool
  is_owner o k = name_eq o (hashed_owner origin k.digest)

  abbrev made : HashedName → Record
  made k = nsec3_record origin m hash parameters ttl serial k

  pub named : (n : Name) → In n names → IsCircleName origin m parameters.opt_out n
  named n i = on_circle origin m hash parameters.opt_out apart n i

  -- ---- the set at the hashed owner of a name

  one_record : (n : Name) → In n names → filter_map (λ k. cond (is_owner (owner n) k) (Some (made k)) None) all ≡ made (entry n) ∷ []
  one_record n i =
      one_taken hashed_order (is_owner (owner n)) made (entry n) all
      (Ascends-from_sorted hashed_cmp all (hashed_ascends origin m hash parameters.opt_out))
      (hashed_in origin m hash parameters.opt_out apart n i)
      (name_eq_itself (owner n))
      only
    where
      only : (k : HashedName) → In k all → is_owner (owner n) k ≡ true → k ≡ entry n
      only k j e =
          let r = name_of_hashed origin m hash parameters.opt_out apart k j in
          let same : owner n ≡ owner r.0 = (name_eq-Decides (owner n) (hashed_owner origin k.digest)).0 e ∙ ap (λ (w : HashedName). hashed_owner origin w.digest) r.2 in
          r.2 ∙ ap entry (sym (same_by_owner apart origin n r.0 (named n i) (named r.0 r.1) same))

  -- the records that a set at this owner is made of, trimmed
  abbrev trimmed_from : Name → List Record → Option (List Record)
  trimmed_from o rs = option_map (λ (s : RRset). s.records) (option_map trimmed_set (set_of o NSEC3 serial rs))

  -- the set of a name of this digest: a single record, with the next of the digests and these types
  pub record IsTrimmedSet (n : Name) (d : List ℕ) (s : RRset) : Type 0 where
    pub single : length s.records ≡ 1
    pub says : first_nsec3 s.records ≡ Some (nsec3_data parameters (next_digest (digests hash (nsec3_names origin after parameters.opt_out)) d) (left (nsec3_types origin after n)))

  pub set_stands : (n : Name) → In n names → (s : RRset) × (set_at after (owner n) NSEC3 ≡ Some s) × IsTrimmedSet n (apart.digest n) s
  set_stands n i = by (set_at after (owner n) NSEC3) refl (h.denials (owner n) ∙ ap (trimmed_from (owner n)) (one_record n i))
    where
      next : (next_around hashed_cmp all (entry n)).digest ≡ next_digest (digests hash (nsec3_names origin after parameters.opt_out)) (apart.digest n)
      next =
          next_has_next_digest origin m hash parameters.opt_out apart n i
          ∙ ap (λ ns. next_digest (digests hash ns) (apart.digest n)) (sym (same_names origin m after h.others parameters.opt_out))

      types : trimmed_types (typed (nsec3_types origin m n)) ≡ typed (left (nsec3_types origin after n))
      types = trimmed_typed (nsec3_types origin m n) ∙ ap (λ ts. typed (left ts)) (sym (same_types origin m after h.others n))

      by : (p : Option RRset) → set_at after (owner n) NSEC3 ≡ p → option_map (λ (s : RRset). s.records) p ≡ trimmed_from (owner n) (made (entry n) ∷ [])
          → (s : RRset) × (set_at after (owner n) NSEC3 ≡ Some s) × IsTrimmedSet n (apart.digest n) s
      by None e q = absurd cc
      by (Some s) e q = (
        s,
        e,
        record {
          single = ap length_of q;
          says =
              ap first_of q
              ∙ (λ j.
              Some
              (record {
                algorithm = parameters.algorithm;
                opt_out = parameters.opt_out;
                iterations = parameters.iterations;
                salt = parameters.salt;
                next_hashed_owner_name = next j;
                types = types j;
              }));
        },
      )

  -- ---- an owner of NSEC3 is the hashed owner of a name

  pub name_of_owner : (o : Name) → owns after o NSEC3 ≡ true → (n : Name) × In n names × (o ≡ owner n)
  name_of_owner o k = let s = owned_set after o NSEC3 k in by (filter_map made_at all) refl s.0 (sym (ap (option_map (λ (s : RRset). s.records)) s.1) ∙ h.denials o)
    where
      made_at : HashedName → Option Record
      made_at k = cond (is_owner o k) (Some (made k)) None

      by : (rs : List Record) → filter_map made_at all ≡ rs → (s : RRset) → Some s.records ≡ trimmed_from o rs → (n : Name) × In n names × (o ≡ owner n)
      by [] e s q = absurd cc
      by (r ∷ rs) e s q =
          let c = In-from_filter_map made_at r all (subst (In r) (sym e) (inl refl)) in
          let w = name_of_hashed origin m hash parameters.opt_out apart c.0 c.1 in
          let test = passed (is_owner o c.0) (made c.0) r c.2 in
          (w.0, w.1, (name_eq-Decides o (hashed_owner origin c.0.digest)).0 test ∙ ap (λ (k : HashedName). hashed_owner origin k.digest) w.2)
