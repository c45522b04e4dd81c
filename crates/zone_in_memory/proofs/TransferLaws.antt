-- The laws of transfers
use Rattle.std.proofs.Common.{◌≡◌, ◌≢◌, ℕ, suc, ◌<◌, arith, length, get_or, filter, ◌==◌, ◌&&◌, not, Bool, true, false, cond, List, [], ◌∷◌, ◌++◌, refl, sym, ap, ◌∙◌, subst, true≢false, eq-eqb, eqb-true, inl, inr, Less, Equal}
use Rattle.std.specs.Prelude.{Option, Some, None, is_some, MatchOption, option_and_then}
use Rattle.std.specs.Option.{option_or}
use Rattle.std.specs.Ordering.{nat_cmp}
use Rattle.std.specs.List.{AllByRecursion, Contains, IsDistinct}
use Rattle.std.specs.List.Sorted.{IsStrictlySortedBy}
use Rattle.std.specs.Map.{keys_of, values_of, lookup}
use Rattle.std.proofs.lemmas.Cmp.{tied_itself}
use Rattle.std.proofs.lemmas.Map.Keys.{sorted_head, sorted_tail, IsDistinct-from_apart}
use Rattle.zone_proto.specs.declared.rdata.RData.{RData}
use Rattle.zone_proto.specs.declared.rdata.RData.TheVariants as V
use Rattle.zone_proto.specs.declared.record.Record.{Record}
use Rattle.zone_proto.specs.declared.rr_key.RrKey.{RrKey}
use Rattle.zone_proto.specs.Data.{same_data, type_of}
use Rattle.zone_proto.specs.Keys.{key, key_cmp, key_eq}
use Rattle.zone_proto.specs.Names.{Name, name_cmp, lower, same_name}
use Rattle.zone_proto.specs.Order.{least}
use Rattle.zone_proto.specs.Records.{same_record}
use Rattle.zone_proto.specs.Sets.{RRset, IsSet, lent, lent_lists, is_single}
use Rattle.zone_proto.specs.Types.{NS, CNAME, SOA, ANAME}
use Rattle.zone_proto.proofs.Ordering.KeyLaws.{key_cmp_total}
use Rattle.zone_proto.proofs.Ordering.KeyOrder.{equal_of, key_same, key_itself}
use Rattle.zone_proto.proofs.Members.{In, In-Contains, Contains-In, In-filter, In-from_filter, In-map, In-from_map, In-flat_map, In-from_flat_map, and_left, and_right, not_true}
use Rattle.zone_proto.proofs.Names.Tree.{name_order}
use Rattle.lookup_types.specs.declared.lookup_options.LookupOptions.{LookupOptions}
use Rattle.zone_handler.specs.declared.lookup_records.LookupRecords.{LookupRecords}
use Rattle.zone_handler.specs.declared.zone_transfer.ZoneTransfer.{ZoneTransfer}
use Rattle.zone_handler.specs.Answers.{records_in}
use Rattle.zone_handler.specs.Sets.{set_records, sets_records, axfr_records}
use Rattle.zone_handler.specs.Transfers.{transfer_records}
use Rattle.zone_map.specs.Chains.{chain}
use Rattle.zone_map.specs.Direct.{is_address, is_delegated, is_delegated_for, nearest_delegation, referral, referral_at, exact}
use Rattle.zone_map.specs.Wildcards.{found, wildcard}
use Rattle.zone_map.specs.Zones.{Sets, set_at, owns, IsStoredAt, IsZone}
use Rattle.zone_map.proofs.Delegations.{found_above}
use Rattle.zone_lookup.specs.Flattening.{last_set, stands_for_addresses, alone}
use Rattle.zone_lookup.specs.Replies.{one_set, chained, negative, negative_answer, is_followed, answer_section, IsAnswer}
use Rattle.zone_in_memory.specs.KeptReplies.{KeepsAnswers}
use Rattle.zone_in_memory.specs.Transfers.{plain, HasAnswers, IsSoaPart, IsTransfer}
use Rattle.zone_in_memory.specs.TransferLaws.{HasSoa}
use Rattle.zone_in_memory.proofs.AnswerSections.{stays_alone}

refuted : (b : Bool) → (b ≡ true → ⊥) → b ≡ false
refuted true h = absurd (h refl)
refuted false h = refl

-- ---- the entries of a zone

all_in : {A : Type 0} (P : A → Type 0) (x : A) (xs : List A) → AllByRecursion P xs → In x xs → P x
all_in P x [] a i = absurd i
all_in P x (y ∷ xs) a (inl e) = subst P e a.0
all_in P x (y ∷ xs) a (inr i) = all_in P x xs a.1 i

-- a key that comes after another isn't that one
below : (j k : RrKey) → key_cmp j k ≡ Less → j ≡ k → ⊥
below j k h e =
    let same : key_cmp j k ≡ Equal = ap (λ q. key_cmp q k) e ∙ tied_itself key_cmp_total k in
    cc

key_above : (f e : RrKey × RRset) (m : Sets) → IsStrictlySortedBy key_cmp (keys_of (f ∷ m)) → In e m → key_cmp f.0 e.0 ≡ Less
key_above f e m s i = all_in (λ q. key_cmp f.0 q ≡ Less) e.0 (keys_of m) (sorted_head key_cmp f.0 (keys_of m) s) (In-map (λ (d : RrKey × RRset). d.0) e m i)

-- an entry is found under its key
found_entry : (m : Sets) (e : RrKey × RRset) → IsStrictlySortedBy key_cmp (keys_of m) → In e m → lookup (key_eq e.0) m ≡ Some e.1
found_entry [] e s i = absurd i
found_entry (f ∷ m) e s (inl same) =
    ap (λ b. cond b (Some f.1) (lookup (key_eq e.0) m)) (ap (key_eq e.0) (ap (λ (d : RrKey × RRset). d.0) same) ∙ key_itself e.0) ∙ ap (λ (d : RrKey × RRset). Some d.1) same
found_entry (f ∷ m) e s (inr i) =
    let other : key_eq e.0 f.0 ≡ false = refuted (key_eq e.0 f.0) (λ h. below f.0 e.0 (key_above f e m s i) (sym (key_same e.0 f.0 h))) in
    ap (λ b. cond b (Some f.1) (lookup (key_eq e.0) m)) other ∙ found_entry m e (sorted_tail key_cmp f.0 (keys_of m) s) i

-- what is found is an entry
entry_of : (m : Sets) (n : Name) (t : ℕ) (s : RRset) → set_at m n t ≡ Some s → In (key n t, s) m
entry_of [] n t s e = absurd cc
entry_of ((k, v) ∷ m) n t s e = by (key_eq (key n t) k) refl e (entry_of m n t s)
  where
    by : (b : Bool) → key_eq (key n t) k ≡ b → cond b (Some v) (set_at m n t) ≡ Some s → (set_at m n t ≡ Some s → In (key n t, s) m) → In (key n t, s) ((k, v) ∷ m)
    by true g h more = let same : v ≡ s = cc in inl (λ i. (sym (key_same (key n t) k g) i, same i))
    by false g h more = inr (more h)

-- ---- each record

module _ (m : Sets) (options : LookupOptions) (r : Record) where
  pub each_stored : IsZone m → Contains (axfr_records options.dnssec_ok (values_of m)) r
      → (n : Name) × (u : ℕ) × (s : RRset) × (set_at m n u ≡ Some s) × Contains (set_records options s) r × (type_of r.rdata ≢ SOA)
  each_stored zone h =
      let kept = In-from_filter (λ (q : Record). not (type_of q.rdata == SOA)) r (sets_records options (values_of m)) (Contains-In r (axfr_records options.dnssec_ok (values_of m)) h) in
      let set = In-from_flat_map (set_records options) r (values_of m) kept.0 in
      let entry = In-from_map (λ (d : RrKey × RRset). d.1) set.0 m set.1 in (
        entry.0.0.name,
        entry.0.0.record_type.0,
        set.0,
        found_entry m entry.0 zone.ordered entry.1 ∙ ap Some entry.2,
        In-Contains r (set_records options set.0) set.2,
        λ e. true≢false (sym (eq-eqb (type_of r.rdata) SOA e) ∙ not_true (type_of r.rdata == SOA) kept.1),
      )

  pub stored_each : (n : Name) (u : ℕ) (s : RRset) → set_at m n u ≡ Some s → Contains (set_records options s) r → type_of r.rdata ≢ SOA → Contains (axfr_records options.dnssec_ok (values_of m)) r
  stored_each n u s e h other =
      let set = In-map (λ (d : RrKey × RRset). d.1) (key n u, s) m (entry_of m n u s e) in
      let given = In-flat_map (set_records options) s r (values_of m) set (Contains-In r (set_records options s) h) in
      In-Contains r (axfr_records options.dnssec_ok (values_of m)) (In-filter (λ (q : Record). not (type_of q.rdata == SOA)) r (sets_records options (values_of m)) given (unless (type_of r.rdata == SOA) refl))
    where
      unless : (b : Bool) → (type_of r.rdata == SOA) ≡ b → not b ≡ true
      unless true g = absurd (other (eqb-true (type_of r.rdata) SOA g))
      unless false g = refl

-- ---- none twice

data_types : (a b : RData) → same_data a b ≡ true → type_of a ≡ type_of b
data_types (V.A a) (V.A b) h = refl
data_types (V.AAAA a) (V.AAAA b) h = refl
data_types (V.NS a) (V.NS b) h = refl
data_types (V.CNAME a) (V.CNAME b) h = refl
data_types (V.ANAME a) (V.ANAME b) h = refl
data_types (V.SOA a) (V.SOA b) h = refl
data_types (V.MX a) (V.MX b) h = refl
data_types (V.SRV a) (V.SRV b) h = refl
data_types (V.DNSKEY a) (V.DNSKEY b) h = refl
data_types (V.NSEC a) (V.NSEC b) h = refl
data_types (V.NSEC3 a) (V.NSEC3 b) h = refl
data_types (V.NSEC3PARAM a) (V.NSEC3PARAM b) h = refl
data_types (V.RRSIG a) (V.RRSIG b) h = refl
data_types (V.Other a) (V.Other b) h = eqb-true a.record_type.0 b.record_type.0 (and_left (a.record_type.0 == b.record_type.0) _ h)
data_types _ _ h = absurd cc

module _ {A : Type 0} (same : A → A → Bool) where
  all_append : (P : A → Type 0) (xs ys : List A) → AllByRecursion P xs → ((y : A) → In y ys → P y) → AllByRecursion P (xs ++ ys)
  all_append P [] [] a h = tt
  all_append P [] (y ∷ ys) a h = (h y (inl refl), all_append P [] ys tt (λ z i. h z (inr i)))
  all_append P (x ∷ xs) ys a h = (a.0, all_append P xs ys a.1 h)

  distinct_append : (xs ys : List A) → IsDistinct same xs → IsDistinct same ys → ((x y : A) → In x xs → In y ys → same x y ≡ false) → IsDistinct same (xs ++ ys)
  unfolding IsDistinct
  distinct_append [] ys d f h = f
  distinct_append (x ∷ xs) ys d f h = (all_append (λ y. same x y ≡ false) xs ys d.0 (λ y i. h x y (inl refl) i), distinct_append xs ys d.1 f (λ z y i j. h z y (inr i) j))

  all_filter : (P : A → Type 0) (p : A → Bool) (xs : List A) → AllByRecursion P xs → AllByRecursion P (filter p xs)
  all_filter P p [] a = tt
  all_filter P p (x ∷ xs) a = by (p x) (all_filter P p xs a.1)
    where
      by : (b : Bool) → AllByRecursion P (filter p xs) → AllByRecursion P (cond b (x ∷ filter p xs) (filter p xs))
      by true i = (a.0, i)
      by false i = i

  distinct_filter : (p : A → Bool) (xs : List A) → IsDistinct same xs → IsDistinct same (filter p xs)
  unfolding IsDistinct
  distinct_filter p [] d = tt
  distinct_filter p (x ∷ xs) d = by (p x) (distinct_filter p xs d.1)
    where
      by : (b : Bool) → IsDistinct same (filter p xs) → IsDistinct same (cond b (x ∷ filter p xs) (filter p xs))
      by true i = (all_filter (λ y. same x y ≡ false) p xs d.0, i)
      by false i = i

-- a set without its signatures gives its records
plain_records : (s : RRset) → set_records plain s ≡ s.records
plain_records s = by s.records
  where
    by : (rs : List Record) → lent_lists rs s.signatures false ≡ rs
    by [] = refl
    by (r ∷ rs) = refl

in_all : {A : Type 0} (P : A → Type 0) (x : A) (xs : List A) → ((i : ℕ) (d : A) → i < length xs → P (get_or xs i d)) → In x xs → P x
in_all P x [] a i = absurd i
in_all P x (y ∷ xs) a (inl e) = subst P e (a 0 y (omega arith))
in_all P x (y ∷ xs) a (inr i) = in_all P x xs (λ k d h. a (suc k) d (omega arith)) i

same_lower : (a b : Name) → same_name a b ≡ true → lower a ≡ lower b
same_lower a b h = name_order.exact (lower a) (lower b) (equal_of (name_cmp (lower a) (lower b)) h)

-- a record of a set has the name and the type of the key
named : (k : RrKey) (s : RRset) (r : Record) → IsStoredAt k.name k.record_type.0 s → In r s.records → lower r.name ≡ k.name
named k s r there i = same_lower r.name s.owner (in_all (λ (q : Record). same_name q.name s.owner ≡ true) r s.records there.set.owners i) ∙ there.owner

typed_so : (k : RrKey) (s : RRset) (r : Record) → IsStoredAt k.name k.record_type.0 s → In r s.records → type_of r.rdata ≡ k.record_type.0
typed_so k s r there i = in_all (λ (q : Record). type_of q.rdata ≡ s.record_type) r s.records there.set.types i ∙ there.record_type

-- equal records of two sets tell that these are under one key
keys_tell : (e f : RrKey × RRset) (r q : Record) → IsStoredAt e.0.name e.0.record_type.0 e.1 → IsStoredAt f.0.name f.0.record_type.0 f.1 → In r e.1.records → In q f.1.records → same_record r q ≡ true → e.0 ≡ f.0
keys_tell e f r q there here i j h =
    let names : lower r.name ≡ lower q.name = same_lower r.name q.name (and_left (same_name r.name q.name) ((r.dns_class.0 == q.dns_class.0) && same_data r.rdata q.rdata) h) in
    let contents : same_data r.rdata q.rdata ≡ true = and_right (r.dns_class.0 == q.dns_class.0) (same_data r.rdata q.rdata) (and_right (same_name r.name q.name) ((r.dns_class.0 == q.dns_class.0) && same_data r.rdata q.rdata) h) in
    let same_names : e.0.name ≡ f.0.name = sym (named e.0 e.1 r there i) ∙ names ∙ named f.0 f.1 q here j in
    let same_types : e.0.record_type.0 ≡ f.0.record_type.0 = sym (typed_so e.0 e.1 r there i) ∙ data_types r.rdata q.rdata contents ∙ typed_so f.0 f.1 q here j in
    λ k. key (same_names k) (same_types k)

set_distinct : (s : RRset) → IsSet s.owner s.record_type s.records → IsDistinct same_record s.records
set_distinct s set =
    IsDistinct-from_apart same_record s.records (λ i j d h k. let a = get_or s.records i d in let b = get_or s.records j d in
    last_false (same_name a.name b.name) (a.dns_class.0 == b.dns_class.0) (same_data a.rdata b.rdata) (set.differ i j d h k))
  where
    last_false : (x y z : Bool) → z ≡ false → x && (y && z) ≡ false
    last_false true true z e = e
    last_false true false z e = refl
    last_false false y z e = refl

-- the records of a zone's sets differ from one another
all_distinct : (m : Sets) → IsStrictlySortedBy key_cmp (keys_of m) → ((e : RrKey × RRset) → In e m → IsStoredAt e.0.name e.0.record_type.0 e.1) → IsDistinct same_record (sets_records plain (values_of m))
unfolding IsDistinct
all_distinct [] s there = tt
all_distinct (e ∷ m) s there =
    distinct_append same_record (set_records plain e.1) (sets_records plain (values_of m))
    (subst (IsDistinct same_record) (sym (plain_records e.1)) (set_distinct e.1 (there e (inl refl)).set))
    (all_distinct m (sorted_tail key_cmp e.0 (keys_of m) s) (λ d i. there d (inr i)))
    (λ r q i j. refuted (same_record r q) (λ h.
    let set = In-from_flat_map (set_records plain) q (values_of m) j in
    let entry = In-from_map (λ (d : RrKey × RRset). d.1) set.0 m set.1 in
    let held : In q entry.0.1.records = subst (In q) (plain_records entry.0.1) (subst (λ x. In q (set_records plain x)) (sym entry.2) set.2) in
    below e.0 entry.0.0 (key_above e entry.0 m s entry.1)
    (keys_tell e entry.0 r q (there e (inl refl)) (there entry.0 (inr entry.1)) (subst (In r) (plain_records e.1) i) held h)))

stored_at : (m : Sets) → IsZone m → (e : RrKey × RRset) → In e m → IsStoredAt e.0.name e.0.record_type.0 e.1
stored_at m zone e i = zone.stored e.0.name e.0.record_type.0 e.1 (found_entry m e zone.ordered i)

pub none_twice : (m : Sets) → IsZone m → IsDistinct same_record (axfr_records false (values_of m))
none_twice m zone = distinct_filter same_record (λ (q : Record). not (type_of q.rdata == SOA)) (sets_records plain (values_of m)) (all_distinct m zone.ordered (stored_at m zone))

-- ---- the SOA at both ends

module _ (m : Sets) (origin : Name) (s : RRset) (zone : IsZone m) (soa : HasSoa m origin s) where
  no_referral : referral m origin SOA ≡ None
  no_referral = by (nearest_delegation m origin SOA) refl
    where
      at : (a front : Name) → origin ≡ front ++ a → is_delegated_for m origin SOA a ≡ true → referral_at m (Some a) ≡ None
      at a [] e h = ap (λ b. cond b None (set_at m a NS)) (ap (λ n. owns m n SOA) (sym e) ∙ ap is_some soa.stored)
      at a (l ∷ front) e h = absurd (true≢false (sym (and_left (is_delegated m a) _ h) ∙ soa.on_top a (l, front, e)))

      by : (o : Option Name) → nearest_delegation m origin SOA ≡ o → referral_at m o ≡ None
      by None e = refl
      by (Some a) e = let w = found_above (is_delegated_for m origin SOA) origin a e in at a w.0.0 w.0.1 w.1

  exact_soa : exact m origin SOA ≡ Some s
  exact_soa =
      ap (λ (b : Bool). option_and_then (set_at m origin) (least nat_cmp (cond b (SOA ∷ cond (owns m origin CNAME) (CNAME ∷ []) []) (cond (owns m origin CNAME) (CNAME ∷ []) [])))) (ap is_some soa.stored)
      ∙ ap (λ (b : Bool). option_and_then (set_at m origin) (least nat_cmp (SOA ∷ cond b (CNAME ∷ []) []))) soa.no_alias
      ∙ soa.stored

  found_soa : (signed : Bool) → found m signed origin SOA ≡ Some s
  found_soa signed =
      ap (λ o. option_or (option_or o (exact m origin SOA)) (wildcard m signed origin SOA)) no_referral
      ∙ ap (λ o. option_or o (wildcard m signed origin SOA)) exact_soa

  typed : s.record_type ≡ SOA
  typed = (zone.stored origin SOA s soa.stored).record_type

  -- a part lists the SOA set
  pub part_records : (sign : LookupOptions → RRset → List Record) (options : LookupOptions) (part : LookupRecords) → IsSoaPart sign origin m options part → records_in part ≡ lent s options.dnssec_ok
  part_records sign options part (r, reply, has) =
      let a = subst (λ o. MatchOption o (r ≡ negative (negative_answer origin m origin)) (λ s. IsAnswer (sign options) m options.dnssec_ok origin SOA s r)) (found_soa options.dnssec_ok) reply in
      let followed : is_followed SOA s ≡ false = ap (λ t. (t == CNAME) && not (SOA == CNAME)) typed in
      let flattened : stands_for_addresses SOA s ≡ false = ap (λ t. (t == ANAME) && is_address SOA) typed in
      let shown : answer_section (sign options) m options.dnssec_ok origin SOA s a.more ≡ one_set s =
      ap (λ b. cond b (chained (chain m options.dnssec_ok origin s SOA)) (one_set (alone (sign options) SOA s (last_set a.more)))) followed
      ∙ ap one_set (stays_alone (sign options) SOA s a.more flattened) in
      ap records_in (subst (λ answers. KeepsAnswers options answers part) shown (subst (λ q. HasAnswers options q part) a.sections has))

  -- which is one record
  pub one_soa : (r : Record) × (s.records ≡ r ∷ [])
  one_soa = by s.records refl
    where
      there : IsStoredAt origin SOA s
      there = zone.stored origin SOA s soa.stored

      by : (rs : List Record) → s.records ≡ rs → (r : Record) × (s.records ≡ r ∷ [])
      by [] e = absurd (there.filled e)
      by (r ∷ []) e = (r, e)
      by (r ∷ q ∷ rs) e = absurd (let few = there.set.single (ap is_single typed) in omega (arith, few, ap length e))

  lent_soa : (r : Record) → s.records ≡ r ∷ [] → (signed : Bool) → lent s signed ≡ r ∷ cond signed s.signatures []
  lent_soa r e true = ap (λ rs. lent_lists rs s.signatures true) e
  lent_soa r e false = ap (λ rs. lent_lists rs s.signatures false) e

  pub begins_and_ends : (sign : LookupOptions → RRset → List Record) (options : LookupOptions) (t : ZoneTransfer) → IsTransfer sign origin m options t
      → (r : Record) × (s.records ≡ r ∷ []) × (transfer_records t ≡ r ∷ cond options.dnssec_ok s.signatures [] ++ t.records ++ r ∷ [])
  begins_and_ends sign options t is =
      let one = one_soa in
      let first : records_in t.start_soa ≡ one.0 ∷ cond options.dnssec_ok s.signatures [] = part_records sign options t.start_soa is.start ∙ lent_soa one.0 one.1 options.dnssec_ok in
      let last : records_in t.end_soa ≡ one.0 ∷ [] = part_records sign plain t.end_soa is.last ∙ lent_soa one.0 one.1 false in
      (one.0, one.1, ap (λ xs. xs ++ t.records ++ records_in t.end_soa) first ∙ ap (λ xs. (one.0 ∷ cond options.dnssec_ok s.signatures []) ++ t.records ++ xs) last)
