-- The zone of records has these records, and no others
use Rattle.std.proofs.Common.{◌≡◌, ℕ, Bool, true, false, cond, not, ◌||◌, ◌&&◌, if◌then◌else◌, List, [], ◌∷◌, ◌++◌, refl, sym, ap, subst, ◌∙◌, true≢false, arith, ◌⊎◌, inl, inr}
use Rattle.std.specs.Prelude.{◌==◌, Option, Some, None, filter, fold, map, option_map, unwrap_or}
use Rattle.std.specs.List.{find, list_any, AllByRecursion}
use Rattle.std.specs.Option.{option_or}
use Rattle.std.proofs.lemmas.Bool.Decides.{nat_tests}
use Rattle.zone_proto.specs.declared.rdata.RData.{RData}
use Rattle.zone_proto.specs.declared.rdata.RData.TheVariants as V
use Rattle.zone_proto.specs.declared.record.Record.{Record}
use Rattle.zone_proto.specs.declared.rr_key.RrKey.{RrKey}
use Rattle.zone_proto.specs.Data.{same_data, type_of}
use Rattle.zone_proto.specs.DataEquality.{same_data_equiv, same_record_equiv}
use Rattle.zone_proto.specs.Keys.{key, key_eq}
use Rattle.zone_proto.specs.Names.{Name, is_at_or_above, lower}
use Rattle.zone_proto.specs.Records.{same_record}
use Rattle.zone_proto.specs.Sets.{RRset, empty_set, is_single, stores}
use Rattle.zone_proto.specs.Types.{DNAME, IN}
use Rattle.zone_proto.proofs.Members.{In, In-from_append, Contains-In, In-filter, In-from_any, In-from_filter, In-from_map, In-map, any_from_In, and_left, and_right, none_passes, not_true}
use Rattle.zone_proto.proofs.Ordering.KeyOrder.{key_itself, key_same}
use Rattle.zone_map.specs.Zones.{set_at, Sets}
use Rattle.zone_map.proofs.Upserting.{same_from_lower}
use Rattle.zone_denial.specs.Nsec3Sets.{with_taken}
use Rattle.zone_builder.specs.declared.fault.LoadFault.{LoadFault}
use Rattle.zone_builder.specs.declared.fault.LoadFault.TheVariants as fault
use Rattle.zone_builder.specs.declared.given.GivenRecord.{GivenRecord}
use Rattle.zone_builder.specs.Faults.{class_fault, count_fault, has_other_data, is_other_class, iterations_fault, beside_fault, owns_cname, place_fault, set_fault, stands_once, told_of}
use Rattle.zone_builder.specs.Records.{given_at, is_data_of, is_of_set, is_signature, is_signature_of, records_of, set_key, set_type, signing_at}
use Rattle.zone_builder.specs.Sets.{least_ttl, loaded_serial, signed_set_of, with_ttl}
use Rattle.transfer_reading.specs.Differences.{has_record}
use Rattle.transferred_zones.specs.Exact.{has_in, ZonesHaveExactly}
use Rattle.transferred_zones.specs.TransferredZones.{given, given_of, IsZoneOf}
use Rattle.transferred_zones.proofs.LeftOut.{none_found}
use Rattle.transferred_zones.proofs.SetsGrown.{at_in, folded_all, folded_has, folded_signed, from_in, news_all, news_has}

-- ---- options

some_none : {X : Type 0} (x : X) → Some x ≡ None → ⊥
some_none x e = cc

none_some : {X : Type 0} (x : X) → None ≡ Some x → ⊥
none_some x e = cc

first_none : {X : Type 0} (a b : Option X) → option_or a b ≡ None → a ≡ None
first_none None b e = refl
first_none (Some x) b e = absurd (some_none x e)

second_none : {X : Type 0} (a b : Option X) → option_or a b ≡ None → b ≡ None
second_none None b e = e
second_none (Some x) b e = absurd (some_none x e)

unmapped : {X Y : Type 0} (f : X → Y) (o : Option X) → option_map f o ≡ None → o ≡ None
unmapped f None e = refl
unmapped f (Some x) e = absurd (some_none (f x) e)

-- ---- which set a record is of

module _ (origin : Name) (k : RrKey) (g : GivenRecord) where
  plain_of_set : is_data_of origin k g ≡ true → is_of_set origin k g ≡ true
  unfolding is_data_of
  plain_of_set e = and_right (not (is_signature g.record.rdata)) (is_of_set origin k g) e

  plain : is_data_of origin k g ≡ true → is_signature g.record.rdata ≡ false
  unfolding is_data_of
  plain e = not_true (is_signature g.record.rdata) (and_left (not (is_signature g.record.rdata)) (is_of_set origin k g) e)

  signing_of_set : is_signature_of origin k g ≡ true → is_of_set origin k g ≡ true
  unfolding is_signature_of
  signing_of_set e = and_right (is_signature g.record.rdata) (is_of_set origin k g) e

  key_of : is_of_set origin k g ≡ true → set_key g.record ≡ k
  unfolding is_of_set
  key_of e = key_same (set_key g.record) k (and_right (is_at_or_above origin (lower g.record.name)) (key_eq (set_key g.record) k) e)

module _ (origin : Name) (g : GivenRecord) (inside : is_at_or_above origin (lower g.record.name) ≡ true) where
  of_own_set : is_of_set origin (set_key g.record) g ≡ true
  unfolding is_of_set
  of_own_set = ap (λ b. b && key_eq (set_key g.record) (set_key g.record)) inside ∙ key_itself (set_key g.record)

  data_of_own : is_signature g.record.rdata ≡ false → is_data_of origin (set_key g.record) g ≡ true
  unfolding is_data_of
  data_of_own e = ap (λ b. not b && is_of_set origin (set_key g.record) g) e ∙ of_own_set

  signature_of_own : is_signature g.record.rdata ≡ true → is_signature_of origin (set_key g.record) g ≡ true
  unfolding is_signature_of
  signature_of_own e = ap (λ b. b && is_of_set origin (set_key g.record) g) e ∙ of_own_set

-- the type of a set is that of its records
plain_type : (d : RData) → is_signature d ≡ false → set_type d ≡ type_of d
plain_type (V.RRSIG a) e = absurd (true≢false e)
plain_type d e = refl

-- ---- a record whose data one of some records has, which are of its owner and of class IN

abbrev IsAlike : Name → Record → Type 0
IsAlike n x = (lower x.name ≡ n) × ((x.dns_class.0 == IN) ≡ true)

both_in : (a b : ℕ) → (a == IN) ≡ true → (b == IN) ≡ true → (a == b) ≡ true
both_in a b h k = grind (arith, nat_tests)

module _ (r : Record) (class : (r.dns_class.0 == IN) ≡ true) where
  same_from : (x : Record) → IsAlike (lower r.name) x → same_data x.rdata r.rdata ≡ true → same_record x r ≡ true
  same_from x alike same =
      ap (λ b. b && ((x.dns_class.0 == r.dns_class.0) && same_data x.rdata r.rdata)) (same_from_lower x.name r.name alike.0)
      ∙ ap (λ b. b && same_data x.rdata r.rdata) (both_in x.dns_class.0 r.dns_class.0 alike.1 class) ∙ same

  has_from : (xs : List Record) → AllByRecursion (IsAlike (lower r.name)) xs → stores xs r.rdata ≡ true → has_record xs r ≡ true
  has_from xs alike h =
      let found = In-from_any (λ (x : Record). same_data x.rdata r.rdata) xs h in
      any_from_In (λ (x : Record). same_record x r) found.0 xs found.1 (same_from found.0 (at_in (IsAlike (lower r.name)) xs alike found.0 found.1) found.2)

-- ---- the set that records and signatures make

module _ (P : Record → Type 0) (serial : ℕ) where
  records_all : (gs signatures : List GivenRecord) → ((ttl : ℕ) → AllByRecursion P (map (with_ttl ttl) (records_of gs))) → (s : RRset)
      → signed_set_of serial gs signatures ≡ Some s → AllByRecursion P s.records
  records_all [] signatures own s e = absurd (none_some s e)
  records_all (g ∷ gs) signatures own s e =
      let ttl = least_ttl (g ∷ gs) in
      let all = map (with_ttl ttl) (records_of (g ∷ gs)) in
      subst (λ (x : RRset). AllByRecursion P x.records) (ap (λ o. unwrap_or o s) e)
      (folded_all P serial all (empty_set g.record.name (type_of g.record.rdata) serial) tt (own ttl))

  signatures_all : (gs signatures : List GivenRecord) → ((ttl : ℕ) → AllByRecursion P (map (with_ttl ttl) (records_of signatures))) → (s : RRset)
      → signed_set_of serial gs signatures ≡ Some s → AllByRecursion P s.signatures
  signatures_all [] signatures own s e = absurd (none_some s e)
  signatures_all (g ∷ gs) signatures own s e =
      let ttl = least_ttl (g ∷ gs) in
      let all = map (with_ttl ttl) (records_of (g ∷ gs)) in
      let first = empty_set g.record.name (type_of g.record.rdata) serial in
      subst (λ (x : RRset). AllByRecursion P x.signatures) (ap (λ o. unwrap_or o s) e)
      (news_all P (map (with_ttl ttl) (records_of signatures)) (fold (with_taken serial) first all).signatures (folded_signed P serial all first tt) (own ttl))

module _ (serial : ℕ) where
  signature_in : (gs signatures : List GivenRecord) (g : GivenRecord) → In g signatures → (s : RRset) → signed_set_of serial gs signatures ≡ Some s → stores s.signatures g.record.rdata ≡ true
  signature_in [] signatures g i s e = absurd (none_some s e)
  signature_in (h ∷ gs) signatures g i s e =
      let ttl = least_ttl (h ∷ gs) in
      let all = map (with_ttl ttl) (records_of (h ∷ gs)) in
      let first = empty_set h.record.name (type_of h.record.rdata) serial in
      let here : In (with_ttl ttl g.record) (map (with_ttl ttl) (records_of signatures)) =
      In-map (with_ttl ttl) g.record (records_of signatures) (In-map (λ (x : GivenRecord). x.record) g signatures i) in
      subst (λ (x : RRset). stores x.signatures g.record.rdata ≡ true) (ap (λ o. unwrap_or o s) e)
      (news_has (map (with_ttl ttl) (records_of signatures)) (fold (with_taken serial) first all).signatures (with_ttl ttl g.record) here)

  record_in : (gs signatures : List GivenRecord) (g : GivenRecord) → In g gs → ((x : GivenRecord) → In x gs → is_single (type_of x.record.rdata) ≡ false)
      → (s : RRset) → signed_set_of serial gs signatures ≡ Some s → stores s.records g.record.rdata ≡ true
  record_in [] signatures g i many s e = absurd i
  record_in (h ∷ gs) signatures g i many s e =
      let ttl = least_ttl (h ∷ gs) in
      let all = map (with_ttl ttl) (records_of (h ∷ gs)) in
      let first = empty_set h.record.name (type_of h.record.rdata) serial in
      let here : In (with_ttl ttl g.record) all =
      In-map (with_ttl ttl) g.record (records_of (h ∷ gs)) (In-map (λ (x : GivenRecord). x.record) g (h ∷ gs) i) in
      subst (λ (x : RRset). stores x.records g.record.rdata ≡ true) (ap (λ o. unwrap_or o s) e)
      (folded_has serial all first (with_ttl ttl g.record)
      (from_in (λ (r : Record). is_single (type_of r.rdata) ≡ false) all
      (λ x j.
      let a = In-from_map (with_ttl ttl) x (records_of (h ∷ gs)) j in
      let b = In-from_map (λ (y : GivenRecord). y.record) a.0 (h ∷ gs) a.1 in
      subst (λ (r : Record). is_single (type_of r.rdata) ≡ false) (ap (with_ttl ttl) b.2 ∙ a.2) (many b.0 b.1)))
      here)

  -- there is a set where there is a record
  some_made : (gs signatures : List GivenRecord) (g : GivenRecord) → In g gs → signed_set_of serial gs signatures ≡ None → ⊥
  some_made [] signatures g i e = absurd i
  some_made (h ∷ gs) signatures g i e = some_none _ e

-- where a type has one record alone, all have the data of the first one
second : GivenRecord → LoadFault
second y = fault.Second (told_of y)

module _ (origin n : Name) (t : ℕ) (owns : Bool) (g : GivenRecord) (gs : List GivenRecord) (single : is_single t ≡ true) (h : set_fault origin n t owns (g ∷ gs) ≡ None) where
  counted : count_fault t g gs ≡ None
  counted =
      let rest : Option LoadFault = option_or (iterations_fault (g ∷ gs)) (beside_fault t owns g) in
      first_none (count_fault t g gs) rest (second_none (place_fault origin n t g) (option_or (count_fault t g gs) rest) h)

  standing : stands_once t ≡ true
  standing = ap (λ b. b || (t == DNAME)) single

  no_other_data : list_any (has_other_data g) gs ≡ false
  unfolding second
  no_other_data =
      none_found (has_other_data g) gs
      (unmapped second (find (has_other_data g) gs) (sym (ap (λ b. cond b (option_map second (find (has_other_data g) gs)) None) standing) ∙ counted))

  once : (x : GivenRecord) → In x (g ∷ gs) → same_data x.record.rdata g.record.rdata ≡ true
  once x (inl e) = ap (λ (y : GivenRecord). same_data y.record.rdata g.record.rdata) (sym e) ∙ same_data_equiv.refl g.record.rdata
  once x (inr i) = by (same_data x.record.rdata g.record.rdata) refl
    where
      by : (b : Bool) → same_data x.record.rdata g.record.rdata ≡ b → b ≡ true
      by true e = refl
      by false e = absurd (none_passes (has_other_data g) x gs no_other_data i (ap not e))

-- a record has the data of the first one
abbrev IsFirst : GivenRecord → Record → Type 0
IsFirst g y = same_data y.rdata g.record.rdata ≡ true

all_first : (g : GivenRecord) (gs : List GivenRecord) → ((y : GivenRecord) → In y gs → same_data y.record.rdata g.record.rdata ≡ true) → (ttl : ℕ)
    → AllByRecursion (IsFirst g) (map (with_ttl ttl) (records_of gs))
all_first g gs first ttl =
    from_in (IsFirst g) (map (with_ttl ttl) (records_of gs))
    (λ y i.
    let a = In-from_map (with_ttl ttl) y (records_of gs) i in
    let b = In-from_map (λ (z : GivenRecord). z.record) a.0 gs a.1 in
    subst (IsFirst g) (ap (with_ttl ttl) b.2 ∙ a.2) (first b.0 b.1))

-- ---- the zone of records

module _ (origin : Name) (rs : List Record) (m : Sets) (zone : IsZoneOf origin rs m) where
  class_of : (r : Record) → In r rs → (r.dns_class.0 == IN) ≡ true
  class_of r i = by (r.dns_class.0 == IN) refl
    where
      no_other : list_any is_other_class (given rs) ≡ false
      no_other = none_found is_other_class (given rs) (unmapped _ (find is_other_class (given rs)) (first_none (class_fault (given rs)) _ zone.faultless.records))

      by : (b : Bool) → (r.dns_class.0 == IN) ≡ b → b ≡ true
      by true e = refl
      by false e = absurd (none_passes is_other_class (given_of r) (given rs) no_other (In-map given_of r rs i) (ap not e))

  -- a record is one of those given, of an owner and of class IN
  abbrev IsFrom : Name → Record → Type 0
  IsFrom n x = (has_record rs x ≡ true) × IsAlike n x

  module _ (n : Name) (t : ℕ) (p : GivenRecord → Bool) (of_set : (g : GivenRecord) → p g ≡ true → is_of_set origin (key n t) g ≡ true) where
    one_from : (ttl : ℕ) (r : Record) → In r rs → p (given_of r) ≡ true → IsFrom n (with_ttl ttl r)
    one_from ttl r i h = (
      any_from_In (λ (x : Record). same_record x (with_ttl ttl r)) r rs i (same_record_equiv.refl r),
      (ap (λ (k : RrKey). k.name) (key_of origin (key n t) (given_of r) (of_set (given_of r) h)), class_of r i),
    )

    all_from : (ttl : ℕ) → AllByRecursion (IsFrom n) (map (with_ttl ttl) (records_of (filter p (given rs))))
    all_from ttl =
        from_in (IsFrom n) (map (with_ttl ttl) (records_of (filter p (given rs))))
        (λ x i.
        let a = In-from_map (with_ttl ttl) x (records_of (filter p (given rs))) i in
        let b = In-from_map (λ (y : GivenRecord). y.record) a.0 (filter p (given rs)) a.1 in
        let c = In-from_filter p b.0 (given rs) b.1 in
        let d = In-from_map given_of b.0 rs c.0 in
        subst (IsFrom n) (ap (λ (y : GivenRecord). with_ttl ttl y.record) d.2 ∙ ap (with_ttl ttl) b.2 ∙ a.2)
        (one_from ttl d.0 d.1 (ap p d.2 ∙ c.1)))

  module _ (n : Name) (t : ℕ) (s : RRset) (there : set_at m n t ≡ Some s) where
    made : signed_set_of (loaded_serial origin (given rs)) (given_at origin (given rs) n t) (signing_at origin (given rs) n t) ≡ Some s
    made = sym (zone.sets n t) ∙ there

    records_from : AllByRecursion (IsFrom n) s.records
    records_from =
        records_all (IsFrom n) (loaded_serial origin (given rs)) (given_at origin (given rs) n t) (signing_at origin (given rs) n t)
        (all_from n t (is_data_of origin (key n t)) (plain_of_set origin (key n t))) s made

    signatures_from : AllByRecursion (IsFrom n) s.signatures
    signatures_from =
        signatures_all (IsFrom n) (loaded_serial origin (given rs)) (given_at origin (given rs) n t) (signing_at origin (given rs) n t)
        (all_from n t (is_signature_of origin (key n t)) (signing_of_set origin (key n t))) s made

    pub only_those : (x : Record) → In x (s.records ++ s.signatures) → has_record rs x ≡ true
    only_those x i = by (In-from_append x s.records s.signatures i)
      where
        by : In x s.records ⊎ In x s.signatures → has_record rs x ≡ true
        by (inl j) = (at_in (IsFrom n) s.records records_from x j).0
        by (inr j) = (at_in (IsFrom n) s.signatures signatures_from x j).0

    alike : (xs : List Record) → AllByRecursion (IsFrom n) xs → AllByRecursion (IsAlike n) xs
    alike xs h = from_in (IsAlike n) xs (λ x i. (at_in (IsFrom n) xs h x i).1)

  module _ (r : Record) (i : In r rs) where
    abbrev own_name : Name
    own_name = lower r.name

    abbrev own_type : ℕ
    own_type = set_type r.rdata

    abbrev own_records : List GivenRecord
    own_records = given_at origin (given rs) own_name own_type

    abbrev own_signatures : List GivenRecord
    own_signatures = signing_at origin (given rs) own_name own_type

    inside : is_at_or_above origin (lower r.name) ≡ true
    inside = at_in (λ (x : Record). is_at_or_above origin (lower x.name) ≡ true) rs zone.whole.inside r i

    signing_here : is_signature r.rdata ≡ true → In (given_of r) own_signatures
    signing_here e = In-filter (is_signature_of origin (key own_name own_type)) (given_of r) (given rs) (In-map given_of r rs i) (signature_of_own origin (given_of r) inside e)

    data_here : is_signature r.rdata ≡ false → In (given_of r) own_records
    data_here e = In-filter (is_data_of origin (key own_name own_type)) (given_of r) (given rs) (In-map given_of r rs i) (data_of_own origin (given_of r) inside e)

    -- the type of the records of the set
    type_here : (x : GivenRecord) → In x own_records → type_of x.record.rdata ≡ own_type
    type_here x j =
        let h = In-from_filter (is_data_of origin (key own_name own_type)) x (given rs) j in
        sym (plain_type x.record.rdata (plain origin (key own_name own_type) x h.1))
        ∙ ap (λ (k : RrKey). k.record_type.0) (key_of origin (key own_name own_type) x (plain_of_set origin (key own_name own_type) x h.1))

    module _ (s : RRset) (there : set_at m own_name own_type ≡ Some s) where
      one_data : (gs : List GivenRecord) → gs ≡ own_records → In (given_of r) gs → is_single own_type ≡ true → (xs : List Record) → xs ≡ s.records → stores xs r.rdata ≡ true
      one_data [] q j single xs e = absurd j
      one_data (g ∷ gs) q j single [] e = absurd ((zone.zone.stored own_name own_type s there).filled (sym e))
      one_data (g ∷ gs) q j single (x ∷ xs) e =
          let first : (y : GivenRecord) → In y (g ∷ gs) → same_data y.record.rdata g.record.rdata ≡ true =
          once origin own_name own_type (owns_cname origin (given rs) own_name) g gs single
          (ap (set_fault origin own_name own_type (owns_cname origin (given rs) own_name)) q ∙ zone.faultless.sets own_name own_type) in
          let all = at_in (IsFirst g) s.records
          (records_all (IsFirst g) (loaded_serial origin (given rs)) (g ∷ gs) own_signatures (λ ttl. all_first g (g ∷ gs) first ttl) s
          (ap (λ ys. signed_set_of (loaded_serial origin (given rs)) ys own_signatures) q ∙ made own_name own_type s there)) in
          ap (λ b. b || stores xs r.rdata)
          (same_data_equiv.congr x.rdata g.record.rdata r.rdata (all x (subst (In x) e (inl refl)))
          ∙ same_data_equiv.symm g.record.rdata r.rdata ∙ first (given_of r) j)

      data_in : is_signature r.rdata ≡ false → stores s.records r.rdata ≡ true
      data_in e = by (is_single own_type) refl
        where
          by : (b : Bool) → is_single own_type ≡ b → stores s.records r.rdata ≡ true
          by true single = one_data own_records refl (data_here e) single s.records refl
          by false many =
              record_in (loaded_serial origin (given rs)) own_records own_signatures (given_of r) (data_here e)
              (λ x j. ap is_single (type_here x j) ∙ many) s (made own_name own_type s there)

      pub has_there : has_record (if is_signature r.rdata then s.signatures else s.records) r ≡ true
      has_there = by (is_signature r.rdata) refl
        where
          by : (b : Bool) → is_signature r.rdata ≡ b → has_record (if b then s.signatures else s.records) r ≡ true
          by true e =
              has_from r (class_of r i) s.signatures (alike own_name own_type s there s.signatures (signatures_from own_name own_type s there))
              (signature_in (loaded_serial origin (given rs)) own_records own_signatures (given_of r) (signing_here e) s (made own_name own_type s there))
          by false e = has_from r (class_of r i) s.records (alike own_name own_type s there s.records (records_from own_name own_type s there)) (data_in e)

    -- there is a set
    not_none : set_at m own_name own_type ≡ None → ⊥
    not_none e = by (is_signature r.rdata) refl
      where
        no_set : signed_set_of (loaded_serial origin (given rs)) own_records own_signatures ≡ None
        no_set = sym (zone.sets own_name own_type) ∙ e

        none_here : (gs : List GivenRecord) → gs ≡ own_records → gs ≡ []
        none_here [] q = refl
        none_here (g ∷ gs) q = absurd (some_none _ (ap (λ xs. signed_set_of (loaded_serial origin (given rs)) xs own_signatures) q ∙ no_set))

        by : (b : Bool) → is_signature r.rdata ≡ b → ⊥
        by true h =
            let none : own_signatures ≡ [] = zone.whole.signed own_name own_type (none_here own_records refl) in
            subst (In (given_of r)) none (signing_here h)
        by false h = some_made (loaded_serial origin (given rs)) own_records own_signatures (given_of r) (data_here h) no_set

    has_it : has_in (set_at m own_name own_type) r ≡ true
    has_it = by (set_at m own_name own_type) refl
      where
        by : (o : Option RRset) → set_at m own_name own_type ≡ o → has_in o r ≡ true
        by None e = absurd (not_none e)
        by (Some s) e = has_there s e

pub zones_have_exactly : ZonesHaveExactly
zones_have_exactly origin rs m zone = record {
  has = λ r h. has_it origin rs m zone r (Contains-In r rs h);
  only = λ n t s x there h. only_those origin rs m zone n t s there x (Contains-In x (s.records ++ s.signatures) h);
}
