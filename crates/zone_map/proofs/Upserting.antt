-- The insertion of a record into the set under its key
use Rattle.std.proofs.Common.{arith, ◌≡◌, ◌≢◌, ◌==◌, ◌&&◌, not, ℕ, Bool, true, false, cond, List, [], ◌∷◌, ◌++◌, refl, sym, ap, ◌∙◌, subst, true≢false, Ordering, Less, Equal, Greater, Result, Ok, Err}
use Rattle.std.specs.Prelude.{if◌then◌else◌, nat_lt, Option, Some, None, IsSome, OnOk, OnErr, is_some, unwrap_or, option_map, option_and_then}
use Rattle.std.specs.BTreeMap.{insert_entry}
use Rattle.std.specs.List.Sorted.{IsStrictlySortedBy}
use Rattle.std.specs.Map.{keys_of, lookup, set_value}
use Rattle.std.specs.Ordering.{is_eq, match_ordering}
use Rattle.std.proofs.lemmas.Cmp.{tied_itself}
use Rattle.std.proofs.lemmas.Map.{lookup-none}
use Rattle.std.proofs.lemmas.Map.Entries.{none_below_head}
use Rattle.std.proofs.lemmas.Map.Keys.{sorted_tail}
use Rattle.zone_proto.specs.declared.error.ProtoError.{ProtoError}
use Rattle.zone_proto.specs.declared.record.Record.{Record}
use Rattle.zone_proto.specs.declared.rr_key.RrKey.{RrKey}
use Rattle.zone_proto.specs.Data.{type_of}
use Rattle.zone_proto.specs.Keys.{key, key_cmp, key_eq}
use Rattle.zone_proto.specs.Names.{Name, IsName, name_cmp, lower, same_name}
use Rattle.zone_proto.specs.Sets.{RRset, IsSet, inserted, inserted_by, soa_inserted, first_serial, stores, replaced, appended, empty_set}
use Rattle.zone_proto.specs.declared.rdata.RData.{RData}
use Rattle.zone_proto.specs.declared.rdata.RData.TheVariants as V
use Rattle.zone_proto.proofs.Ordering.KeyLaws.{key_cmp_total}
use Rattle.zone_proto.proofs.SetLaws.{IsSet-inserted}
use Rattle.zone_proto.proofs.Names.Tree.{name_order}
use Rattle.zone_proto.specs.Results.{IsInsertion}
use Rattle.zone_frozen.specs.Sets.{inserted_under}
use Rattle.zone_map.specs.Zones.{Sets, set_at, put, IsStoredAt, IsZone}
use Rattle.zone_map.specs.Upserts.{set_for, with_record, clashes, upserted}
use Rattle.zone_map.proofs.Stored.{IsZone-put}

-- names that are one in lower case are the same, the case of letters aside
pub same_from_lower : (a b : Name) → lower a ≡ lower b → same_name a b ≡ true
same_from_lower a b e = ap is_eq (ap (name_cmp (lower a)) (sym e) ∙ tied_itself name_order.total (lower a))

-- in a map in order, to set the value of a stored key is to put it
pub set_is_put : (m : Sets) (k : RrKey) (v : RRset) → IsStrictlySortedBy key_cmp (keys_of m) → IsSome (lookup (key_eq k) m) → set_value (key_eq k) m v ≡ insert_entry key_cmp m k v
set_is_put [] k v s h = absurd (true≢false (sym h))
set_is_put (e ∷ m) k v s h = by (key_cmp k e.0) refl h (λ g. set_is_put m k v (sorted_tail key_cmp e.0 (keys_of m) s) g)
  where
    by : (o : Ordering) → key_cmp k e.0 ≡ o → is_some (cond (is_eq o) (Some e.1) (lookup (key_eq k) m)) ≡ true
        → (IsSome (lookup (key_eq k) m) → set_value (key_eq k) m v ≡ insert_entry key_cmp m k v)
        → cond (is_eq o) ((e.0, v) ∷ m) (e ∷ set_value (key_eq k) m v) ≡ match_ordering o ((k, v) ∷ e ∷ m) ((e.0, v) ∷ m) (e ∷ insert_entry key_cmp m k v)
    by Less g i ih =
        let absent : lookup (key_eq k) (e ∷ m) ≡ None = lookup-none (key_eq k) (e ∷ m) (none_below_head key_cmp_total k e m s g) in
        absurd (true≢false (sym h ∙ ap is_some absent))
    by Equal g i ih = refl
    by Greater g i ih = ap (λ es. e ∷ es) (ih i)

is_some-map : {A B : Type 0} (f : A → B) (o : Option A) → is_some (option_map f o) ≡ is_some o
is_some-map f None = refl
is_some-map f (Some x) = refl

-- ---- what a set holds that took a record

filled : (rs : List Record) (r : Record) → rs ++ r ∷ [] ≢ []
filled [] r e = cc
filled (x ∷ rs) r e = cc

module _ (s : RRset) (r : Record) (serial : ℕ) (w : RRset) where
  of_replaced : Some (replaced s r serial) ≡ Some w → (w.owner ≡ s.owner) × (w.record_type ≡ s.record_type) × (w.records ≢ [])
  of_replaced e =
      let same : replaced s r serial ≡ w = cc in
      subst (λ (x : RRset). (x.owner ≡ s.owner) × (x.record_type ≡ s.record_type) × (x.records ≢ [])) same (refl, refl, λ h. cc)

  of_appended : Some (appended s r serial) ≡ Some w → (w.owner ≡ s.owner) × (w.record_type ≡ s.record_type) × (w.records ≢ [])
  of_appended e =
      let same : appended s r serial ≡ w = cc in
      subst (λ (x : RRset). (x.owner ≡ s.owner) × (x.record_type ≡ s.record_type) × (x.records ≢ [])) same (refl, refl, filled s.records r)

  of_newer : (b : Bool) → (if b then Some (replaced s r serial) else None) ≡ Some w → (w.owner ≡ s.owner) × (w.record_type ≡ s.record_type) × (w.records ≢ [])
  of_newer true e = of_replaced e
  of_newer false e = absurd cc

  of_soa : (o : Option ℕ) (new : ℕ) → soa_inserted o new s r serial ≡ Some w → (w.owner ≡ s.owner) × (w.record_type ≡ s.record_type) × (w.records ≢ [])
  of_soa None new e = of_appended e
  of_soa (Some old) new e = of_newer (nat_lt old new) e

  of_other : (b : Bool) → (if b then None else Some (appended s r serial)) ≡ Some w → (w.owner ≡ s.owner) × (w.record_type ≡ s.record_type) × (w.records ≢ [])
  of_other true e = absurd cc
  of_other false e = of_appended e

  of_data : (d : RData) → inserted_by d s r serial ≡ Some w → (w.owner ≡ s.owner) × (w.record_type ≡ s.record_type) × (w.records ≢ [])
  of_data (V.SOA a) e = of_soa (first_serial s.records) a.serial e
  of_data (V.CNAME a) e = of_replaced e
  of_data (V.ANAME a) e = of_replaced e
  of_data d e = of_other (stores s.records d) e

-- a set that took a record may be under the record's name and type
pub inserted_stored : (s : RRset) (r : Record) (serial : ℕ) (w : RRset) → IsName (lower r.name) → lower s.owner ≡ lower r.name → s.record_type ≡ type_of r.rdata → IsSet s.owner s.record_type s.records
    → inserted s r serial ≡ Some w → IsStoredAt (lower r.name) (type_of r.rdata) w
inserted_stored s r serial w named o k i e =
    let parts = of_data s r serial w r.rdata e in
    record {
      named = named;
      owner = ap lower parts.0 ∙ o;
      record_type = parts.1 ∙ k;
      filled = parts.2;
      set = IsSet-inserted s r serial w (same_from_lower r.name s.owner (sym o)) (sym k) i e;
    }

pub IsSet-empty : (owner : Name) (t : ℕ) → IsSet owner t []
IsSet-empty owner t =
    record {
      owners = λ k d h. absurd (omega arith);
      types = λ k d h. absurd (omega arith);
      differ = λ i j d h k. absurd (omega arith);
      single = λ _. omega arith;
    }

-- the set that takes a record may be there, records aside
takes_there : (m : Sets) (r : Record) (serial : ℕ) → IsZone m
    → (lower (set_for m r serial).owner ≡ lower r.name) × ((set_for m r serial).record_type ≡ type_of r.rdata) × IsSet (set_for m r serial).owner (set_for m r serial).record_type (set_for m r serial).records
takes_there m r serial zone = by (set_at m (lower r.name) (type_of r.rdata)) refl
  where
    by : (o : Option RRset) → set_at m (lower r.name) (type_of r.rdata) ≡ o → (lower (unwrap_or o (empty_set r.name (type_of r.rdata) serial)).owner ≡ lower r.name)
        × ((unwrap_or o (empty_set r.name (type_of r.rdata) serial)).record_type ≡ type_of r.rdata)
        × IsSet (unwrap_or o (empty_set r.name (type_of r.rdata) serial)).owner (unwrap_or o (empty_set r.name (type_of r.rdata) serial)).record_type (unwrap_or o (empty_set r.name (type_of r.rdata) serial)).records
    by None e = (refl, refl, IsSet-empty r.name (type_of r.rdata))
    by (Some s) e =
        let there = zone.stored (lower r.name) (type_of r.rdata) s e in
        (there.owner, there.record_type, there.set)

-- ---- an insertion leaves the sets of a zone

pub IsZone-with_record : (m : Sets) (r : Record) (serial : ℕ) (n : Sets) → IsZone m → IsName (lower r.name) → with_record m r serial ≡ Some n → IsZone n
IsZone-with_record m r serial n zone named = by (inserted (set_for m r serial) r serial) refl
  where
    by : (o : Option RRset) → inserted (set_for m r serial) r serial ≡ o → option_map (put m (lower r.name) (type_of r.rdata)) o ≡ Some n → IsZone n
    by None e h = absurd cc
    by (Some w) e h =
        let there = takes_there m r serial zone in
        let same : put m (lower r.name) (type_of r.rdata) w ≡ n = cc in
        subst IsZone same (IsZone-put m (key (lower r.name) (type_of r.rdata)) w zone (inserted_stored (set_for m r serial) r serial w named there.0 there.1 there.2 e))

pub IsZone-upserted : (m : Sets) (class : ℕ) (r : Record) (serial : ℕ) (n : Sets) → IsZone m → IsName (lower r.name) → upserted m class r serial ≡ Some n → IsZone n
IsZone-upserted m class r serial n zone named = by ((r.dns_class.0 == class) && not (clashes m (lower r.name) (type_of r.rdata)))
  where
    by : (b : Bool) → cond b (with_record m r serial) None ≡ Some n → IsZone n
    by true h = IsZone-with_record m r serial n zone named h
    by false h = absurd cc

-- an insertion gives these, or the sets as they were
pub IsZone-or_same : (m : Sets) (o : Option Sets) → IsZone m → ((n : Sets) → o ≡ Some n → IsZone n) → IsZone (unwrap_or o m)
IsZone-or_same m None zone taken = zone
IsZone-or_same m (Some n) zone taken = taken n refl

pub IsZone-or_upserted : (m : Sets) (class : ℕ) (r : Record) (serial : ℕ) → IsZone m → IsName (lower r.name) → IsZone (unwrap_or (upserted m class r serial) m)
IsZone-or_upserted m class r serial zone named = IsZone-or_same m (upserted m class r serial) zone (λ n e. IsZone-upserted m class r serial n zone named e)

-- what holds sets, after a call that may be refused and then leaves it as it was
pub IsZone-after : {A E V : Type 0} (sets : V → Sets) (old new made : V) (res : Result A E) → IsZone (sets old) → IsZone (sets made) → OnOk res (new ≡ made) → OnErr res (new ≡ old) → IsZone (sets new)
IsZone-after sets old new made (Ok x) before after h g = subst (λ v. IsZone (sets v)) (sym h) after
IsZone-after sets old new made (Err e) before after h g = subst (λ v. IsZone (sets v)) (sym g) before

-- ---- into a set that is stored

module _ (m : Sets) (r : Record) (serial : ℕ) (s : RRset) (found : set_at m (lower r.name) (type_of r.rdata) ≡ Some s) where
  takes : set_for m r serial ≡ s
  takes = ap (λ o. unwrap_or o (empty_set r.name (type_of r.rdata) serial)) found

  with_stored : with_record m r serial ≡ option_map (put m (lower r.name) (type_of r.rdata)) (inserted s r serial)
  with_stored = ap (λ x. option_map (put m (lower r.name) (type_of r.rdata)) (inserted x r serial)) takes

  -- what it makes of the sets is what an insertion into that set makes of them
  pub stored_made : IsStrictlySortedBy key_cmp (keys_of m) → inserted_under r serial (key (lower r.name) (type_of r.rdata)) m ≡ with_record m r serial
  stored_made sorted =
      ap (λ o. option_map (set_value (key_eq (key (lower r.name) (type_of r.rdata))) m) (option_and_then (λ set. inserted set r serial) o)) found
      ∙ by (inserted s r serial) ∙ sym with_stored
    where
      by : (o : Option RRset) → option_map (set_value (key_eq (key (lower r.name) (type_of r.rdata))) m) o ≡ option_map (put m (lower r.name) (type_of r.rdata)) o
      by None = refl
      by (Some v) = ap Some (set_is_put m (key (lower r.name) (type_of r.rdata)) v sorted (ap is_some found))

-- ---- into a new set

module _ (m : Sets) (r : Record) (serial : ℕ) (absent : set_at m (lower r.name) (type_of r.rdata) ≡ None) where
  with_new : with_record m r serial ≡ option_map (put m (lower r.name) (type_of r.rdata)) (inserted (empty_set r.name (type_of r.rdata) serial) r serial)
  with_new = ap (λ o. option_map (put m (lower r.name) (type_of r.rdata)) (inserted (unwrap_or o (empty_set r.name (type_of r.rdata) serial)) r serial)) absent

  pub new_answer : is_some (inserted (empty_set r.name (type_of r.rdata) serial) r serial) ≡ is_some (with_record m r serial)
  new_answer = sym (is_some-map (put m (lower r.name) (type_of r.rdata)) (inserted (empty_set r.name (type_of r.rdata) serial) r serial)) ∙ ap is_some (sym with_new)

  module _ (w : RRset) (taken : inserted (empty_set r.name (type_of r.rdata) serial) r serial ≡ Some w) where
    pub new_after : put m (lower r.name) (type_of r.rdata) w ≡ unwrap_or (with_record m r serial) m
    new_after = sym (ap (λ p. unwrap_or (option_map (put m (lower r.name) (type_of r.rdata)) p) m) taken) ∙ sym (ap (λ p. unwrap_or p m) with_new)

-- an insertion that took the record gave the set
pub taken_set : (o : Option RRset) (s w : RRset) (b : Bool) → b ≡ is_some o → b ≡ true → w ≡ unwrap_or o s → o ≡ Some w
taken_set None s w b e t h = absurd (true≢false (sym t ∙ e))
taken_set (Some v) s w b e t h = ap Some (sym h)

-- ---- a record whose type clashes with one that its name owns isn't taken

pub clash_is_not_taken : (m : Sets) (class : ℕ) (r : Record) (serial : ℕ) → clashes m (lower r.name) (type_of r.rdata) ≡ true → upserted m class r serial ≡ None
clash_is_not_taken m class r serial h =
    ap (λ (b : Bool). cond ((r.dns_class.0 == class) && not b) (with_record m r serial) None) h ∙ by (r.dns_class.0 == class)
  where
    by : (same : Bool) → cond (same && not true) (with_record m r serial) None ≡ None
    by true = refl
    by false = refl

-- to insert a record of the zone's class whose type doesn't clash is to insert it into its set
pub free_is_inserted : (m m' : Sets) (class : ℕ) (r : Record) (serial : ℕ) (res : Result Bool ProtoError) → (r.dns_class.0 == class) ≡ true → clashes m (lower r.name) (type_of r.rdata) ≡ false
    → IsInsertion m (with_record m r serial) res m' → IsInsertion m (upserted m class r serial) res m'
free_is_inserted m m' class r serial res same free =
    subst (λ made. IsInsertion m made res m') (sym (λ i. cond (same i && not (free i)) (with_record m r serial) None))
