use Rattle.std.proofs.Common.{◌≡◌, ◌≢◌, ℕ, ◌<◌, List, [], ◌∷◌, ◌++◌, length, map, get_or, take, set, refl, sym, ap, ◌∙◌, subst, Bool, true, false, ◌==◌, if◌then◌else◌, nat_lt, nat_le, lit<, arith, Result, Ok, Err}
use Rattle.std.specs.Prelude.{Option, Some, None}
use Rattle.std.specs.List.{All}
use Rattle.std.proofs.lemmas.Bool.Decides.{leb_tells}
use Rattle.std.proofs.lemmas.List.Folds.{list_any_at}
use Rattle.std.proofs.lemmas.List.Quantifiers.{all_pairs_push}
use Rattle.std.proofs.lemmas.List.{get_or-map, length-map}
use Rattle.std.proofs.lemmas.List.Elements.{All-push, All-cons, All-map}
use Rattle.zone_proto.specs.Types.{RRSIG, own_types, has_own_case}
use Rattle.zone_proto.specs.NameLaws.{caseless_eq_equiv}
use Rattle.zone_proto.specs.Names.{Name, same_name}
use Rattle.zone_proto.specs.Data.{same_data, type_of}
use Rattle.zone_proto.specs.Sets.{RRset, IsSet, AreSignatures, is_single, soa_serial, first_serial, stores, with_records, replaced, appended, inserted_by, inserted, soa_inserted, record_under}
use Rattle.zone_proto.specs.Insertion.{refused_by, is_refused, records_with}
use Rattle.zone_proto.specs.Results.{IsChange}
use Rattle.zone_proto.specs.declared.error.ProtoError.{ProtoError}
use Rattle.zone_proto.specs.declared.rdata.RData.{RData}
use Rattle.zone_proto.specs.declared.rdata.RData.TheVariants as V
use Rattle.zone_proto.specs.declared.record.Record.{Record}

not_true : (b : Bool) → (b ≡ true → ⊥) → b ≡ false
not_true true h = absurd (h refl)
not_true false h = refl

-- a type without a case of its own is none of those that have one
not_own : (t k : ℕ) → k < length own_types → has_own_case t ≡ false → (t == get_or own_types k 0) ≡ false
not_own t k lt h =
    not_true _ (λ e. let a : has_own_case t ≡ true = list_any_at (λ (u : ℕ). t == u) own_types k 0 lt e in cc)

not_six : (t : ℕ) → has_own_case t ≡ false → (t == 6) ≡ false
not_six t h = not_own t 3 (lit< tt) h

-- data of type 6 are an SOA
six_is_soa : (d : RData) → type_of d ≡ 6 → soa_serial d ≡ None → ⊥
six_is_soa (V.SOA a) h k = cc
six_is_soa (V.Other a) h k =
    let e : (6 == 6) ≡ false = subst (λ (t : ℕ). (t == 6) ≡ false) h (not_six a.record_type.0 a.other) in cc
six_is_soa _ h k = omega arith

-- records of type 6 that begin with no SOA are none
no_soa : (rs : List Record) → All (λ (r : Record). type_of r.rdata ≡ 6) rs → first_serial rs ≡ None → rs ≡ []
no_soa [] h k = refl
no_soa (r ∷ rs) h k = absurd (six_is_soa r.rdata (h 0 r (omega arith)) k)

-- where data are not stored, each stored record differs from them
stored_none : (rs : List Record) (d : RData) → stores rs d ≡ false → All (λ (x : Record). same_data x.rdata d ≡ false) rs
stored_none rs d h k e lt =
    not_true _ (λ t. let a : stores rs d ≡ true = list_any_at (λ (x : Record). same_data x.rdata d) rs k e lt t in cc)

-- one record is a set
pub IsSet-alone : (owner : List (List ℕ)) (t : ℕ) (r : Record) → same_name r.name owner ≡ true → type_of r.rdata ≡ t → IsSet owner t (r ∷ [])
IsSet-alone owner t r o k =
    record {
      owners = All-cons (λ (x : Record). same_name x.name owner ≡ true) r [] o (λ k d h. absurd (omega arith));
      types = All-cons (λ (x : Record). type_of x.rdata ≡ t) r [] k (λ k d h. absurd (omega arith));
      differ = λ i j d h k. absurd (omega arith);
      single = λ _. omega arith;
    }

-- a type without a case of its own is none of those that have at most one record
not_single : (t : ℕ) → has_own_case t ≡ false → is_single t ≡ false
not_single t h =
    rw (not_own t 3 (lit< tt) h, not_own t 2 (lit< tt) h, not_own t 12 (lit< tt) h) refl

-- data of a type that may have more records are refused where they are stored
refused_stored : (rs : List Record) (d : RData) → is_single (type_of d) ≡ false → is_refused rs d ≡ stores rs d
refused_stored rs (V.SOA a) h = cc
refused_stored rs (V.CNAME a) h = cc
refused_stored rs (V.ANAME a) h = cc
refused_stored rs (V.Other a) h = ap (λ (b : Bool). refused_by None (first_serial rs) b (stores rs (V.Other a))) h
refused_stored rs _ h = refl

-- a set with one more record last is a set, where more may stand and none equals it
pub IsSet-last : (owner : List (List ℕ)) (t : ℕ) (rs : List Record) (r : Record)
    → same_name r.name owner ≡ true
    → type_of r.rdata ≡ t
    → IsSet owner t rs
    → is_single (type_of r.rdata) ≡ false
    → is_refused rs r.rdata ≡ false
    → IsSet owner t (rs ++ r ∷ [])
IsSet-last owner t rs r o k i n p =
    record {
      owners = All-push (λ (x : Record). same_name x.name owner ≡ true) rs r i.owners o;
      types = All-push (λ (x : Record). type_of x.rdata ≡ t) rs r i.types k;
      differ =
          all_pairs_push (λ (a b : Record). same_data a.rdata b.rdata ≡ false) rs r i.differ
          (stored_none rs r.rdata (sym (refused_stored rs r.rdata n) ∙ p));
      single = λ h. let e : is_single (type_of r.rdata) ≡ true = ap is_single k ∙ h in cc;
    }

with_one : (single : Bool) (owner : List (List ℕ)) (t : ℕ) (rs : List Record) (r : Record)
    → is_single (type_of r.rdata) ≡ single
    → same_name r.name owner ≡ true
    → type_of r.rdata ≡ t
    → IsSet owner t rs
    → is_refused rs r.rdata ≡ false
    → IsSet owner t (if single then r ∷ [] else rs ++ r ∷ [])
with_one true owner t rs r e o k i p = IsSet-alone owner t r o k
with_one false owner t rs r e o k i p = IsSet-last owner t rs r o k i e p

-- a set with one more record is a set, where the record isn't refused
pub IsSet-with : (owner : List (List ℕ)) (t : ℕ) (rs : List Record) (r : Record)
    → same_name r.name owner ≡ true
    → type_of r.rdata ≡ t
    → IsSet owner t rs
    → is_refused rs r.rdata ≡ false
    → IsSet owner t (records_with rs r)
IsSet-with owner t rs r o k i p = with_one (is_single (type_of r.rdata)) owner t rs r refl o k i p

-- where one number isn't less than another, this is at most that
not_less : {X : Type 0} (old new : ℕ) (x y : X) → (if nat_lt old new then x else y) ≡ (if nat_le new old then y else x)
not_less old new x y = grind (arith, leb_tells)

-- an SOA's insertion is made as the program makes it
soa_with : (s : RRset) (old : Option ℕ) (new : ℕ) (stored : Bool) (r : Record) (serial : ℕ)
    → (old ≡ None → s.records ≡ [])
    → soa_inserted old new s r serial
    ≡ (if refused_by (Some new) old true stored then None else Some (with_records s (r ∷ []) r serial))
soa_with s None new stored r serial h = ap (λ (rs : List Record). Some (with_records s (rs ++ r ∷ []) r serial)) (h refl)
soa_with s (Some old) new stored r serial h = not_less old new (Some (with_records s (r ∷ []) r serial)) None

-- an insertion is made as the program makes it
inserted_with : (s : RRset) (d : RData) (r : Record) (serial : ℕ)
    → All (λ (x : Record). type_of x.rdata ≡ type_of d) s.records
    → inserted_by d s r serial
    ≡ (if is_refused s.records d then None else Some (with_records s (if is_single (type_of d) then r ∷ [] else s.records ++ r ∷ []) r serial))
inserted_with s (V.SOA a) r serial h = soa_with s (first_serial s.records) a.serial (stores s.records (V.SOA a)) r serial (no_soa s.records h)
inserted_with s (V.CNAME a) r serial h = refl
inserted_with s (V.ANAME a) r serial h = refl
inserted_with s (V.Other a) r serial h = rw (not_single a.record_type.0 a.other) refl
inserted_with s _ r serial h = refl

pub inserted_is : (s : RRset) (r : Record) (serial : ℕ)
    → IsSet s.owner s.record_type s.records
    → type_of r.rdata ≡ s.record_type
    → inserted s r serial ≡ (if is_refused s.records r.rdata then None else Some (with_records s (records_with s.records r) r serial))
inserted_is s r serial i k = inserted_with s r.rdata r serial (λ n d h. i.types n d h ∙ sym k)

-- what isn't refused is taken, and what is refused isn't
pub inserted_taken : (s : RRset) (r : Record) (serial : ℕ)
    → IsSet s.owner s.record_type s.records
    → type_of r.rdata ≡ s.record_type
    → is_refused s.records r.rdata ≡ false
    → inserted s r serial ≡ Some (with_records s (records_with s.records r) r serial)
inserted_taken s r serial i k p =
    inserted_is s r serial i k
    ∙ ap (λ (b : Bool). if b then None else Some (with_records s (records_with s.records r) r serial)) p

pub inserted_refused : (s : RRset) (r : Record) (serial : ℕ)
    → IsSet s.owner s.record_type s.records
    → type_of r.rdata ≡ s.record_type
    → is_refused s.records r.rdata ≡ true
    → inserted s r serial ≡ None
inserted_refused s r serial i k p =
    inserted_is s r serial i k
    ∙ ap (λ (b : Bool). if b then None else Some (with_records s (records_with s.records r) r serial)) p

-- what is common to all insertions that take a record
pub record IsAfter (s : RRset) (r : Record) (n : ℕ) (t : RRset) : Type 0 where
  pub owner : t.owner ≡ s.owner
  pub record_type : t.record_type ≡ s.record_type
  pub class : t.class ≡ s.class
  pub ttl : t.ttl ≡ r.ttl
  pub serial : t.serial ≡ n
  pub signatures : t.signatures ≡ []
  pub some : t.records ≢ []

after_records : (s : RRset) (rs : List Record) (r : Record) (serial : ℕ) (t : RRset)
    → rs ≢ []
    → Some (with_records s rs r serial) ≡ Some t
    → IsAfter s r serial t
after_records s rs r serial t some e =
    let h : with_records s rs r serial ≡ t = cc in
    subst (IsAfter s r serial) h
    (record { owner = refl; record_type = refl; class = refl; ttl = refl; serial = refl; signatures = refl; some = some })

one_some : (r : Record) → (r ∷ []) ≢ []
one_some r h = cc

last_some : (rs : List Record) (r : Record) → (rs ++ r ∷ []) ≢ []
last_some [] r h = cc
last_some (x ∷ xs) r h = cc

if_replaced : (b : Bool) (s : RRset) (r : Record) (serial : ℕ) (t : RRset)
    → (if b then Some (replaced s r serial) else None) ≡ Some t
    → IsAfter s r serial t
if_replaced true s r serial t e = after_records s (r ∷ []) r serial t (one_some r) e
if_replaced false s r serial t e = cc

if_appended : (b : Bool) (s : RRset) (r : Record) (serial : ℕ) (t : RRset)
    → (if b then None else Some (appended s r serial)) ≡ Some t
    → IsAfter s r serial t
if_appended true s r serial t e = cc
if_appended false s r serial t e = after_records s (s.records ++ r ∷ []) r serial t (last_some s.records r) e

after_soa : (old : Option ℕ) (new : ℕ) (s : RRset) (r : Record) (serial : ℕ) (t : RRset)
    → soa_inserted old new s r serial ≡ Some t
    → IsAfter s r serial t
after_soa None new s r serial t e = after_records s (s.records ++ r ∷ []) r serial t (last_some s.records r) e
after_soa (Some old) new s r serial t e = if_replaced (nat_lt old new) s r serial t e

after_by : (d : RData) (s : RRset) (r : Record) (serial : ℕ) (t : RRset) → inserted_by d s r serial ≡ Some t → IsAfter s r serial t
after_by (V.SOA a) s r serial t e = after_soa (first_serial s.records) a.serial s r serial t e
after_by (V.CNAME a) s r serial t e = after_records s (r ∷ []) r serial t (one_some r) e
after_by (V.ANAME a) s r serial t e = after_records s (r ∷ []) r serial t (one_some r) e
after_by d s r serial t e = if_appended (stores s.records d) s r serial t e

pub inserted_after : (s : RRset) (r : Record) (serial : ℕ) (t : RRset) → inserted s r serial ≡ Some t → IsAfter s r serial t
inserted_after s r serial t e = after_by r.rdata s r serial t e

if_set : (b : Bool) (s : RRset) (r : Record) (serial : ℕ) (t : RRset)
    → is_refused s.records r.rdata ≡ b
    → same_name r.name s.owner ≡ true
    → type_of r.rdata ≡ s.record_type
    → IsSet s.owner s.record_type s.records
    → (if b then None else Some (with_records s (records_with s.records r) r serial)) ≡ Some t
    → IsSet t.owner t.record_type t.records
if_set true s r serial t p o k i e = cc
if_set false s r serial t p o k i e =
    let h : with_records s (records_with s.records r) r serial ≡ t = cc in
    subst (λ (u : RRset). IsSet u.owner u.record_type u.records) h (IsSet-with s.owner s.record_type s.records r o k i p)

-- an insertion leaves a set
pub IsSet-inserted : (s : RRset) (r : Record) (serial : ℕ) (t : RRset)
    → same_name r.name s.owner ≡ true
    → type_of r.rdata ≡ s.record_type
    → IsSet s.owner s.record_type s.records
    → inserted s r serial ≡ Some t
    → IsSet t.owner t.record_type t.records
IsSet-inserted s r serial t o k i e =
    if_set (is_refused s.records r.rdata) s r serial t refl o k i (sym (inserted_is s r serial i k) ∙ e)

-- a set's records are a set under another owner too
pub IsSet-under : (owner n : Name) (ttl t : ℕ) (rs : List Record) → IsSet owner t rs → IsSet n t (map (record_under n ttl) rs)
IsSet-under owner n ttl t rs i =
    record {
      owners = All-map (λ (r : Record). same_name r.name n ≡ true) (record_under n ttl) rs (λ k d h. caseless_eq_equiv.refl n);
      types = All-map (λ (r : Record). type_of r.rdata ≡ t) (record_under n ttl) rs i.types;
      differ = λ j k d before h.
          let last : k < length rs = subst (λ l. k < l) (length-map rs (record_under n ttl)) h in
          let first : j < length rs = omega (arith, before, last) in
          ap (λ (r : Record). same_data r.rdata (get_or (map (record_under n ttl) rs) k d).rdata) (get_or-map (record_under n ttl) rs j d d first)
          ∙ ap (λ (r : Record). same_data (get_or rs j d).rdata r.rdata) (get_or-map (record_under n ttl) rs k d d last)
          ∙ i.differ j k d before last;
      single = λ h. omega (arith, i.single h, length-map rs (record_under n ttl));
    }

-- the only record of a list, written over
pub written_alone : (rs : List Record) (r : Record) → 0 < length rs → set (take 1 rs) 0 r ≡ r ∷ []
written_alone [] r some = absurd (omega arith)
written_alone (x ∷ rs) r some = refl

-- ---- a signature put behind the others

pub signed_after : (old new : List Record) (r : Record) (result : Result Unit ProtoError) → type_of r.rdata ≡ RRSIG → AreSignatures old → IsChange old (old ++ r ∷ []) result new → AreSignatures new
signed_after old new r (Ok u) kind signed change = subst AreSignatures (sym change.ok) (All-push (λ (x : Record). type_of x.rdata ≡ RRSIG) old r signed kind)
signed_after old new r (Err e) kind signed change = subst AreSignatures (sym change.same) signed

pub signature_put : (s : RRset) (new : List Record) (r : Record) (result : Result Unit ProtoError) → IsChange s.signatures (s.signatures ++ r ∷ []) result new
    → IsChange s (record s { signatures = s.signatures ++ r ∷ [] }) result (record s { signatures = new })
signature_put s new r (Ok u) change = record { ok = ap (λ rs. record s { signatures = rs }) change.ok; err = tt; same = tt }
signature_put s new r (Err e) change = record { ok = tt; err = change.err; same = ap (λ rs. record s { signatures = rs }) change.same }

-- ---- a record of new data comes last

unless_stored : (s : RRset) (r : Record) (serial : ℕ) (b : Bool) → b ≡ false → (if b then None else Some (appended s r serial)) ≡ Some (appended s r serial)
unless_stored s r serial b e = ap (λ (x : Bool). if x then None else Some (appended s r serial)) e

pub new_stands_last : (s : RRset) (d : RData) (r : Record) (serial : ℕ) → is_single (type_of d) ≡ false → stores s.records d ≡ false
    → inserted_by d s r serial ≡ Some (appended s r serial)
new_stands_last s (V.SOA a) r serial many absent = cc
new_stands_last s (V.CNAME a) r serial many absent = cc
new_stands_last s (V.ANAME a) r serial many absent = cc
new_stands_last s d r serial many absent = unless_stored s r serial (stores s.records d) absent
