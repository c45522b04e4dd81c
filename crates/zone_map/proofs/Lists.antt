-- The lists of a zone's names and types: their order, and what is in them
use Rattle.std.proofs.Common.{◌≡◌, ℕ, zero, suc, ◌<◌, ◌==◌, Bool, true, false, cond, List, [], ◌∷◌, length, refl, sym, ap, ◌∙◌, arith, get_or, inl, inr, eqb-true, Ordering, Less, Equal, Greater}
use Rattle.std.specs.Prelude.{Some, None}
use Rattle.std.specs.List.{All, AllPairs, AllByRecursion, Contains, cons_option}
use Rattle.std.specs.List.Sorted.{IsStrictlySortedBy}
use Rattle.std.specs.Map.{keys_of}
use Rattle.std.specs.Cmp.{nat_cmp_total}
use Rattle.std.specs.Ordering.{nat_cmp, ordering_then, is_le}
use Rattle.std.proofs.lemmas.Cmp.{tied_itself}
use Rattle.std.proofs.lemmas.List.Elements.{All-cons}
use Rattle.std.proofs.lemmas.List.Kept.{AllPairs-cons}
use Rattle.std.proofs.lemmas.Map.Keys.{sorted_head, sorted_tail}
use Rattle.zone_proto.specs.declared.rr_key.RrKey.{RrKey}
use Rattle.zone_proto.specs.Data.{type_of}
use Rattle.zone_proto.specs.Keys.{key_cmp}
use Rattle.zone_proto.specs.Names.{Name, IsName, name_cmp, name_eq, lower}
use Rattle.zone_proto.specs.Order.{is_upto}
use Rattle.zone_proto.specs.Sets.{RRset}
use Rattle.zone_proto.specs.declared.record.Record.{Record}
use Rattle.zone_proto.proofs.Names.Lower.{lower-lower}
use Rattle.zone_proto.proofs.Members.{In}
use Rattle.zone_proto.proofs.Names.NameTree.{name_eq-Decides, name_itself}
use Rattle.zone_map.specs.Zones.{Sets, set_at, owns, names_of, owners, types_at, IsZone}
use Rattle.zone_map.proofs.Owned.{type_in, type_owned, owner_in, owner_owned, name_in, name_owned, set_of}

-- ---- the types of a name ascend

then_equal : (o p : Ordering) → p ≡ Equal → ordering_then o p ≡ Less → o ≡ Less
then_equal Less p e h = refl
then_equal Equal p e h = absurd cc
then_equal Greater p e h = absurd cc

types_above : (n : Name) (k : RrKey) (m : Sets) → k.name ≡ n → AllByRecursion (λ q. key_cmp k q ≡ Less) (keys_of m) → AllByRecursion (λ u. nat_cmp k.record_type.0 u ≡ Less) (types_at m n)
types_above n k [] e a = tt
types_above n k (f ∷ m) e a = by (name_eq n f.0.name) refl (types_above n k m e a.1)
  where
    by : (b : Bool) → name_eq n f.0.name ≡ b → AllByRecursion (λ u. nat_cmp k.record_type.0 u ≡ Less) (types_at m n)
        → AllByRecursion (λ u. nat_cmp k.record_type.0 u ≡ Less) (cons_option (cond b (Some f.0.record_type.0) None) (types_at m n))
    by true g i =
        let same : name_cmp k.name f.0.name ≡ Equal = ap (name_cmp k.name) (sym (e ∙ (name_eq-Decides n f.0.name).0 g)) ∙ name_itself k.name in
        (sym (ap (λ o. ordering_then o (nat_cmp k.record_type.0 f.0.record_type.0)) same) ∙ a.0, i)
    by false g i = i

pub types_ascend : (m : Sets) (n : Name) → IsStrictlySortedBy key_cmp (keys_of m) → IsStrictlySortedBy nat_cmp (types_at m n)
unfolding IsStrictlySortedBy
types_ascend [] n s = tt
types_ascend (e ∷ m) n s = by (name_eq n e.0.name) refl (types_ascend m n s.1)
  where
    by : (b : Bool) → name_eq n e.0.name ≡ b → IsStrictlySortedBy nat_cmp (types_at m n) → IsStrictlySortedBy nat_cmp (cons_option (cond b (Some e.0.record_type.0) None) (types_at m n))
    by true g i = (types_above n e.0 m (sym ((name_eq-Decides n e.0.name).0 g)) s.0, i)
    by false g i = i

-- ---- the owners of a type ascend

pub owners_above : (t : ℕ) (k : RrKey) (m : Sets) → k.record_type.0 ≡ t → AllByRecursion (λ q. key_cmp k q ≡ Less) (keys_of m) → AllByRecursion (λ a. name_cmp k.name a ≡ Less) (owners m t)
owners_above t k [] e a = tt
owners_above t k (f ∷ m) e a = by (t == f.0.record_type.0) refl (owners_above t k m e a.1)
  where
    by : (b : Bool) → (t == f.0.record_type.0) ≡ b → AllByRecursion (λ a. name_cmp k.name a ≡ Less) (owners m t)
        → AllByRecursion (λ a. name_cmp k.name a ≡ Less) (cons_option (cond b (Some f.0.name) None) (owners m t))
    by true g i =
        let same : nat_cmp k.record_type.0 f.0.record_type.0 ≡ Equal =
        ap (nat_cmp k.record_type.0) (sym (e ∙ eqb-true t f.0.record_type.0 g)) ∙ tied_itself nat_cmp_total k.record_type.0 in
        (then_equal (name_cmp k.name f.0.name) (nat_cmp k.record_type.0 f.0.record_type.0) same a.0, i)
    by false g i = i

pub owners_ascend : (m : Sets) (t : ℕ) → IsStrictlySortedBy key_cmp (keys_of m) → IsStrictlySortedBy name_cmp (owners m t)
unfolding IsStrictlySortedBy
owners_ascend [] t s = tt
owners_ascend (e ∷ m) t s = by (t == e.0.record_type.0) refl (owners_ascend m t s.1)
  where
    by : (b : Bool) → (t == e.0.record_type.0) ≡ b → IsStrictlySortedBy name_cmp (owners m t) → IsStrictlySortedBy name_cmp (cons_option (cond b (Some e.0.name) None) (owners m t))
    by true g i = (owners_above t e.0 m (sym (eqb-true t e.0.record_type.0 g)) s.0, i)
    by false g i = i

-- ---- the names ascend

pub then_upto : (o p : Ordering) → ordering_then o p ≡ Less → is_le o ≡ true
then_upto Less p h = refl
then_upto Equal p h = refl
then_upto Greater p h = absurd cc

names_above : (k : RrKey) (m : Sets) → AllByRecursion (λ q. key_cmp k q ≡ Less) (keys_of m) → All (λ a. is_upto name_cmp k.name a ≡ true) (names_of m)
names_above k [] a = λ i d h. absurd (omega arith)
names_above k (f ∷ m) a =
    All-cons (λ a. is_upto name_cmp k.name a ≡ true) f.0.name (names_of m) (then_upto (name_cmp k.name f.0.name) (nat_cmp k.record_type.0 f.0.record_type.0) a.0) (names_above k m a.1)

pub names_ascend : (m : Sets) → IsStrictlySortedBy key_cmp (keys_of m) → AllPairs (λ a b. is_upto name_cmp a b ≡ true) (names_of m)
names_ascend [] s = λ i j d h k. absurd (omega arith)
names_ascend (e ∷ m) s =
    AllPairs-cons (λ a b. is_upto name_cmp a b ≡ true) e.0.name (names_of m) (names_above e.0 m (sorted_head key_cmp e.0 (keys_of m) s))
    (names_ascend m (sorted_tail key_cmp e.0 (keys_of m) s))

-- ---- what is in the lists

contains_from_In : {A : Type 0} (x : A) (xs : List A) → In x xs → Contains xs x
contains_from_In x [] i = absurd i
contains_from_In x (y ∷ ys) (inl e) = (0, omega arith, e)
contains_from_In x (y ∷ ys) (inr i) = let r = contains_from_In x ys i in (suc r.0, omega arith, r.2)

In-from_contains : {A : Type 0} (x : A) (xs : List A) → Contains xs x → In x xs
In-from_contains x [] c = absurd (omega (arith, c.1))
In-from_contains {A} x (y ∷ ys) c = by c.0 c.1 c.2 (In-from_contains x ys)
  where
    by : (k : ℕ) → k < length (y ∷ ys) → get_or (y ∷ ys) k x ≡ x → (Contains ys x → In x ys) → In x (y ∷ ys)
    by zero h e more = inl e
    by (suc k) h e more = inr (more (k, omega arith, e))

pub contains_type : (m : Sets) (n : Name) (t : ℕ) → owns m n t ≡ true → Contains (types_at m n) t
contains_type m n t h = contains_from_In t (types_at m n) (type_in m n t h)

pub contained_type : (m : Sets) (n : Name) (t : ℕ) → Contains (types_at m n) t → owns m n t ≡ true
contained_type m n t c = type_owned m n t (In-from_contains t (types_at m n) c)

pub contains_owner : (m : Sets) (n : Name) (t : ℕ) → owns m n t ≡ true → Contains (owners m t) n
contains_owner m n t h = contains_from_In n (owners m t) (owner_in m n t h)

pub contained_owner : (m : Sets) (n : Name) (t : ℕ) → Contains (owners m t) n → owns m n t ≡ true
contained_owner m n t c = owner_owned m n t (In-from_contains n (owners m t) c)

pub contains_name : (m : Sets) (n : Name) (t : ℕ) → owns m n t ≡ true → Contains (names_of m) n
contains_name m n t h = contains_from_In n (names_of m) (name_in m n t h)

pub contained_name : (m : Sets) (n : Name) → Contains (names_of m) n → (t : ℕ) × (owns m n t ≡ true)
contained_name m n c = name_owned m n (In-from_contains n (names_of m) c)

-- ---- the sets themselves

pub owner_lowered : (m : Sets) (n : Name) (t : ℕ) → IsZone m → owns m n t ≡ true → lower n ≡ n
owner_lowered m n t zone h =
    let found = set_of m n t h in
    let own = (zone.stored n t found.0 found.1).owner in
    ap lower (sym own) ∙ lower-lower found.0.owner ∙ own

pub owner_named : (m : Sets) (n : Name) (t : ℕ) → IsZone m → owns m n t ≡ true → IsName n
owner_named m n t zone h = let found = set_of m n t h in (zone.stored n t found.0 found.1).named

pub records_typed : (m : Sets) (n : Name) (t : ℕ) (s : RRset) → IsZone m → set_at m n t ≡ Some s → All (λ (r : Record). type_of r.rdata ≡ t) s.records
records_typed m n t s zone h = let there = zone.stored n t s h in λ k d l. there.set.types k d l ∙ there.record_type
