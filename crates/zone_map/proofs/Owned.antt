-- What the lists of a map's types and names have in them
use Rattle.std.proofs.Common.{◌≡◌, ◌==◌, eq-eqb, eqb-true, ℕ, Bool, true, false, cond, [], ◌∷◌, refl, sym, ap, ◌∙◌, inl, inr, true≢false}
use Rattle.std.specs.Prelude.{Option, Some, None, is_some, IfSome, option_copied}
use Rattle.std.specs.Borrow.{Bor}
use Rattle.std.specs.Map.{keys_of}
use Rattle.std.proofs.lemmas.Map.Made.{is_some-lookup}
use Rattle.zone_proto.specs.declared.rr_key.RrKey.{RrKey}
use Rattle.zone_proto.specs.Keys.{key, key_eq}
use Rattle.zone_proto.specs.Names.{Name, name_eq}
use Rattle.zone_proto.specs.Sets.{RRset}
use Rattle.zone_proto.proofs.Ordering.KeyOrder.{key_same, key_itself}
use Rattle.zone_proto.proofs.Members.{In, any_from_In, In-filter_map, In-from_filter_map, In-map, In-from_map}
use Rattle.zone_proto.proofs.Names.NameTree.{name_eq-Decides}
use Rattle.zone_map.specs.Zones.{Sets, set_at, owns, names_of, owners, types_at, IsStoredAt, IsZone}

-- an entry of an owned key is in the map
pub has_entry : (m : Sets) (n : Name) (t : ℕ) → owns m n t ≡ true → (s : RRset) × In (key n t, s) m
has_entry [] n t h = absurd (true≢false (sym h))
has_entry ((k, s) ∷ m) n t h = by (key_eq (key n t) k) refl (λ g. has_entry m n t g) h
  where
    by : (b : Bool) → key_eq (key n t) k ≡ b → (owns m n t ≡ true → (s : RRset) × In (key n t, s) m)
        → is_some (cond b (Some s) (set_at m n t)) ≡ true → (r : RRset) × In (key n t, r) ((k, s) ∷ m)
    by true e ih g = (s, inl (λ i. (sym (key_same (key n t) k e) i, s)))
    by false e ih g = let r = ih g in (r.0, inr r.1)

-- and a key of an entry is owned
pub entry_owned : (m : Sets) (n : Name) (t : ℕ) (e : RrKey × RRset) → In e m → e.0 ≡ key n t → owns m n t ≡ true
entry_owned m n t e i same =
    is_some-lookup (key_eq (key n t)) m
    ∙ any_from_In (key_eq (key n t)) e.0 (keys_of m) (In-map (λ (d : RrKey × RRset). d.0) e m i) (ap (key_eq (key n t)) same ∙ key_itself (key n t))

pub set_of : (m : Sets) (n : Name) (t : ℕ) → owns m n t ≡ true → (s : RRset) × (set_at m n t ≡ Some s)
set_of m n t h = by (set_at m n t) refl h
  where
    by : (o : Option RRset) → set_at m n t ≡ o → is_some o ≡ true → (s : RRset) × (set_at m n t ≡ Some s)
    by None e h = absurd (true≢false (sym h))
    by (Some s) e h = (s, e)

-- a `cond` that gives a value passed its test, and gave that value
given : {A : Type 0} (b : Bool) (x y : A) → cond b (Some x) None ≡ Some y → (b ≡ true) × (x ≡ y)
given true x y e = (refl, cc)
given false x y e = absurd cc

passed : {A : Type 0} (b : Bool) (x : A) → b ≡ true → cond b (Some x) None ≡ Some x
passed b x e = ap (λ c. cond c (Some x) None) e

pub type_in : (m : Sets) (n : Name) (t : ℕ) → owns m n t ≡ true → In t (types_at m n)
type_in m n t h =
    let e = has_entry m n t h in
    In-filter_map (λ (d : RrKey × RRset). cond (name_eq n d.0.name) (Some d.0.record_type.0) None) (key n t, e.0) t m e.1 (passed (name_eq n n) t ((name_eq-Decides n n).1 refl))

pub type_owned : (m : Sets) (n : Name) (t : ℕ) → In t (types_at m n) → owns m n t ≡ true
type_owned m n t i =
    let r = In-from_filter_map (λ (d : RrKey × RRset). cond (name_eq n d.0.name) (Some d.0.record_type.0) None) t m i in
    let g = given (name_eq n r.0.0.name) r.0.0.record_type.0 t r.2 in
    entry_owned m n t r.0 r.1 (λ j. key (sym ((name_eq-Decides n r.0.0.name).0 g.0) j) (g.1 j))

pub owner_in : (m : Sets) (n : Name) (t : ℕ) → owns m n t ≡ true → In n (owners m t)
owner_in m n t h =
    let e = has_entry m n t h in
    In-filter_map (λ (d : RrKey × RRset). cond (t == d.0.record_type.0) (Some d.0.name) None) (key n t, e.0) n m e.1 (passed (t == t) n (eq-eqb t t refl))

pub owner_owned : (m : Sets) (n : Name) (t : ℕ) → In n (owners m t) → owns m n t ≡ true
owner_owned m n t i =
    let r = In-from_filter_map (λ (d : RrKey × RRset). cond (t == d.0.record_type.0) (Some d.0.name) None) n m i in
    let g = given (t == r.0.0.record_type.0) r.0.0.name n r.2 in
    entry_owned m n t r.0 r.1 (λ j. key (g.1 j) (sym (eqb-true t r.0.0.record_type.0 g.0) j))

pub name_in : (m : Sets) (n : Name) (t : ℕ) → owns m n t ≡ true → In n (names_of m)
name_in m n t h =
    let e = has_entry m n t h in
    In-map (λ (d : RrKey × RRset). d.0.name) (key n t, e.0) m e.1

pub name_owned : (m : Sets) (n : Name) → In n (names_of m) → (t : ℕ) × (owns m n t ≡ true)
name_owned m n i =
    let r = In-from_map (λ (d : RrKey × RRset). d.0.name) n m i in
    (r.0.0.record_type.0, entry_owned m n r.0.0.record_type.0 r.0 r.1 (λ j. key (r.2 j) r.0.0.record_type.0))

-- a set that a lookup finds is stored as it is to be
pub found_stored : (m : Sets) (n : Name) (t : ℕ) (r : Option (Bor RRset)) → option_copied r ≡ set_at m n t → IsZone m → IfSome r (λ s. IsStoredAt n t s.now)
found_stored m n t None e i = tt
found_stored m n t (Some s) e i = i.stored n t s.now (sym e)
