-- The owners of the sets of denial in a zone, and those of other sets
use Rattle.std.specs.Prelude.{◌≡◌, ℕ, Bool, cond, not, ◌&&◌, ◌==◌, List, [], ◌∷◌, ◌++◌, length, filter, Option, Some, None}
use Rattle.std.specs.List.{list_any}
use Rattle.std.specs.Map.{keys_of}
use Rattle.std.specs.Ordering.{is_eq}
use Rattle.zone_proto.specs.declared.rr_key.RrKey.{RrKey}
use Rattle.zone_proto.specs.Names.{Name, name_cmp, name_eq}
use Rattle.zone_proto.specs.Order.{is_before, is_upto}
use Rattle.zone_proto.specs.Types.{NSEC, NSEC3}
use Rattle.zone_map.specs.Upserts.{is_denial_type}
use Rattle.zone_map.specs.Zones.{Sets, owners, IsZone}

-- the owners of a type that are at or before a name
abbrev pub owners_upto : Sets → ℕ → Name → List Name
owners_upto m t n = filter (λ o. is_upto name_cmp o n) (owners m t)

-- a name is the last of some
abbrev pub IsLastOf : Name → List Name → Type 0
IsLastOf o names = (front : List Name) × (names ≡ front ++ o ∷ [])

-- the owners of the sets of a type, ascending, if it is NSEC or NSEC3; of other types none
abbrev pub denial_owners : Sets → ℕ → List Name
denial_owners m t = cond (is_denial_type t) (owners m t) []

-- the same, or that the type is another
abbrev pub indexed_owners : Sets → ℕ → Option (List Name)
indexed_owners m t = cond (is_denial_type t) (Some (owners m t)) None

-- those of them that are at or before a name
abbrev pub denial_owners_upto : Sets → ℕ → Name → List Name
denial_owners_upto m t n = filter (λ o. is_upto name_cmp o n) (denial_owners m t)

-- those that come before it
abbrev pub denial_owners_before : Sets → ℕ → Name → List Name
denial_owners_before m t n = filter (λ o. is_before name_cmp o n) (denial_owners m t)

-- the owners of either type
pub record Owners : Type 0 where
  pub nsec : List Name
  pub nsec3 : List Name

abbrev pub owners_of : Sets → Owners
owners_of m = record { nsec = owners m NSEC; nsec3 = owners m NSEC3 }

-- there are none of either
abbrev pub none_deny : Owners → Bool
none_deny o = (length o.nsec == 0) && (length o.nsec3 == 0)

-- ---- the owners of other sets

-- a name before names that ascend, unless it is the first of these
abbrev pub once_before : Name → List Name → List Name
once_before n [] = n ∷ []
once_before n (x ∷ xs) = cond (name_eq n x) (x ∷ xs) (n ∷ x ∷ xs)

-- the names of keys of other types, each once
abbrev pub names_of_others : List RrKey → List Name
names_of_others [] = []
names_of_others (k ∷ ks) = cond (is_denial_type k.record_type.0) (names_of_others ks) (once_before k.name (names_of_others ks))

-- the owners of sets of other types than those of denial, ascending, each once
abbrev pub other_owners : Sets → List Name
other_owners m = names_of_others (keys_of m)

-- ---- as the program keeps them

-- the owners of the sets of denial, and where there are any, those of other sets; else none of these are listed, since each key is that of such a set
pub record Listed : Type 0 where
  pub denials : Owners
  pub others : List Name

abbrev pub listed_of : Sets → Listed
listed_of m = record { denials = owners_of m; others = cond (none_deny (owners_of m)) [] (other_owners m) }

-- the sets of a zone, and beside them their owners
pub record IsIndexed (m : Sets) (listed : Listed) : Type 0 where
  pub zone : IsZone m
  pub index : listed ≡ listed_of m

-- names, in any order, among which each owner of such a set is, and no other name
abbrev pub HasOwners : List Name → Sets → Type 0
HasOwners names m = (q : Name) → list_any (λ n. is_eq (name_cmp q n)) names ≡ list_any (λ (k : RrKey). not (is_denial_type k.record_type.0) && is_eq (name_cmp q k.name)) (keys_of m)
