-- A zone's record sets: a finite map from an owner name and a type to a record set
use Rattle.std.specs.Prelude.{◌≡◌, ◌≢◌, ℕ, Bool, cond, List, [], map, ◌==◌, Option, Some, None, filter_map, is_some}
use Rattle.std.specs.List.{list_any, All}
use Rattle.std.specs.List.Sorted.{IsStrictlySortedBy}
use Rattle.std.specs.Map.{lookup, remove_entry, keys_of, update_all}
use Rattle.std.specs.BTreeMap.{insert_entry}
use Rattle.zone_proto.specs.declared.rr_key.RrKey.{RrKey}
use Rattle.zone_proto.specs.Keys.{key, first_key, key_cmp, key_eq}
use Rattle.zone_proto.specs.Names.{Name, IsName, lower, name_eq, is_at_or_above}
use Rattle.zone_proto.specs.Order.{is_upto}
use Rattle.zone_proto.specs.Sets.{RRset, IsSet}

-- the map, as its entries in the order of their keys
abbrev pub Sets : Type 0
Sets = List (RrKey × RRset)

-- the set of a name and a type
abbrev pub set_at : Sets → Name → ℕ → Option RRset
set_at m n t = lookup (key_eq (key n t)) m

-- n owns t: the map has a set of that name and type
abbrev pub owns : Sets → Name → ℕ → Bool
owns m n t = is_some (set_at m n t)

-- the names that own a set, ascending, each as often as it owns a set
abbrev pub names_of : Sets → List Name
names_of m = map (λ e. e.0.name) m

-- the names that own a type, ascending
abbrev pub owners : Sets → ℕ → List Name
owners m t = filter_map (λ e. cond (t == e.0.record_type.0) (Some e.0.name) None) m

-- the types that a name owns, ascending
abbrev pub types_at : Sets → Name → List ℕ
types_at m n = filter_map (λ e. cond (name_eq n e.0.name) (Some e.0.record_type.0) None) m

-- n, or a name below it, owns a set: n is then a name of the tree, though perhaps an empty one (RFC 4592 section 2.2.2)
abbrev pub owns_at_or_below : Sets → Name → Bool
owns_at_or_below m n = list_any (is_at_or_above n) (names_of m)

-- a key is at or after the first one that a name may have
abbrev pub has_key_from : Sets → Name → Bool
has_key_from m n = list_any (is_upto key_cmp (first_key n)) (keys_of m)

-- the map with a set put under its name and type, in place of the one that was there
abbrev pub put : Sets → Name → ℕ → RRset → Sets
put m n t s = insert_entry key_cmp m (key n t) s

-- the map without the set of a name and a type
abbrev pub without : Sets → Name → ℕ → Sets
without m n t = remove_entry (key_eq (key n t)) m

-- the set that comes last under a name and a type, among sets by their keys in any order
abbrev pub last_at : Sets → Name → ℕ → Option RRset
last_at entries n t = update_all key_eq (λ _. None) entries (key n t)

-- a set is under its own owner name, in lower case, and type; that is a name, and the set has a record, and its records
-- are those of one set
pub record IsStoredAt (n : Name) (t : ℕ) (s : RRset) : Type 0 where
  pub named : IsName n
  pub owner : lower s.owner ≡ n
  pub record_type : s.record_type ≡ t
  pub filled : s.records ≢ []
  pub set : IsSet s.owner s.record_type s.records

-- sets by their keys, in any order, each under its own
abbrev pub AreStored : Sets → Type 0
AreStored entries = All (λ e. IsStoredAt e.0.name e.0.record_type.0 e.1) entries

-- the sets of a zone: their keys ascend, so that none appears twice, and each set is under its own
pub record IsZone (m : Sets) : Type 0 where
  pub ordered : IsStrictlySortedBy key_cmp (keys_of m)
  pub stored : (n : Name) (t : ℕ) (s : RRset) → set_at m n t ≡ Some s → IsStoredAt n t s
