-- A part of a zone: the sets of some owner names
use Rattle.std.specs.Prelude.{◌≡◌, ℕ, Bool, false, not, if◌then◌else◌, List, ◌∷◌, map, filter, Option, is_some, unwrap_or, option_map}
use Rattle.std.specs.List.{list_any}
use Rattle.std.specs.List.Sorted.{IsStrictlySortedBy}
use Rattle.std.specs.Map.{keys_of, lookup}
use Rattle.zone_proto.specs.declared.rr_key.RrKey.{RrKey}
use Rattle.zone_proto.specs.Keys.{key, key_cmp, key_eq}
use Rattle.zone_proto.specs.Names.{Name, lower, name_eq}
use Rattle.zone_proto.specs.Sets.{RRset}
use Rattle.zone_map.specs.Zones.{Sets, owns, put, set_at, types_at}
use Rattle.zone_update.specs.declared.entry.Entry.{Entry}

-- a name is one of these
abbrev pub is_among : List Name → Name → Bool
is_among names n = list_any (name_eq n) names

-- the sets of these names
abbrev pub sets_of : List Name → Sets → Sets
sets_of names m = filter (λ e. is_among names e.0.name) m

-- The names whose sets an update may change: the origin, since the serial of its SOA may go on by itself, and the names of its records.
abbrev pub names_about : Name → List Entry → List Name
names_about origin changes = origin ∷ map (λ r. lower r.name) changes

-- the keys of the sets of a name
abbrev pub keys_of_name : Sets → Name → List RrKey
keys_of_name m n = map (key n) (types_at m n)

-- a set is put under a key, if there is one
abbrev pub put_if : Sets → RrKey → Option RRset → Sets
put_if m k o = unwrap_or (option_map (λ (s : RRset). put m k.name k.record_type.0 s) o) m

-- sets, with the one that others have under a key where none stands
abbrev pub with_copy : Sets → Sets → RrKey → Sets
with_copy from m k = if is_some (lookup (key_eq k) m) then m else put_if m k (lookup (key_eq k) from)

-- a set takes the place of the one under its key, where one stands
abbrev pub with_replaced : Sets → RrKey × RRset → Sets
with_replaced m e = if owns m e.0.name e.0.record_type.0 then put m e.0.name e.0.record_type.0 e.1 else m

-- the keys of the sets under which another map has none
abbrev pub keys_lacking : Sets → Sets → List RrKey
keys_lacking m other = keys_of (filter (λ e. not (owns other e.0.name e.0.record_type.0)) m)

-- Sets of some names, before and after: those that a zone has, and those of the next zone, which differs from it in no other sets.
pub record AreChanged (names : List Name) (zone next before after : Sets) : Type 0 where
  pub before_is : before ≡ sets_of names zone
  pub after_is : after ≡ sets_of names next
  pub ordered : IsStrictlySortedBy key_cmp (keys_of next)
  pub others : (n : Name) (t : ℕ) → is_among names n ≡ false → set_at next n t ≡ set_at zone n t
