-- The insertion of a record into a zone
use Rattle.std.specs.Prelude.{◌≡◌, ◌⊎◌, ℕ, Bool, IsTrue, ◌&&◌, ◌||◌, not, cond, ◌==◌, List, [], ◌∷◌, Option, Some, None, unwrap_or, option_map, option_and_then}
use Rattle.std.specs.Bool.{beq}
use Rattle.std.specs.List.{list_any}
use Rattle.zone_proto.specs.declared.record.Record.{Record}
use Rattle.zone_proto.specs.Names.{Name, lower}
use Rattle.zone_proto.specs.Data.{type_of}
use Rattle.zone_proto.specs.Types.{CNAME, NSEC, NSEC3}
use Rattle.zone_proto.specs.Sets.{RRset, inserted, empty_set}
use Rattle.zone_map.specs.Zones.{Sets, set_at, owns, types_at, put}

-- the types of denial, which may be beside a CNAME (RFC 4034 section 4, RFC 4035 section 2.5)
abbrev pub is_denial_type : ℕ → Bool
is_denial_type t = (t == NSEC) || (t == NSEC3)

-- two types that one name may not own: exactly one of them is CNAME, and neither is a type of denial (RFC 1034 section 3.6.2)
abbrev pub clash : ℕ → ℕ → Bool
clash t u = not (beq (t == CNAME) (u == CNAME)) && not (is_denial_type t || is_denial_type u)

-- a type that the name owns stands against t
abbrev pub clashes : Sets → Name → ℕ → Bool
clashes m n t = list_any (clash t) (types_at m n)

-- the set that takes a record: the one of its name and type, or a new one
abbrev pub set_for : Sets → Record → ℕ → RRset
set_for m r serial = unwrap_or (set_at m (lower r.name) (type_of r.rdata)) (empty_set r.name (type_of r.rdata) serial)

-- the map once a record is inserted, or none if the set doesn't take it
abbrev pub with_record : Sets → Record → ℕ → Option Sets
with_record m r serial = option_map (put m (lower r.name) (type_of r.rdata)) (inserted (set_for m r serial) r serial)

-- the same for a zone of a class: a record of another class, or of a type that clashes, isn't taken
abbrev pub upserted : Sets → ℕ → Record → ℕ → Option Sets
upserted m class r serial = cond ((r.dns_class.0 == class) && not (clashes m (lower r.name) (type_of r.rdata))) (with_record m r serial) None

-- the map once records are inserted one after the other, or none if one of them isn't taken
abbrev pub all_upserted : Sets → ℕ → List Record → ℕ → Option Sets
all_upserted m class [] serial = Some m
all_upserted m class (r ∷ rs) serial = option_and_then (λ n. all_upserted n class rs serial) (upserted m class r serial)

-- a name that owns CNAME owns nothing else but types of denial (RFC 1034 section 3.6.2)
pub record CnamesStandAlone (m : Sets) : Type 0 where
  pub alone : (n : Name) (t : ℕ) → IsTrue (owns m n CNAME) → IsTrue (owns m n t) → (t ≡ CNAME) ⊎ IsTrue (is_denial_type t)
