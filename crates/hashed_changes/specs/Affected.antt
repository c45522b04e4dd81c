-- The names that may come to have an NSEC3 set by a change of a zone, lose theirs, or have another one
use Rattle.std.specs.Prelude.{◌≡◌, ℕ, Bool, false, ◌==◌, ◌&&◌, ◌||◌, List}
use Rattle.std.specs.List.{list_any}
use Rattle.zone_proto.specs.declared.rr_key.RrKey.{RrKey}
use Rattle.zone_proto.specs.Keys.{key, key_eq}
use Rattle.zone_proto.specs.Names.{Name, name_eq, is_above}
use Rattle.zone_proto.specs.Types.{NS, NSEC3}
use Rattle.zone_map.specs.Zones.{Sets, owns, owns_at_or_below}

-- under each other key both zones have a set or none has, NSEC3 aside
abbrev pub HaveChanges : List RrKey → Sets → Sets → Type 0
HaveChanges keys m after = (n : Name) (t : ℕ) → (t == NSEC3) ≡ false → list_any (key_eq (key n t)) keys ≡ false → owns after n t ≡ owns m n t

-- a set of this key makes a zone cut, so that one comes or goes with it (RFC 1034 section 4.2)
abbrev pub makes_cut : Name → RrKey → Bool
makes_cut origin k = (k.record_type.0 == NS) && is_above origin k.name

-- strictly below the origin a set that comes or goes affects the names above its owner, which are empty non-terminals where they own nothing and one that counts is below them (RFC 5155 section 7.1),
-- and where it makes a zone cut the names below that too
abbrev pub is_affected_below : Name → Sets → RrKey → Name → Bool
is_affected_below origin m k n = is_above n k.name || (makes_cut origin k && (is_above k.name n && owns_at_or_below m n))

-- and its owner
abbrev pub is_affected_by : Name → Sets → RrKey → Name → Bool
is_affected_by origin m k n = name_eq n k.name || (is_above origin n && is_affected_below origin m k n)

-- sets that come or go under these keys affect a name, in the zone after that
abbrev pub is_affected : Name → Sets → List RrKey → Name → Bool
is_affected origin m keys n = list_any (λ k. is_affected_by origin m k n) keys
