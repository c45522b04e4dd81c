-- The denials of a zone that is secured
use Rattle.std.specs.Prelude.{[], IsTrue, Some, None}
use Rattle.zone_map.specs.Upserts.{is_denial_type}
use Rattle.zone_map.specs.Zones.{Sets}
use Rattle.zone_signing.specs.Secured.{SetsBy, unsigned_at, kept_at}
use Rattle.zone_lookup.specs.declared.inner_in_memory.securing.Denials.{Denials}
use Rattle.zone_lookup.specs.declared.inner_in_memory.securing.Denials.TheVariants.{AsTheyAre, New, Kept}

-- what is to be signed of a zone and its denials
abbrev pub denied_at : Denials → Sets → SetsBy
denied_at AsTheyAre m = unsigned_at None m []
denied_at (New denials sets) m = unsigned_at (Some denials.0) m sets
denied_at (Kept denials serial) m = kept_at denials.0 serial m

-- what is kept are sets of NSEC or NSEC3
abbrev pub AreKeptByType : Denials → Type 0
AreKeptByType (Kept denials serial) = IsTrue (is_denial_type denials.0)
AreKeptByType denials = Unit {0}
