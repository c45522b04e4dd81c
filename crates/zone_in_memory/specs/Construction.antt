-- A zone made of record sets that are passed in by their keys
use Rattle.std.specs.Prelude.{ℕ, Bool, ◌&&◌, ◌==◌, if◌then◌else◌, List, [], ◌∷◌, Option, Some, None, Result, Ok, Err}
use Rattle.std.specs.List.{list_all}
use Rattle.std.specs.Map.{values_of}
use Rattle.zone_proto.specs.declared.rdata.start_of_authority.SOA.{SOA as SoaData}
use Rattle.zone_proto.specs.declared.rr_key.RrKey.{RrKey}
use Rattle.zone_proto.specs.Names.{Name, lower, name_eq}
use Rattle.zone_proto.specs.Sets.{RRset}
use Rattle.zone_proto.specs.Types.{IN}
use Rattle.zone_lookup.specs.declared.zone_error.ZoneError.{ZoneError}
use Rattle.zone_lookup.specs.declared.zone_error.ZoneError.TheVariants.{MissingSoa, KeyMismatch, Refused}
use Rattle.zone_lookup.specs.StartOfAuthority.{soa}
use Rattle.zone_map.specs.Upserts.{all_upserted}
use Rattle.zone_map.specs.Zones.{Sets}

-- a key is its set's own name, in lower case, and type
abbrev pub is_own_key : RrKey × RRset → Bool
is_own_key e = name_eq (lower e.1.owner) e.0.name && (e.1.record_type == e.0.record_type.0)

-- what follows a set whose records were inserted; a set of which one wasn't taken is refused
abbrev pub after_set : Name → RRset → Option Sets → (Sets → Result Sets ZoneError) → Result Sets ZoneError
after_set origin s None rest = Err (Refused s.owner (record { 0 = s.record_type }) origin)
after_set origin s (Some m) rest = rest m

-- the records of sets inserted, set after set, with one serial
abbrev pub inserted_sets : Name → ℕ → Sets → List RRset → Result Sets ZoneError
inserted_sets origin serial m [] = Ok m
inserted_sets origin serial m (s ∷ ss) = after_set origin s (all_upserted m IN s.records serial) (λ n. inserted_sets origin serial n ss)

-- the sets in the order of their keys, with the serial of the zone's SOA; without that it is missed, and a key that isn't its set's own is refused
abbrev pub made_with : Name → Sets → Option SoaData → Result Sets ZoneError
made_with origin m None = Err (MissingSoa origin)
made_with origin m (Some a) = if list_all is_own_key m then inserted_sets origin a.serial [] (values_of m) else Err KeyMismatch

-- the map that a zone of an origin has, made of the sets passed in, or the first refusal
abbrev pub made : Name → Sets → Result Sets ZoneError
made origin m = made_with origin m (soa m (lower origin))
