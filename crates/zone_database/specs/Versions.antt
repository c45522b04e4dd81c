-- Versions of a zone, and the changes that lead from one to the next
use Rattle.std.specs.Prelude.{◌≡◌, List, Option, Some, None}
use Rattle.std.specs.Arc.{arc_value}
use Rattle.zone_proto.specs.Names.{Name}
use Rattle.zone_map.specs.Zones.{Sets}
use Rattle.update_in_place.specs.declared.in_place.Changed.{Changed}
use Rattle.update_in_place.specs.Parts.{AreChanged}
use Rattle.zone_database.specs.declared.version.Version.{Version}
use Rattle.zone_database.specs.declared.zone.Zone.{Zone}
use Rattle.zone_database.specs.Zones.{zone_of_records}

-- ---- changes

-- a change is one of these sets: there are sets that it makes of them
abbrev pub IsChangeOf : Sets → Changed → Type 0
IsChangeOf m changed = (names : List Name) × (next : Sets) × AreChanged names m next changed.before changed.after

-- of those of a zone, if there is one
abbrev pub IsChangeOfAny : Option Zone → Changed → Type 0
IsChangeOfAny None changed = Unit {0}
IsChangeOfAny (Some z) changed = IsChangeOf z.inner.records changed

-- this is the zone of an origin that a change makes of these sets
abbrev pub IsZoneAfter : Name → Sets → Changed → Zone → Type 0
IsZoneAfter origin m changed after = (names : List Name) (next : Sets) → AreChanged names m next changed.before changed.after → after ≡ zone_of_records origin next

-- it is given where there is a zone
abbrev pub IsAfterAny : Name → Option Zone → Changed → Option Zone → Type 0
IsAfterAny origin None changed after = after ≡ None
IsAfterAny origin (Some z) changed None = ⊥
IsAfterAny origin (Some z) changed (Some after) = IsZoneAfter origin z.inner.records changed after

-- a change makes these sets of others
abbrev pub IsMadeBy : Sets → Changed → Sets → Type 0
IsMadeBy m changed after = (names : List Name) × AreChanged names m after changed.before changed.after

-- the sets of a zone
abbrev pub records_of : Zone → Sets
records_of z = z.inner.records

-- ---- versions before

-- what is kept of a version leads to these sets
abbrev pub LeadsTo : Sets → Version → Type 0
LeadsTo m version = IsMadeBy (arc_value version.zone).inner.records version.change m

-- if any is kept
abbrev pub LeadsIfAny : Sets → Option Version → Type 0
LeadsIfAny m None = Unit {0}
LeadsIfAny m (Some version) = LeadsTo m version
