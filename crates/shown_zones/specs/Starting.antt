-- From which zone a journal may be replayed
use Rattle.zone_map.specs.Zones.{Sets, IsZone}
use Rattle.zone_difference.specs.Laws.{SameZone}
use Rattle.shown_zones.specs.Shown.{shown}

-- What answers show of a zone is a zone, and has the sets that they show of it: so steps lead from it (StepsLead).
abbrev pub ShownZonesAreZones : Type 0
ShownZonesAreZones = (a : Sets) → IsZone a → IsZone (shown a) × SameZone (shown a) (shown a)
