-- What answers show of a zone is a zone, and like itself
use Rattle.std.proofs.Common.{◌≡◌, true, refl}
use Rattle.std.specs.Prelude.{Option, Some, None}
use Rattle.std.specs.Map.{lookup}
use Rattle.zone_proto.specs.Keys.{key_eq}
use Rattle.zone_proto.specs.SetEquality.{same_set_equiv}
use Rattle.zone_proto.specs.Sets.{RRset}
use Rattle.zone_difference.specs.Differences.{same_at}
use Rattle.shown_zones.specs.Shown.{shown}
use Rattle.shown_zones.specs.Starting.{ShownZonesAreZones}
use Rattle.shown_zones.proofs.Shows.{shown_zone}

same_itself : (o : Option RRset) → same_at o o ≡ true
same_itself None = refl
same_itself (Some s) = same_set_equiv.refl s

pub shown_zones_are_zones : ShownZonesAreZones
shown_zones_are_zones a zone = (shown_zone a zone, λ q. same_itself (lookup (key_eq q) (shown a)))
