use Rattle.zone_planning.proofs.CanonicalBack.{canonical_back}
use Rattle.zone_planning.proofs.SignedApart.{signed_apart}
use Rattle.zone_planning.proofs.laws.signed_data_tell_apart.Goals as goal

pub returns-clause-sets : goal.returns-clause-sets
returns-clause-sets c = signed_apart

pub returns-clause-octets : goal.returns-clause-octets
returns-clause-octets c = canonical_back
