-- Who may have which zone by keys
use Rattle.std.specs.Prelude.{List, [], ◌∷◌, ◌++◌, map, Some, None}
use Rattle.message_tsig.specs.declared.key.Key.{Key}
use Rattle.zone_proto.specs.Names.{Name}
use Rattle.zone_server.specs.declared.transfer_policy.TransferPolicy.{TransferPolicy}
use Rattle.zone_server.specs.declared.transfer_policy.TransferPolicy.TheVariants.{AllowAll, AllowSigned, Deny}
use Rattle.zone_database.specs.declared.zone.Zone.{Zone}
use Rattle.zone_database.specs.Databases.{with_zone}
use Rattle.held_transfers.specs.declared.access.Grant.{Grant}

abbrev pub name_of : Key → Name
name_of k = k.name

-- the zone of an origin goes by its policy to nobody, to anybody, or to those who have a key of one of these names
abbrev pub grants_for : List Name → Name → TransferPolicy → List Grant
grants_for names origin Deny = []
grants_for names origin AllowAll = record { origin = origin; key = None } ∷ []
grants_for names origin AllowSigned = map (λ n. record { origin = origin; key = Some n }) names

-- the same of zones with their policies in the same order
abbrev pub grants_of : List Name → List Zone → List TransferPolicy → List Grant
grants_of names [] policies = []
grants_of names (z ∷ zs) [] = []
grants_of names (z ∷ zs) (p ∷ ps) = grants_for names z.origin p ++ grants_of names zs ps

-- zones are put among others, one after the other
abbrev pub all_with : List Zone → List Zone → List Zone
all_with [] others = others
all_with (z ∷ zs) others = all_with zs (with_zone z others)
