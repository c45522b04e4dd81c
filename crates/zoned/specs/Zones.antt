-- What is served, and who may transfer each zone
use Rattle.std.specs.Prelude.{List, map}
use Rattle.zone_server.specs.declared.transfer_policy.TransferPolicy.{TransferPolicy}
use Rattle.zone_database.specs.declared.zone.Zone.{Zone}
use Rattle.zone_database.specs.Zones.{served_zone}
use Rattle.zone_server.specs.Serving.{Served}
use Rattle.zoned.specs.declared.wanted.WantedZone.{WantedZone}

-- who may transfer a zone that is wanted
abbrev pub policy_of : WantedZone → TransferPolicy
policy_of w = w.policy

-- zones as they are asked, and beside them who may transfer each
abbrev pub server_of : List Zone → List TransferPolicy → Served
server_of zs ps = record { zones = map served_zone zs; policies = ps }
