-- What a plan asks its keys to sign
use Rattle.std.specs.List.{All}
use Rattle.zone_proto.specs.declared.rr_key.RrKey.{RrKey}
use Rattle.zone_proto.specs.Sets.{RRset}
use Rattle.zone_map.specs.Zones.{Sets}
use Rattle.zone_planning.specs.Faults.{IsSignable}

-- what each signature of each set is made of can be written
abbrev pub AreSignable : Sets → Type 0
AreSignable m = All (λ (e : RrKey × RRset). IsSignable e.1) m
