use Rattle.std.specs.Prelude.{Bool, ◌==◌, ◌&&◌}
use Rattle.zone_proto.specs.Names.{same_name}
use Rattle.zone_proto.specs.Data.{same_data}
use Rattle.zone_proto.specs.declared.record.Record.{Record}

-- records are equal by owner, class, type and data; data tell the type
abbrev pub same_record : Record → Record → Bool
same_record a b = same_name a.name b.name && (a.dns_class.0 == b.dns_class.0 && same_data a.rdata b.rdata)
