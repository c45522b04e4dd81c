-- Record sets as the program keeps them
use Rattle.zone_proto.specs.Sets.{RRset, IsSet, AreSignatures}
use Rattle.zone_proto.specs.declared.record_set.RecordSet.TheInside.{Inside}

-- the fields of a record set as a value
abbrev pub set_of : Inside → RRset
set_of s =
    record {
      owner = s.name;
      record_type = s.record_type.0;
      class = s.dns_class.0;
      ttl = s.ttl;
      serial = s.serial;
      records = s.records.items;
      signatures = s.rrsigs.items;
    }

-- the records are a set, and the signatures are signatures
pub record IsSetInside (s : Inside) : Type 0 where
  pub set : IsSet s.name s.record_type.0 s.records.items
  pub signed : AreSignatures s.rrsigs.items
