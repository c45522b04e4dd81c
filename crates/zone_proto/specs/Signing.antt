-- What a signature is made of
use Rattle.std.specs.Prelude.{ℕ, List}
use Rattle.zone_proto.specs.Names.{Name}
use Rattle.zone_proto.specs.Sets.{RRset}
use Rattle.zone_proto.specs.declared.record.Record.{Record}

-- the part of a set that a signature is made of: never the signatures that the set has (RFC 4034 section 3.1.8.1)
pub record SignedPart : Type 0 where
  pub owner : Name
  pub record_type : ℕ
  pub ttl : ℕ
  pub records : List Record

abbrev pub signed_part : RRset → SignedPart
signed_part s = record { owner = s.owner; record_type = s.record_type; ttl = s.ttl; records = s.records }
