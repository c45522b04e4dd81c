-- Why a zone has no digest
use Rattle.std.specs.Prelude.{List, map}
use Rattle.std.specs.List.{All}
use Rattle.zone_proto.specs.declared.rdata.RData.{RData}
use Rattle.zone_proto.specs.declared.rdata.RData.TheVariants as V
use Rattle.zone_proto.specs.declared.record.Record.{Record}
use Rattle.zone_proto.specs.Names.{Name, lower}
use Rattle.zone_proto.specs.Sets.{RRset}
use Rattle.zone_map.specs.Zones.{Sets}
use Rattle.message_writing.specs.DataText.{IsWritable}
use Rattle.zone_planning.specs.Canonical.{canonical_set, in_order}
use Rattle.zone_planning.specs.Faults.{AreShort, AreWritable}
use Rattle.zone_digest.specs.ZoneText.{signature_octets, digested_sets, zonemd_key}

-- the data of a signature can be octets, with the signer in lower case
abbrev pub IsWritableSignature : RData → Type 0
IsWritableSignature (V.RRSIG r) = IsWritable (V.RRSIG (record r { signer_name = lower r.signer_name }))
IsWritableSignature d = IsWritable d

-- the records of a set and its signatures can be octets, and the data of each are counted in 16 bits
pub record IsDigestible (s : RRset) : Type 0 where
  pub records : AreWritable s.records
  pub texts : AreShort (canonical_set s.records)
  pub signatures : All (λ (r : Record). IsWritableSignature r.rdata) s.signatures
  pub signature_texts : AreShort (in_order (map (λ (r : Record). signature_octets r.rdata) s.signatures))

abbrev pub AreDigestible : List RRset → Type 0
AreDigestible sets = All IsDigestible sets

-- so it is with all sets that are digested
abbrev pub IsDigestibleZone : Name → Sets → Type 0
IsDigestibleZone origin m = AreDigestible (digested_sets (zonemd_key origin) m)
