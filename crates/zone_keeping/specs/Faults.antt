-- Why standing signatures can't be looked for, or handed over
use Rattle.std.specs.Prelude.{ℕ, ◌<◌, ◌≤◌, ◌^◌, length, Option, Some, None}
use Rattle.std.specs.List.{All}
use Rattle.zone_proto.specs.declared.rdata.RData.{RData}
use Rattle.zone_proto.specs.declared.rdata.RData.TheVariants as V
use Rattle.zone_proto.specs.declared.rdata.signing.RRSIG.{RRSIG}
use Rattle.zone_proto.specs.declared.record.Record.{Record}
use Rattle.zone_proto.specs.declared.rr_key.RrKey.{RrKey}
use Rattle.zone_proto.specs.Sets.{RRset}
use Rattle.zone_map.specs.Zones.{Sets, set_at}
use Rattle.zone_planning.specs.Canonical.{canonical_set}
use Rattle.zone_planning.specs.Faults.{AreShort, AreWritable}
use Rattle.zone_planning.specs.SignedData.{signed_data}

-- ---- compared

-- the data of a set and of the old zone's can be written in canonical form
pub record AreComparable (old s : RRset) : Type 0 where
  pub old_written : AreWritable old.records
  pub old_texts : AreShort (canonical_set old.records)
  pub written : AreWritable s.records
  pub texts : AreShort (canonical_set s.records)

-- so it is if the old zone has that set
abbrev pub IsComparable : Option RRset → RRset → Type 0
IsComparable None s = Unit {0}
IsComparable (Some old) s = AreComparable old s

-- so it is with each set of a zone
abbrev pub AllComparable : Sets → Sets → Type 0
AllComparable old m = All (λ (e : RrKey × RRset). IsComparable (set_at old e.0.name e.0.record_type.0) e.1) m

-- ---- handed over

-- what a signature is made of can be written, and its own octets are counted in 16 bits
pub record IsVerifiable (set : RRset) (rrsig : RRSIG) : Type 0 where
  pub written : AreWritable set.records
  pub texts : AreShort (canonical_set set.records)
  pub counted : length (signed_data rrsig set) < 2 ^ 32
  pub short : length rrsig.signature < 2 ^ 16

abbrev pub IsVerifiableBy : RRset → RData → Type 0
IsVerifiableBy set (V.RRSIG rrsig) = IsVerifiable set rrsig
IsVerifiableBy set d = Unit {0}

-- so it is with each signature of a set
abbrev pub AreVerifiable : RRset → Type 0
AreVerifiable set = All (λ (r : Record). IsVerifiableBy set r.rdata) set.signatures
