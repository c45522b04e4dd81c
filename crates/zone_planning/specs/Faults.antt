-- Why what is to be signed can't be written
use Rattle.std.specs.Prelude.{◌≡◌, ℕ, ◌<◌, ◌≤◌, ◌^◌, ◌⊎◌, List, length}
use Rattle.std.specs.List.{All}
use Rattle.zone_proto.specs.declared.rdata.RData.{RData}
use Rattle.zone_proto.specs.declared.rdata.RData.TheVariants as V
use Rattle.zone_proto.specs.declared.record.Record.{Record}
use Rattle.zone_proto.specs.Sets.{RRset}
use Rattle.message_writing.specs.declared.error.WriteError.{WriteError}
use Rattle.message_writing.specs.declared.error.WriteError.TheVariants as write
use Rattle.message_writing.specs.DataText.{IsWritable}
use Rattle.zone_planning.specs.declared.fault.PlanFault.{PlanFault}
use Rattle.zone_planning.specs.declared.fault.PlanFault.TheVariants as fault
use Rattle.zone_planning.specs.Canonical.{canonical_set}
use Rattle.zone_planning.specs.SignedData.{signed_data}

-- data are refused as unwritable, or for lack of memory
abbrev pub write_fault : WriteError → PlanFault
write_fault write.Memory = fault.Memory
write_fault _ = fault.Unwritable

-- the data of each record can be octets
abbrev pub AreWritable : List Record → Type 0
AreWritable rs = All (λ (r : Record). IsWritable r.rdata) rs

-- and in canonical form they can be counted in 16 bits
abbrev pub AreShort : List (List ℕ) → Type 0
AreShort texts = All (λ octets. length octets ≤ 65535) texts

-- what a signature of a set is made of can be counted in 32 bits
abbrev pub IsCounted : RRset → RData → Type 0
IsCounted set (V.RRSIG rrsig) = length (signed_data rrsig set) < 2 ^ 32
IsCounted set d = Unit {0}

-- what a signature of these data is made of can be written: the set's data can, and its octets can be counted
pub record IsSignableBy (set : RRset) (rrsig : RData) : Type 0 where
  pub written : AreWritable set.records
  pub texts : AreShort (canonical_set set.records)
  pub counted : IsCounted set rrsig

-- what each signature of a set is made of can be written
abbrev pub IsSignable : RRset → Type 0
IsSignable set = All (λ (r : Record). IsSignableBy set r.rdata) set.signatures

-- refused for lack of memory, or as unwritable where this isn't so
abbrev pub IsUnwritableUnless : PlanFault → Type 0 → Type 0
IsUnwritableUnless e P = (e ≡ fault.Memory) ⊎ ((e ≡ fault.Unwritable) × (P → ⊥))
