-- Octets that are the wire form of a name (RFC 1035 section 3.1), and why others are not
use Rattle.std.specs.Prelude.{◌≡◌, ◌≢◌, ◌⊎◌, ℕ, ◌<◌, List, length, Some, IfErr, Result}
use Rattle.std.specs.List.{AllByRecursion}
use Rattle.zone_proto.specs.declared.error.ProtoError.{ProtoError}
use Rattle.zone_proto.specs.declared.error.ProtoError.TheVariants.{BadText, Memory}
use Rattle.zone_proto.specs.Counting.{counted_name, IsCounting}
use Rattle.zone_proto.specs.Faults.{fault_of}
use Rattle.zone_proto.specs.Names.{Name, wire_form, IsName}

-- labels that have an octet: a length of 0 is the end of a name
abbrev pub HaveOctets : Name → Type 0
HaveOctets = AllByRecursion (λ l. 0 < length l)

-- why octets are not read: they are of no labels' wire form, which is bad text, or the labels of whose wire form they are have a fault
pub data IsWireFault (octets : List ℕ) (e : ProtoError) : Type 0 where
  no_labels : ((ls : Name) → HaveOctets ls → octets ≢ wire_form ls) → e ≡ BadText → IsWireFault octets e
  no_name : (ls : Name) → HaveOctets ls → octets ≡ wire_form ls → fault_of ls ≡ Some e → IsWireFault octets e

-- a call that reads a wire form refuses it for its fault, or for lack of memory
abbrev pub ReportsWireFault : {A : Type 0} → Result A ProtoError → List ℕ → Type 0
ReportsWireFault result octets = IfErr result (λ e. (e ≡ Memory) ⊎ IsWireFault octets e)

-- the octets are the wire form of a name, and the labels are those of the name, each behind its length
pub record IsWireForm (octets labels : List ℕ) : Type 0 where
  pub counting : IsCounting labels (counted_name labels)
  pub name : IsName (counted_name labels)
  pub form : octets ≡ wire_form (counted_name labels)
