-- What is checked of data before they are written
use Rattle.std.specs.Prelude.{◌≡◌, ℕ, List}
use Rattle.zone_proto.specs.declared.rdata.RData.{RData}
use Rattle.zone_proto.specs.declared.rdata.RData.TheVariants as V
use Rattle.message_writing.specs.DataText.{AreTypeNumbers}

-- the numbers of the types that data list have 16 bits
abbrev pub HaveTypeNumbers : RData → Type 0
HaveTypeNumbers (V.NSEC d) = AreTypeNumbers d.types
HaveTypeNumbers (V.NSEC3 d) = AreTypeNumbers d.types
HaveTypeNumbers _ = Unit {0}

-- data of a type without a case of its own have these octets
abbrev pub HasOctets : RData → List ℕ → Type 0
HasOctets (V.Other d) octets = d.octets ≡ octets
HasOctets _ octets = ⊥
