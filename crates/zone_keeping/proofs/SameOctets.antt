-- What a signature is made of is said by the part of a set that is signed
use Rattle.std.proofs.Common.{◌≡◌, List, refl}
use Rattle.zone_proto.specs.declared.rdata.signing.RRSIG.{RRSIG}
use Rattle.zone_proto.specs.Sets.{RRset}
use Rattle.zone_proto.specs.Signing.{signed_part}
use Rattle.zone_planning.specs.SignedData.{signed_data, set_text}
use Rattle.zone_keeping.specs.Fitting.{set_of}

pub data_of_part : (r : RRSIG) (s : RRset) → signed_data r s ≡ signed_data r (set_of (signed_part s))
unfolding signed_data set_text
data_of_part r s = refl
