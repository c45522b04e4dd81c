-- What is handed out to be signed tells what it is made of: it reads back
use Rattle.std.specs.Prelude.{◌≡◌, ℕ, ◌<◌, List, [], ◌++◌, length, Some}
use Rattle.std.specs.List.{AllByRecursion}
use Rattle.zone_proto.specs.Data.{type_of}
use Rattle.zone_proto.specs.Names.{IsName, lower}
use Rattle.zone_proto.specs.declared.rdata.RData.{RData}
use Rattle.zone_proto.specs.declared.rdata.RData.TheVariants as V
use Rattle.zone_proto.specs.declared.rdata.signing.RRSIG.{RRSIG}
use Rattle.zone_proto.specs.Sets.{RRset}
use Rattle.message_reading.specs.DataForms.{plain_data_of}
use Rattle.message_writing.specs.DataText.{IsWritable, IsSound, fixed_text}
use Rattle.zone_planning.specs.Canonical.{canonical_soa, canonical_octets, canonical_set, names_from, with_names_lowered}
use Rattle.zone_planning.specs.Filling.{signatures_text}
use Rattle.zone_planning.specs.Frames.{Asked, end_text, frames, frames_in}
use Rattle.zone_planning.specs.SignedData.{signed_data}

-- ---- data

-- data with the names in lower case in the types of RFC 4034 section 6.2
abbrev pub canonical_data : RData → RData
canonical_data (V.NS n) = V.NS (lower n)
canonical_data (V.CNAME n) = V.CNAME (lower n)
canonical_data (V.SOA s) = V.SOA (canonical_soa s)
canonical_data (V.MX d) = V.MX (record d { exchange = lower d.exchange })
canonical_data (V.SRV d) = V.SRV (record d { target = lower d.target })
canonical_data (V.Other d) = V.Other (record d { octets = with_names_lowered (names_from d.record_type.0 d.octets) d.octets })
canonical_data d = d

-- the names of data are names
abbrev pub HasNames : RData → Type 0
HasNames (V.NS n) = IsName n
HasNames (V.CNAME n) = IsName n
HasNames (V.SOA s) = IsName s.mname × IsName s.rname
HasNames (V.MX d) = IsName d.exchange
HasNames d = Unit {0}

-- octets in canonical form are read as the data in canonical form: so data that differ otherwise than by the case of such names have different octets
abbrev pub CanonicalOctetsReadBack : Type 0
CanonicalOctetsReadBack = (d : RData) → IsWritable d → IsSound d → HasNames d → plain_data_of (type_of d) (canonical_octets d) ≡ Some (canonical_data d)

-- ---- what is signed

-- what of a signature is signed with a set, and of the set: all of it but the case of names, the order of records, and which of them are repeated
pub record SignsTheSame (r r' : RRSIG) (s s' : RRset) : Type 0 where
  pub numbers : fixed_text r ≡ fixed_text r'
  pub signer : lower r.signer_name ≡ lower r'.signer_name
  pub texts : canonical_set s.records ≡ canonical_set s'.records
  pub owner : (canonical_set s.records ≡ [] → ⊥) → lower s.owner ≡ lower s'.owner
  pub types : (canonical_set s.records ≡ [] → ⊥) → s.record_type ≡ s'.record_type

-- the signer of a signature and the owner of its set are names
pub record IsNamed (r : RRSIG) (s : RRset) : Type 0 where
  pub signer : IsName r.signer_name
  pub owner : IsName s.owner

-- octets to be signed tell what they are made of, so that no signature of one set is one of another
abbrev pub SignedDataTellApart : Type 0
SignedDataTellApart = (r r' : RRSIG) (s s' : RRset) → IsNamed r s → IsNamed r' s' → signed_data r s ≡ signed_data r' s' → SignsTheSame r r' s s'

-- ---- frames and signatures

-- frames of some octets each, with the end behind them, are read as what they ask for
abbrev pub FramesReadBack : Type 0
FramesReadBack = (as' : List Asked) → AllByRecursion (λ (a : Asked). 0 < length a.octets) as' → frames_in (frames as' ++ end_text) ≡ Some as'

-- what is asked to be signed has some octets
abbrev pub AskedAreSome : Type 0
AskedAreSome = (r : RRSIG) (s : RRset) → 0 < length (signed_data r s)

-- signatures that are handed over are told apart
abbrev pub SignaturesTellApart : Type 0
SignaturesTellApart = (ss ss' : List (List ℕ)) → signatures_text ss ≡ signatures_text ss' → ss ≡ ss'
