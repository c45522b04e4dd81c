-- What is written of data: a function of the data and of how the two names that they may have are cut. What it means is said by
-- reading alone.
use Rattle.std.specs.Prelude.{◌≡◌, ℕ, ◌+◌, ◌/◌, ◌%◌, ◌<◌, ◌≤◌, Bool, false, if◌then◌else◌, List, [], ◌∷◌, ◌++◌, length, Some}
use Rattle.std.specs.List.{AllByRecursion}
use Rattle.std.specs.Int.{w32, cast_unsigned}
use Rattle.std.specs.Int.RustNames.{FitsSigned}
use Rattle.zone_proto.specs.Names.{Name, IsName, wire_form, wire_length}
use Rattle.zone_proto.specs.declared.record_type.RecordType.{RecordType}
use Rattle.zone_proto.specs.declared.rdata.start_of_authority.SOA.{SOA as SoaData}
use Rattle.zone_proto.specs.declared.rdata.service.SRV.{SRV as SrvData}
use Rattle.zone_proto.specs.declared.rdata.signing.DNSKEY.{DNSKEY as DnskeyData}
use Rattle.zone_proto.specs.declared.rdata.denial.NSEC.{NSEC as NsecData}
use Rattle.zone_proto.specs.declared.rdata.denial.NSEC3.{NSEC3 as Nsec3Data}
use Rattle.zone_proto.specs.declared.rdata.denial.NSEC3PARAM.{NSEC3PARAM as Nsec3paramData}
use Rattle.zone_proto.specs.declared.rdata.signing.RRSIG.{RRSIG as RrsigData}
use Rattle.zone_proto.specs.declared.rdata.other.OtherData.{OtherData}
use Rattle.zone_proto.specs.declared.rdata.RData.{RData}
use Rattle.zone_proto.specs.declared.rdata.RData.TheVariants as V
use Rattle.message_reading.specs.DataForms.{data_of, plain_data_of}
use Rattle.message_reading.specs.TypeMaps.{is_passed_over}
use Rattle.message_writing.specs.declared.name_writer.Cut.{Cut}
use Rattle.message_writing.specs.KnownNames.{cut_text, IsCut, IsShort}
use Rattle.message_writing.specs.Continuing.{Continues}
use Rattle.message_writing.specs.StrictReading.{message_for}
use Rattle.message_writing.specs.TypeMapText.{map_text, numbers, IsAscendingFrom}

abbrev pub short_text : ℕ → List ℕ
short_text n = (n / 256) ∷ (n % 256) ∷ []

abbrev pub long_text : ℕ → List ℕ
long_text n = short_text (n / 65536) ++ short_text (n % 65536)

-- octets behind an octet that counts them
abbrev pub counted_text : List ℕ → List ℕ
counted_text octets = length octets ∷ octets

abbrev pub name_text : Cut → Name → List ℕ
name_text cut n = cut_text cut.labels cut.pointer n

-- the numbers of an SOA
abbrev pub timers_text : SoaData → List ℕ
timers_text s =
    long_text s.serial ++ (long_text (cast_unsigned w32 s.refresh) ++ (long_text (cast_unsigned w32 s.retry)
    ++ (long_text (cast_unsigned w32 s.expire) ++ long_text s.minimum)))

abbrev pub srv_text : SrvData → List ℕ
srv_text s =
    short_text s.priority ++ (short_text s.weight ++ (short_text s.port ++ wire_form s.target))

abbrev pub dnskey_text : DnskeyData → List ℕ
dnskey_text d = short_text d.flags ++ (d.protocol ∷ d.algorithm ∷ d.public_key)

-- a signature up to its signer
abbrev pub fixed_text : RrsigData → List ℕ
fixed_text s =
    short_text s.type_covered.0 ++ (s.algorithm ∷ s.num_labels ∷ (long_text s.original_ttl ++ (long_text s.expiration
    ++ (long_text s.inception ++ short_text s.key_tag))))

abbrev pub rrsig_text : RrsigData → List ℕ
rrsig_text s = fixed_text s ++ (wire_form s.signer_name ++ s.signature)

abbrev pub types_text : List RecordType → List ℕ
types_text ts = map_text 256 (numbers ts)

abbrev pub nsec_text : NsecData → List ℕ
nsec_text d = wire_form d.next_domain_name ++ types_text d.types

abbrev pub flags_of : Bool → ℕ
flags_of opt_out = if opt_out then 1 else 0

-- what NSEC3 and NSEC3PARAM begin with
abbrev pub hashing_text : ℕ → Bool → ℕ → List ℕ → List ℕ
hashing_text algorithm opt_out iterations salt =
    algorithm ∷ flags_of opt_out ∷ (short_text iterations ++ counted_text salt)

abbrev pub nsec3_text : Nsec3Data → List ℕ
nsec3_text d =
    hashing_text d.algorithm d.opt_out d.iterations d.salt
    ++ (counted_text d.next_hashed_owner_name ++ types_text d.types)

abbrev pub nsec3param_text : Nsec3paramData → List ℕ
nsec3param_text d = hashing_text d.algorithm d.opt_out d.iterations d.salt

-- the text of data
abbrev pub data_text : Cut → Cut → RData → List ℕ
data_text first second (V.A a) = a
data_text first second (V.AAAA a) = a
data_text first second (V.NS n) = name_text first n
data_text first second (V.CNAME n) = name_text first n
data_text first second (V.ANAME n) = wire_form n
data_text first second (V.SOA s) = name_text first s.mname ++ (name_text second s.rname ++ timers_text s)
data_text first second (V.MX d) = short_text d.preference ++ name_text first d.exchange
data_text first second (V.SRV d) = srv_text d
data_text first second (V.DNSKEY d) = dnskey_text d
data_text first second (V.NSEC d) = nsec_text d
data_text first second (V.NSEC3 d) = nsec3_text d
data_text first second (V.NSEC3PARAM d) = nsec3param_text d
data_text first second (V.RRSIG s) = rrsig_text s
data_text first second (V.Other d) = d.octets

-- Types that a map can have: they ascend, and none is passed over where the map is read.
pub record AreMapTypes (ts : List RecordType) : Type 0 where
  pub ascend : IsAscendingFrom 0 (numbers ts)
  pub kept : AllByRecursion (λ t. is_passed_over t ≡ false) (numbers ts)

-- octets of a type without a case of its own that are of its form, with no pointers in them (RFC 3597 section 4)
abbrev pub IsInForm : OtherData → Type 0
IsInForm d = (length d.octets ≤ 65535) × (plain_data_of d.record_type.0 d.octets ≡ Some (V.Other d))

-- Data that octets can be, 65,535 of them at most, each kind as the standard has it: those of a denial have types that a map can have,
-- NSEC one at least; a salt has at most 255 octets, and a hash 1 to 255; octets of a type with names in them are names in wire form;
-- and they are not of type 41, OPT's, since a message has one OPT record at most, that of its sender (RFC 6891 section 6.1.1).
abbrev pub IsWritable : RData → Type 0
IsWritable (V.DNSKEY d) = length d.public_key ≤ 65531
IsWritable (V.NSEC d) = (0 < length d.types) × AreMapTypes d.types
IsWritable (V.NSEC3 d) =
    (length d.salt ≤ 255) × (0 < length d.next_hashed_owner_name) × (length d.next_hashed_owner_name ≤ 255) × AreMapTypes d.types
IsWritable (V.NSEC3PARAM d) = length d.salt ≤ 255
IsWritable (V.RRSIG s) = wire_length s.signer_name + length s.signature ≤ 65517
IsWritable (V.Other d) = (d.record_type.0 ≡ 41 → ⊥) × IsInForm d
IsWritable _ = Unit {0}

-- the timers of an SOA are numbers of 32 bits
pub record AreTimers (s : SoaData) : Type 0 where
  pub refresh : FitsSigned w32 s.refresh
  pub retry : FitsSigned w32 s.retry
  pub expire : FitsSigned w32 s.expire

-- type numbers have 16 bits
abbrev pub AreTypeNumbers : List RecordType → Type 0
AreTypeNumbers ts = AllByRecursion (λ t. t < 65536) (numbers ts)

-- What holds of all data, by their types: addresses of so many octets, numbers within their range, and names.
abbrev pub IsSound : RData → Type 0
IsSound (V.A a) = length a ≡ 4
IsSound (V.AAAA a) = length a ≡ 16
IsSound (V.ANAME n) = IsName n
IsSound (V.SOA s) = AreTimers s
IsSound (V.SRV d) = IsName d.target
IsSound (V.NSEC d) = IsName d.next_domain_name × AreTypeNumbers d.types
IsSound (V.NSEC3 d) = AreTypeNumbers d.types
IsSound (V.RRSIG s) = IsName s.signer_name
IsSound _ = Unit {0}

-- a name, and a cut of it
pub record IsCutAt (before : List ℕ) (cut : Cut) (n : Name) : Type 0 where
  pub valid : IsName n
  pub there : IsCut before cut.labels cut.pointer n

-- the names in data that may have pointers (RFC 3597 section 4) are names, and the cuts are theirs
abbrev pub AreCutsOf : List ℕ → Cut → Cut → RData → Type 0
AreCutsOf before first second (V.NS n) = IsCutAt before first n
AreCutsOf before first second (V.CNAME n) = IsCutAt before first n
AreCutsOf before first second (V.MX d) = IsCutAt before first d.exchange
AreCutsOf before first second (V.SOA s) = IsCutAt before first s.mname × IsCutAt before second s.rname
AreCutsOf before first second _ = Unit {0}

abbrev pub AreShort : Cut → Cut → Type 0
AreShort first second = IsShort first.pointer × IsShort second.pointer

pub record AreCuts (before : List ℕ) (first second : Cut) (rdata : RData) : Type 0 where
  pub cuts : AreCutsOf before first second rdata
  pub short : AreShort first second

-- Written at an offset behind these octets, in each message that goes on with them, the text is read as these data; pointers stand only
-- where they may.
abbrev pub DataReadBack : List ℕ → ℕ → List ℕ → RData → Type 0
DataReadBack before t text rdata =
    (message rest : List ℕ) → Continues before rest message → (at : ℕ) → length before ≤ at
    → data_of t (message_for t message) at text ≡ Some rdata
