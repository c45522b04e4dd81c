-- Which records are read as they are printed
use Rattle.std.specs.Prelude.{◌≡◌, ◌≢◌, ◌≤◌, ◌<◌, ℕ, ◌+◌, List, [], ◌∷◌, false, length, Some}
use Rattle.std.specs.Int.{w32}
use Rattle.std.specs.Int.RustNames.{FitsSigned}
use Rattle.std.specs.List.{AllByRecursion}
use Rattle.zone_proto.specs.declared.record.Record.{Record}
use Rattle.zone_proto.specs.declared.record_type.RecordType.{RecordType}
use Rattle.zone_proto.specs.declared.rdata.RData.{RData}
use Rattle.zone_proto.specs.declared.rdata.RData.TheVariants as V
use Rattle.zone_proto.specs.declared.rdata.start_of_authority.SOA.{SOA as SoaData}
use Rattle.zone_proto.specs.declared.rdata.signing.DNSKEY.{DNSKEY as KeyData}
use Rattle.zone_proto.specs.declared.rdata.signing.RRSIG.{RRSIG as SignatureData}
use Rattle.zone_proto.specs.declared.rdata.denial.NSEC.{NSEC as DenialData}
use Rattle.zone_proto.specs.declared.rdata.denial.NSEC3.{NSEC3 as HashedData}
use Rattle.zone_proto.specs.declared.rdata.denial.NSEC3PARAM.{NSEC3PARAM as HashParameters}
use Rattle.zone_proto.specs.declared.rdata.other.OtherData.{OtherData}
use Rattle.zone_proto.specs.Names.{IsName}
use Rattle.zone_proto.specs.Ranges.{IsOctet}
use Rattle.zone_proto.specs.Types.{IN}
use Rattle.line_text.specs.Addresses.{IsOctets}
use Rattle.line_text.specs.MailExchange.{IsReadableMx}
use Rattle.line_text.specs.Service.{IsReadableSrv}
use Rattle.message_reading.specs.DataForms.{plain_data_of}
use Rattle.record_fields.specs.Fields.{is_of_messages}
use Rattle.zone_file.specs.Data.{data_size}
use Rattle.zone_file_writer.specs.Printing.{master_text}

-- The parts are in the range of their types, as those of each value of the program are.
abbrev pub AreOctets : List ℕ → Type 0
AreOctets = AllByRecursion IsOctet

-- a type that records have
pub record IsRecordType (t : RecordType) : Type 0 where
  pub range : t.0 < 65536
  pub records : is_of_messages t.0 ≡ false

-- such types in ascending order, from this number on, each once
abbrev pub AreTypesFrom : ℕ → List RecordType → Type 0
AreTypesFrom least [] = Unit {0}
AreTypesFrom least (t ∷ ts) = (least ≤ t.0) × IsRecordType t × AreTypesFrom (t.0 + 1) ts

-- an SOA
pub record IsPrintableSoa (d : SoaData) : Type 0 where
  pub mname : IsName d.mname
  pub rname : IsName d.rname
  pub serial : d.serial < 4294967296
  pub refresh : FitsSigned w32 d.refresh
  pub retry : FitsSigned w32 d.retry
  pub expire : FitsSigned w32 d.expire
  pub minimum : d.minimum < 4294967296

-- a DNSKEY with a key
pub record IsPrintableKey (d : KeyData) : Type 0 where
  pub flags : d.flags < 65536
  pub protocol : d.protocol < 256
  pub algorithm : d.algorithm < 256
  pub octets : AreOctets d.public_key
  pub some : d.public_key ≢ []

-- an RRSIG with a signature
pub record IsPrintableSignature (d : SignatureData) : Type 0 where
  pub covered : IsRecordType d.type_covered
  pub algorithm : d.algorithm < 256
  pub labels : d.num_labels < 256
  pub ttl : d.original_ttl < 4294967296
  pub expiration : d.expiration < 4294967296
  pub inception : d.inception < 4294967296
  pub tag : d.key_tag < 65536
  pub signer : IsName d.signer_name
  pub octets : AreOctets d.signature
  pub some : d.signature ≢ []

-- an NSEC
pub record IsPrintableDenial (d : DenialData) : Type 0 where
  pub next : IsName d.next_domain_name
  pub some : 0 < length d.types
  pub types : AreTypesFrom 0 d.types

-- an NSEC3 with a hash, whose salt and hash an octet counts each
pub record IsPrintableHashed (d : HashedData) : Type 0 where
  pub algorithm : d.algorithm < 256
  pub iterations : d.iterations < 65536
  pub salt : AreOctets d.salt
  pub short : length d.salt ≤ 255
  pub hash : AreOctets d.next_hashed_owner_name
  pub some : d.next_hashed_owner_name ≢ []
  pub short_hash : length d.next_hashed_owner_name ≤ 255
  pub types : AreTypesFrom 0 d.types

-- an NSEC3PARAM, whose salt an octet counts
pub record IsPrintableParameters (d : HashParameters) : Type 0 where
  pub algorithm : d.algorithm < 256
  pub iterations : d.iterations < 65536
  pub salt : AreOctets d.salt
  pub short : length d.salt ≤ 255

-- data of a type without a case of its own, which are in the form of the type
pub record IsPrintableOther (d : OtherData) : Type 0 where
  pub record_type : IsRecordType d.record_type
  pub octets : AreOctets d.octets
  pub form : plain_data_of d.record_type.0 d.octets ≡ Some (V.Other d)

-- data of any type
abbrev pub IsPrintableData : RData → Type 0
IsPrintableData (V.A a) = IsOctets 4 a
IsPrintableData (V.AAAA a) = IsOctets 16 a
IsPrintableData (V.NS n) = IsName n
IsPrintableData (V.CNAME n) = IsName n
IsPrintableData (V.ANAME n) = IsName n
IsPrintableData (V.SOA d) = IsPrintableSoa d
IsPrintableData (V.MX d) = IsReadableMx d
IsPrintableData (V.SRV d) = IsReadableSrv d
IsPrintableData (V.DNSKEY d) = IsPrintableKey d
IsPrintableData (V.NSEC d) = IsPrintableDenial d
IsPrintableData (V.NSEC3 d) = IsPrintableHashed d
IsPrintableData (V.NSEC3PARAM d) = IsPrintableParameters d
IsPrintableData (V.RRSIG d) = IsPrintableSignature d
IsPrintableData (V.Other d) = IsPrintableOther d

-- a record of class IN with such data, which aren't longer than data can be, as an entry that isn't longer than one can be
pub record IsPrintable (r : Record) : Type 0 where
  pub owner : IsName r.name
  pub ttl : r.ttl < 2147483648
  pub class : r.dns_class.0 ≡ IN
  pub rdata : IsPrintableData r.rdata
  pub size : data_size r.rdata ≤ 65535
  pub entry : length (master_text r) ≤ 1048576
