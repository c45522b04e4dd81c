-- Data of records, their equality and their types
use Rattle.std.specs.Prelude.{ℕ, List, Bool, false, ◌==◌, ◌&&◌, nat_eq}
use Rattle.std.specs.Ordering.{int_eq}
use Rattle.std.specs.Bool.{beq as bool_eq}
use Rattle.std.specs.Cmp.Lexicographic.{pointwise}
use Rattle.zone_proto.specs.Names.{same_name}
use Rattle.zone_proto.specs.Types as types
use Rattle.zone_proto.specs.declared.record_type.RecordType.{RecordType}
use Rattle.zone_proto.specs.declared.rdata.start_of_authority.SOA.{SOA as SoaData}
use Rattle.zone_proto.specs.declared.rdata.mail_exchange.MX.{MX as MxData}
use Rattle.zone_proto.specs.declared.rdata.service.SRV.{SRV as SrvData}
use Rattle.zone_proto.specs.declared.rdata.signing.DNSKEY.{DNSKEY as DnskeyData}
use Rattle.zone_proto.specs.declared.rdata.denial.NSEC.{NSEC as NsecData}
use Rattle.zone_proto.specs.declared.rdata.denial.NSEC3.{NSEC3 as Nsec3Data}
use Rattle.zone_proto.specs.declared.rdata.denial.NSEC3PARAM.{NSEC3PARAM as Nsec3paramData}
use Rattle.zone_proto.specs.declared.rdata.signing.RRSIG.{RRSIG as RrsigData}
use Rattle.zone_proto.specs.declared.rdata.other.OtherData.{OtherData}
use Rattle.zone_proto.specs.declared.rdata.RData.{RData}
use Rattle.zone_proto.specs.declared.rdata.RData.TheVariants as V

-- two lists of octets are equal
abbrev pub same_octets : List ℕ → List ℕ → Bool
same_octets = pointwise nat_eq

-- two lists of types are equal
abbrev pub same_types : List RecordType → List RecordType → Bool
same_types = pointwise (λ a b. a.0 == b.0)

-- parts of data are equal part by part, names ignoring case (RFC 4034 section 6.2 lists the names in data) the start of
-- a zone
abbrev pub same_soa : SoaData → SoaData → Bool
same_soa a b =
    same_name a.mname b.mname && (same_name a.rname b.rname && (a.serial == b.serial
    && (int_eq a.refresh b.refresh && (int_eq a.retry b.retry && (int_eq a.expire b.expire
    && (a.minimum == b.minimum))))))

-- a mail exchange
abbrev pub same_mx : MxData → MxData → Bool
same_mx a b = a.preference == b.preference && (same_name a.exchange b.exchange)

-- a server of a service
abbrev pub same_srv : SrvData → SrvData → Bool
same_srv a b =
    a.priority == b.priority && (a.weight == b.weight && (a.port == b.port
    && (same_name a.target b.target)))

-- a key
abbrev pub same_dnskey : DnskeyData → DnskeyData → Bool
same_dnskey a b =
    a.flags == b.flags && (a.protocol == b.protocol && (a.algorithm == b.algorithm
    && (same_octets a.public_key b.public_key)))

-- a denial by names
abbrev pub same_nsec : NsecData → NsecData → Bool
same_nsec a b = same_name a.next_domain_name b.next_domain_name && (same_types a.types b.types)

-- a denial by hashed names
abbrev pub same_nsec3 : Nsec3Data → Nsec3Data → Bool
same_nsec3 a b =
    a.algorithm == b.algorithm && (bool_eq a.opt_out b.opt_out
    && (a.iterations == b.iterations && (same_octets a.salt b.salt
    && (same_octets a.next_hashed_owner_name b.next_hashed_owner_name
    && (same_types a.types b.types)))))

-- the parameters of the hashes
abbrev pub same_nsec3param : Nsec3paramData → Nsec3paramData → Bool
same_nsec3param a b =
    a.algorithm == b.algorithm && (bool_eq a.opt_out b.opt_out
    && (a.iterations == b.iterations && (same_octets a.salt b.salt)))

-- a signature
abbrev pub same_rrsig : RrsigData → RrsigData → Bool
same_rrsig a b =
    a.type_covered.0 == b.type_covered.0 && (a.algorithm == b.algorithm
    && (a.num_labels == b.num_labels && (a.original_ttl == b.original_ttl
    && (a.expiration == b.expiration && (a.inception == b.inception
    && (a.key_tag == b.key_tag && (same_name a.signer_name b.signer_name
    && (same_octets a.signature b.signature))))))))

-- data that are octets
abbrev pub same_other : OtherData → OtherData → Bool
same_other a b = a.record_type.0 == b.record_type.0 && (same_octets a.octets b.octets)

-- data are equal by all parts, names ignoring case
abbrev pub same_data : RData → RData → Bool
same_data (V.A a) (V.A b) = same_octets a b
same_data (V.AAAA a) (V.AAAA b) = same_octets a b
same_data (V.NS a) (V.NS b) = same_name a b
same_data (V.CNAME a) (V.CNAME b) = same_name a b
same_data (V.ANAME a) (V.ANAME b) = same_name a b
same_data (V.SOA a) (V.SOA b) = same_soa a b
same_data (V.MX a) (V.MX b) = same_mx a b
same_data (V.SRV a) (V.SRV b) = same_srv a b
same_data (V.DNSKEY a) (V.DNSKEY b) = same_dnskey a b
same_data (V.NSEC a) (V.NSEC b) = same_nsec a b
same_data (V.NSEC3 a) (V.NSEC3 b) = same_nsec3 a b
same_data (V.NSEC3PARAM a) (V.NSEC3PARAM b) = same_nsec3param a b
same_data (V.RRSIG a) (V.RRSIG b) = same_rrsig a b
same_data (V.Other a) (V.Other b) = same_other a b
same_data _ _ = false

-- the type of data, by its number
abbrev pub type_of : RData → ℕ
type_of (V.A a) = types.A
type_of (V.AAAA a) = types.AAAA
type_of (V.NS a) = types.NS
type_of (V.CNAME a) = types.CNAME
type_of (V.ANAME a) = types.ANAME
type_of (V.SOA a) = types.SOA
type_of (V.MX a) = types.MX
type_of (V.SRV a) = types.SRV
type_of (V.DNSKEY a) = types.DNSKEY
type_of (V.NSEC a) = types.NSEC
type_of (V.NSEC3 a) = types.NSEC3
type_of (V.NSEC3PARAM a) = types.NSEC3PARAM
type_of (V.RRSIG a) = types.RRSIG
type_of (V.Other a) = a.record_type.0
