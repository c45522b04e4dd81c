-- The equalities of data and records are equivalences
use Rattle.std.specs.Prelude.{◌≡◌, ◌==◌, ℕ, List, true, refl}
use Rattle.std.specs.Ordering.{on}
use Rattle.std.specs.Cmp.{IsEquivalence, nat_eq_equiv, int_eq_equiv, bool_eq_equiv, on_equiv, and_equiv}
use Rattle.std.specs.Cmp.Lexicographic.{lists_equiv}
use Rattle.zone_proto.specs.Names.{Name, same_name}
use Rattle.zone_proto.specs.NameLaws.{caseless_eq_equiv}
use Rattle.zone_proto.specs.Data.{same_octets, same_types, same_soa, same_mx, same_srv, same_dnskey, same_nsec, same_nsec3, same_nsec3param, same_rrsig, same_other, same_data}
use Rattle.zone_proto.specs.declared.rdata.start_of_authority.SOA.{SOA as SoaData}
use Rattle.zone_proto.specs.declared.rdata.mail_exchange.MX.{MX as MxData}
use Rattle.zone_proto.specs.declared.rdata.service.SRV.{SRV as SrvData}
use Rattle.zone_proto.specs.declared.rdata.signing.DNSKEY.{DNSKEY as DnskeyData}
use Rattle.zone_proto.specs.declared.rdata.denial.NSEC.{NSEC as NsecData}
use Rattle.zone_proto.specs.declared.rdata.denial.NSEC3.{NSEC3 as Nsec3Data}
use Rattle.zone_proto.specs.declared.rdata.denial.NSEC3PARAM.{NSEC3PARAM as Nsec3paramData}
use Rattle.zone_proto.specs.declared.rdata.signing.RRSIG.{RRSIG as RrsigData}
use Rattle.zone_proto.specs.declared.rdata.other.OtherData.{OtherData}
use Rattle.zone_proto.specs.declared.record_type.RecordType.{RecordType}
use Rattle.zone_proto.specs.Records.{same_record}
use Rattle.zone_proto.specs.declared.dns_class.DNSClass.{DNSClass}
use Rattle.zone_proto.specs.declared.record.Record.{Record}
use Rattle.zone_proto.specs.declared.rdata.RData.{RData}
use Rattle.zone_proto.specs.declared.rdata.RData.TheVariants as V

octets_equiv : IsEquivalence same_octets
octets_equiv = lists_equiv nat_eq_equiv

types_equiv : IsEquivalence same_types
types_equiv = lists_equiv (on_equiv (λ (t : RecordType). t.0) nat_eq_equiv)

soa_equiv : IsEquivalence same_soa
soa_equiv = and_equiv (on_equiv (λ (d : SoaData). d.mname) caseless_eq_equiv) (and_equiv (on_equiv (λ (d : SoaData). d.rname) caseless_eq_equiv) (and_equiv (on_equiv (λ (d : SoaData). d.serial) nat_eq_equiv) (and_equiv (on_equiv (λ (d : SoaData). d.refresh) int_eq_equiv) (and_equiv (on_equiv (λ (d : SoaData). d.retry) int_eq_equiv) (and_equiv (on_equiv (λ (d : SoaData). d.expire) int_eq_equiv) (on_equiv (λ (d : SoaData). d.minimum) nat_eq_equiv))))))

mx_equiv : IsEquivalence same_mx
mx_equiv = and_equiv (on_equiv (λ (d : MxData). d.preference) nat_eq_equiv) (on_equiv (λ (d : MxData). d.exchange) caseless_eq_equiv)

srv_equiv : IsEquivalence same_srv
srv_equiv = and_equiv (on_equiv (λ (d : SrvData). d.priority) nat_eq_equiv) (and_equiv (on_equiv (λ (d : SrvData). d.weight) nat_eq_equiv) (and_equiv (on_equiv (λ (d : SrvData). d.port) nat_eq_equiv) (on_equiv (λ (d : SrvData). d.target) caseless_eq_equiv)))

dnskey_equiv : IsEquivalence same_dnskey
dnskey_equiv = and_equiv (on_equiv (λ (d : DnskeyData). d.flags) nat_eq_equiv) (and_equiv (on_equiv (λ (d : DnskeyData). d.protocol) nat_eq_equiv) (and_equiv (on_equiv (λ (d : DnskeyData). d.algorithm) nat_eq_equiv) (on_equiv (λ (d : DnskeyData). d.public_key) octets_equiv)))

nsec_equiv : IsEquivalence same_nsec
nsec_equiv = and_equiv (on_equiv (λ (d : NsecData). d.next_domain_name) caseless_eq_equiv) (on_equiv (λ (d : NsecData). d.types) types_equiv)

nsec3_equiv : IsEquivalence same_nsec3
nsec3_equiv = and_equiv (on_equiv (λ (d : Nsec3Data). d.algorithm) nat_eq_equiv) (and_equiv (on_equiv (λ (d : Nsec3Data). d.opt_out) bool_eq_equiv) (and_equiv (on_equiv (λ (d : Nsec3Data). d.iterations) nat_eq_equiv) (and_equiv (on_equiv (λ (d : Nsec3Data). d.salt) octets_equiv) (and_equiv (on_equiv (λ (d : Nsec3Data). d.next_hashed_owner_name) octets_equiv) (on_equiv (λ (d : Nsec3Data). d.types) types_equiv)))))

nsec3param_equiv : IsEquivalence same_nsec3param
nsec3param_equiv = and_equiv (on_equiv (λ (d : Nsec3paramData). d.algorithm) nat_eq_equiv) (and_equiv (on_equiv (λ (d : Nsec3paramData). d.opt_out) bool_eq_equiv) (and_equiv (on_equiv (λ (d : Nsec3paramData). d.iterations) nat_eq_equiv) (on_equiv (λ (d : Nsec3paramData). d.salt) octets_equiv)))

rrsig_equiv : IsEquivalence same_rrsig
rrsig_equiv = and_equiv (on_equiv (λ (d : RrsigData). d.type_covered.0) nat_eq_equiv) (and_equiv (on_equiv (λ (d : RrsigData). d.algorithm) nat_eq_equiv) (and_equiv (on_equiv (λ (d : RrsigData). d.num_labels) nat_eq_equiv) (and_equiv (on_equiv (λ (d : RrsigData). d.original_ttl) nat_eq_equiv) (and_equiv (on_equiv (λ (d : RrsigData). d.expiration) nat_eq_equiv) (and_equiv (on_equiv (λ (d : RrsigData). d.inception) nat_eq_equiv) (and_equiv (on_equiv (λ (d : RrsigData). d.key_tag) nat_eq_equiv) (and_equiv (on_equiv (λ (d : RrsigData). d.signer_name) caseless_eq_equiv) (on_equiv (λ (d : RrsigData). d.signature) octets_equiv))))))))

other_equiv : IsEquivalence same_other
other_equiv = and_equiv (on_equiv (λ (d : OtherData). d.record_type.0) nat_eq_equiv) (on_equiv (λ (d : OtherData). d.octets) octets_equiv)

data_refl : (a : RData) → same_data a a ≡ true
data_refl (V.A a) = octets_equiv.refl a
data_refl (V.AAAA a) = octets_equiv.refl a
data_refl (V.NS a) = caseless_eq_equiv.refl a
data_refl (V.CNAME a) = caseless_eq_equiv.refl a
data_refl (V.ANAME a) = caseless_eq_equiv.refl a
data_refl (V.SOA a) = soa_equiv.refl a
data_refl (V.MX a) = mx_equiv.refl a
data_refl (V.SRV a) = srv_equiv.refl a
data_refl (V.DNSKEY a) = dnskey_equiv.refl a
data_refl (V.NSEC a) = nsec_equiv.refl a
data_refl (V.NSEC3 a) = nsec3_equiv.refl a
data_refl (V.NSEC3PARAM a) = nsec3param_equiv.refl a
data_refl (V.RRSIG a) = rrsig_equiv.refl a
data_refl (V.Other a) = other_equiv.refl a

data_symm : (a b : RData) → same_data a b ≡ same_data b a
data_symm (V.A a) (V.A b) = octets_equiv.symm a b
data_symm (V.AAAA a) (V.AAAA b) = octets_equiv.symm a b
data_symm (V.NS a) (V.NS b) = caseless_eq_equiv.symm a b
data_symm (V.CNAME a) (V.CNAME b) = caseless_eq_equiv.symm a b
data_symm (V.ANAME a) (V.ANAME b) = caseless_eq_equiv.symm a b
data_symm (V.SOA a) (V.SOA b) = soa_equiv.symm a b
data_symm (V.MX a) (V.MX b) = mx_equiv.symm a b
data_symm (V.SRV a) (V.SRV b) = srv_equiv.symm a b
data_symm (V.DNSKEY a) (V.DNSKEY b) = dnskey_equiv.symm a b
data_symm (V.NSEC a) (V.NSEC b) = nsec_equiv.symm a b
data_symm (V.NSEC3 a) (V.NSEC3 b) = nsec3_equiv.symm a b
data_symm (V.NSEC3PARAM a) (V.NSEC3PARAM b) = nsec3param_equiv.symm a b
data_symm (V.RRSIG a) (V.RRSIG b) = rrsig_equiv.symm a b
data_symm (V.Other a) (V.Other b) = other_equiv.symm a b
data_symm _ _ = refl

-- data equal to some are equal to the same as these
a_congr : (a b : List ℕ) (c : RData) → same_octets a b ≡ true → same_data (V.A a) c ≡ same_data (V.A b) c
a_congr a b (V.A c) h = octets_equiv.congr a b c h
a_congr a b _ h = refl

aaaa_congr : (a b : List ℕ) (c : RData) → same_octets a b ≡ true → same_data (V.AAAA a) c ≡ same_data (V.AAAA b) c
aaaa_congr a b (V.AAAA c) h = octets_equiv.congr a b c h
aaaa_congr a b _ h = refl

ns_congr : (a b : Name) (c : RData) → same_name a b ≡ true → same_data (V.NS a) c ≡ same_data (V.NS b) c
ns_congr a b (V.NS c) h = caseless_eq_equiv.congr a b c h
ns_congr a b _ h = refl

cname_congr : (a b : Name) (c : RData) → same_name a b ≡ true → same_data (V.CNAME a) c ≡ same_data (V.CNAME b) c
cname_congr a b (V.CNAME c) h = caseless_eq_equiv.congr a b c h
cname_congr a b _ h = refl

aname_congr : (a b : Name) (c : RData) → same_name a b ≡ true → same_data (V.ANAME a) c ≡ same_data (V.ANAME b) c
aname_congr a b (V.ANAME c) h = caseless_eq_equiv.congr a b c h
aname_congr a b _ h = refl

soa_congr : (a b : SoaData) (c : RData) → same_soa a b ≡ true → same_data (V.SOA a) c ≡ same_data (V.SOA b) c
soa_congr a b (V.SOA c) h = soa_equiv.congr a b c h
soa_congr a b _ h = refl

mx_congr : (a b : MxData) (c : RData) → same_mx a b ≡ true → same_data (V.MX a) c ≡ same_data (V.MX b) c
mx_congr a b (V.MX c) h = mx_equiv.congr a b c h
mx_congr a b _ h = refl

srv_congr : (a b : SrvData) (c : RData) → same_srv a b ≡ true → same_data (V.SRV a) c ≡ same_data (V.SRV b) c
srv_congr a b (V.SRV c) h = srv_equiv.congr a b c h
srv_congr a b _ h = refl

dnskey_congr : (a b : DnskeyData) (c : RData) → same_dnskey a b ≡ true → same_data (V.DNSKEY a) c ≡ same_data (V.DNSKEY b) c
dnskey_congr a b (V.DNSKEY c) h = dnskey_equiv.congr a b c h
dnskey_congr a b _ h = refl

nsec_congr : (a b : NsecData) (c : RData) → same_nsec a b ≡ true → same_data (V.NSEC a) c ≡ same_data (V.NSEC b) c
nsec_congr a b (V.NSEC c) h = nsec_equiv.congr a b c h
nsec_congr a b _ h = refl

nsec3_congr : (a b : Nsec3Data) (c : RData) → same_nsec3 a b ≡ true → same_data (V.NSEC3 a) c ≡ same_data (V.NSEC3 b) c
nsec3_congr a b (V.NSEC3 c) h = nsec3_equiv.congr a b c h
nsec3_congr a b _ h = refl

nsec3param_congr : (a b : Nsec3paramData) (c : RData) → same_nsec3param a b ≡ true → same_data (V.NSEC3PARAM a) c ≡ same_data (V.NSEC3PARAM b) c
nsec3param_congr a b (V.NSEC3PARAM c) h = nsec3param_equiv.congr a b c h
nsec3param_congr a b _ h = refl

rrsig_congr : (a b : RrsigData) (c : RData) → same_rrsig a b ≡ true → same_data (V.RRSIG a) c ≡ same_data (V.RRSIG b) c
rrsig_congr a b (V.RRSIG c) h = rrsig_equiv.congr a b c h
rrsig_congr a b _ h = refl

other_congr : (a b : OtherData) (c : RData) → same_other a b ≡ true → same_data (V.Other a) c ≡ same_data (V.Other b) c
other_congr a b (V.Other c) h = other_equiv.congr a b c h
other_congr a b _ h = refl

data_congr : (a b c : RData) → same_data a b ≡ true → same_data a c ≡ same_data b c
data_congr (V.A a) (V.A b) c h = a_congr a b c h
data_congr (V.AAAA a) (V.AAAA b) c h = aaaa_congr a b c h
data_congr (V.NS a) (V.NS b) c h = ns_congr a b c h
data_congr (V.CNAME a) (V.CNAME b) c h = cname_congr a b c h
data_congr (V.ANAME a) (V.ANAME b) c h = aname_congr a b c h
data_congr (V.SOA a) (V.SOA b) c h = soa_congr a b c h
data_congr (V.MX a) (V.MX b) c h = mx_congr a b c h
data_congr (V.SRV a) (V.SRV b) c h = srv_congr a b c h
data_congr (V.DNSKEY a) (V.DNSKEY b) c h = dnskey_congr a b c h
data_congr (V.NSEC a) (V.NSEC b) c h = nsec_congr a b c h
data_congr (V.NSEC3 a) (V.NSEC3 b) c h = nsec3_congr a b c h
data_congr (V.NSEC3PARAM a) (V.NSEC3PARAM b) c h = nsec3param_congr a b c h
data_congr (V.RRSIG a) (V.RRSIG b) c h = rrsig_congr a b c h
data_congr (V.Other a) (V.Other b) c h = other_congr a b c h
data_congr _ _ c h = cc

pub same_data_equiv : IsEquivalence same_data
same_data_equiv = record { refl = data_refl; symm = data_symm; congr = data_congr }

class_equiv : IsEquivalence (on (λ (c : DNSClass). c.0) ◌==◌)
class_equiv = on_equiv (λ (c : DNSClass). c.0) nat_eq_equiv

pub same_record_equiv : IsEquivalence same_record
same_record_equiv =
    and_equiv (on_equiv (λ (r : Record). r.name) caseless_eq_equiv)
    (and_equiv (on_equiv (λ (r : Record). r.dns_class) class_equiv)
    (on_equiv (λ (r : Record). r.rdata) same_data_equiv))
