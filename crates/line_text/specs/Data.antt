-- The data of a record by their type: how they are read and printed, and which are read as they are printed
use Rattle.std.specs.Prelude.{◌<◌, ℕ, ◌==◌, List, if◌then◌else◌}
use Rattle.std.specs.List.{AllByRecursion}
use Rattle.zone_proto.specs.declared.rdata.RData.{RData}
use Rattle.zone_proto.specs.declared.rdata.RData.TheVariants as V
use Rattle.zone_proto.specs.Names.{IsName}
use Rattle.zone_proto.specs.Ranges.{IsOctet}
use Rattle.zone_proto.specs.Text.{name_text}
use Rattle.zone_proto.specs.Types as types
use Rattle.line_text.specs.Addresses.{ipv4_of_text, ipv4_text, ipv6_of_text, ipv6_text, IsOctets}
use Rattle.line_text.specs.Denial.{nsec_text, nsec3_text, nsec3_parameters_text}
use Rattle.line_text.specs.Hex.{hex_text}
use Rattle.line_text.specs.MailExchange.{mx_text, next_mx, IsReadableMx}
use Rattle.line_text.specs.Other.{next_other}
use Rattle.line_text.specs.Reading.{WordList, Reading, next_name, next_word, read_as}
use Rattle.line_text.specs.Service.{next_srv, srv_text, IsReadableSrv}
use Rattle.line_text.specs.Signing.{key_text, signature_text}
use Rattle.line_text.specs.StartOfAuthority.{next_soa, soa_text, IsReadableSoa}

-- the data of a type; of a type without a case of its own, one word of hex
abbrev pub next_data : ℕ → WordList → Reading RData
next_data t ws =
    if t == types.A then read_as V.A (next_word ipv4_of_text ws)
    else (if t == types.AAAA then read_as V.AAAA (next_word ipv6_of_text ws)
    else (if t == types.NS then read_as V.NS (next_name ws)
    else (if t == types.CNAME then read_as V.CNAME (next_name ws)
    else (if t == types.ANAME then read_as V.ANAME (next_name ws)
    else (if t == types.SOA then read_as V.SOA (next_soa ws)
    else (if t == types.MX then read_as V.MX (next_mx ws)
    else (if t == types.SRV then read_as V.SRV (next_srv ws)
    else next_other t ws)))))))

-- their parts in the order of the type's standard; octets of a type without a case of its own in hex
abbrev pub data_text : RData → List ℕ
data_text (V.A a) = ipv4_text a
data_text (V.AAAA a) = ipv6_text a
data_text (V.NS n) = name_text n
data_text (V.CNAME n) = name_text n
data_text (V.ANAME n) = name_text n
data_text (V.SOA d) = soa_text d
data_text (V.MX d) = mx_text d
data_text (V.SRV d) = srv_text d
data_text (V.DNSKEY d) = key_text d
data_text (V.NSEC d) = nsec_text d
data_text (V.NSEC3 d) = nsec3_text d
data_text (V.NSEC3PARAM d) = nsec3_parameters_text d
data_text (V.RRSIG d) = signature_text d
data_text (V.Other d) = hex_text d.octets

-- data of a form that is read: of any type but DNSKEY, NSEC, NSEC3, NSEC3PARAM and RRSIG, with timers that are not below
-- zero. The parts are in the range of their types, as those of each value of the program are.
abbrev pub IsReadableData : RData → Type 0
IsReadableData (V.A a) = IsOctets 4 a
IsReadableData (V.AAAA a) = IsOctets 16 a
IsReadableData (V.NS n) = IsName n
IsReadableData (V.CNAME n) = IsName n
IsReadableData (V.ANAME n) = IsName n
IsReadableData (V.SOA d) = IsReadableSoa d
IsReadableData (V.MX d) = IsReadableMx d
IsReadableData (V.SRV d) = IsReadableSrv d
IsReadableData (V.DNSKEY d) = ⊥
IsReadableData (V.NSEC d) = ⊥
IsReadableData (V.NSEC3 d) = ⊥
IsReadableData (V.NSEC3PARAM d) = ⊥
IsReadableData (V.RRSIG d) = ⊥
IsReadableData (V.Other d) = (d.record_type.0 < 65536) × AllByRecursion IsOctet d.octets
