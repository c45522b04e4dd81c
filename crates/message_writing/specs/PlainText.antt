-- What is written of data by themselves, where no name has a pointer
use Rattle.std.specs.Prelude.{ℕ, List, ◌++◌}
use Rattle.zone_proto.specs.Names.{wire_form}
use Rattle.zone_proto.specs.declared.rdata.RData.{RData}
use Rattle.zone_proto.specs.declared.rdata.RData.TheVariants as V
use Rattle.message_writing.specs.DataText.{short_text, timers_text, srv_text, dnskey_text, nsec_text, nsec3_text, nsec3param_text, rrsig_text}

-- the data in wire form, names in full and in the case that they have (RFC 1035 section 3.3, RFC 4034 sections 2 to 4, RFC 5155 sections 3 and 4)
abbrev pub plain_text : RData → List ℕ
plain_text (V.A a) = a
plain_text (V.AAAA a) = a
plain_text (V.NS n) = wire_form n
plain_text (V.CNAME n) = wire_form n
plain_text (V.ANAME n) = wire_form n
plain_text (V.SOA s) = wire_form s.mname ++ (wire_form s.rname ++ timers_text s)
plain_text (V.MX d) = short_text d.preference ++ wire_form d.exchange
plain_text (V.SRV d) = srv_text d
plain_text (V.DNSKEY d) = dnskey_text d
plain_text (V.NSEC d) = nsec_text d
plain_text (V.NSEC3 d) = nsec3_text d
plain_text (V.NSEC3PARAM d) = nsec3param_text d
plain_text (V.RRSIG s) = rrsig_text s
plain_text (V.Other d) = d.octets
