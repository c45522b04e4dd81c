-- Data of each type, read back
use Rattle.std.proofs.Common.{ℕ, List}
use Rattle.zone_proto.specs.Data.{type_of}
use Rattle.zone_proto.specs.declared.rdata.RData.{RData}
use Rattle.zone_proto.specs.declared.rdata.RData.TheVariants as V
use Rattle.message_writing.specs.declared.name_writer.Cut.{Cut}
use Rattle.message_writing.specs.DataText.{DataReadBack, IsWritable, IsSound, AreCutsOf, data_text}
use Rattle.message_writing.proofs.DataBack.{a_back, aaaa_back, ns_back, cname_back, aname_back, soa_back, mx_back, srv_back, dnskey_back, rrsig_back}
use Rattle.message_writing.proofs.OthersBack.{other_back}
use Rattle.message_writing.proofs.MapTypes.{types_back, some_octets}
use Rattle.message_writing.proofs.DenialBack.{nsec_back, nsec3_back, nsec3param_back}

pub data_back : (before : List ℕ) (first second : Cut) (d : RData) → IsWritable d → IsSound d → AreCutsOf before first second d
    → DataReadBack before (type_of d) (data_text first second d) d
data_back before first second (V.A a) w s c = a_back before a s
data_back before first second (V.AAAA a) w s c = aaaa_back before a s
data_back before first second (V.NS n) w s c = ns_back before first.labels first.pointer n c.there c.valid
data_back before first second (V.CNAME n) w s c = cname_back before first.labels first.pointer n c.there c.valid
data_back before first second (V.ANAME n) w s c = aname_back before n s
data_back before first second (V.SOA d) w s c =
    soa_back before first.labels second.labels first.pointer second.pointer d c.0.there c.1.there c.0.valid c.1.valid s
data_back before first second (V.MX d) w s c = mx_back before first.labels first.pointer d c.there c.valid
data_back before first second (V.SRV d) w s c = srv_back before d s
data_back before first second (V.DNSKEY d) w s c = dnskey_back before d
data_back before first second (V.NSEC d) w s c = nsec_back before d s.0 (some_octets d.types w.0) (types_back d.types w.1 s.1)
data_back before first second (V.NSEC3 d) w s c = nsec3_back before d w.1 (types_back d.types w.3 s)
data_back before first second (V.NSEC3PARAM d) w s c = nsec3param_back before d
data_back before first second (V.RRSIG d) w s c = rrsig_back before d s
data_back before first second (V.Other d) w s c = other_back before d w.1
