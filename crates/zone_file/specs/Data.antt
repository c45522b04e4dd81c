-- The data of records, by their types
use Rattle.std.specs.Prelude.{◌≡◌, ℕ, ◌==◌, ◌+◌, List, [], Bool, true, false, Option, Some, None, Result, Ok, Err, length, refl, if◌then◌else◌}
use Rattle.zone_proto.specs.declared.rdata.start_of_authority.SOA.{SOA as SoaData}
use Rattle.zone_proto.specs.declared.rdata.mail_exchange.MX.{MX as MxData}
use Rattle.zone_proto.specs.declared.rdata.service.SRV.{SRV as SrvData}
use Rattle.zone_proto.specs.declared.rdata.RData.{RData}
use Rattle.zone_proto.specs.declared.rdata.RData.TheVariants as V
use Rattle.zone_proto.specs.Names.{Name}
use Rattle.zone_proto.specs.Types as types
use Rattle.zone_proto.specs.Types.{has_own_case}
use Rattle.message_reading.specs.DataForms.{plain_data_of, signed}
use Rattle.zone_tokens.specs.Addresses.{ipv4_of_word, ipv6_of_word}
use Rattle.record_fields.specs.declared.fault.Reason.TheVariants as reason
use Rattle.record_fields.specs.Readings.{fault, ◌>>=◌}
use Rattle.zone_file.specs.Denials.{next_nsec, next_nsec3, next_nsec3param}
use Rattle.record_fields.specs.Fields.{Left, Reading, next, next_name, next_timer, next_u16, next_u32, or_fault}
use Rattle.zone_file.specs.Keys.{next_dnskey, next_rrsig}
use Rattle.record_fields.specs.declared.table.Row.{Row}
use Rattle.record_fields.specs.Rows.{next_row, row_of}
use Rattle.record_fields.specs.Texts.{is_generic, next_generic}

-- what was read as this
abbrev pub read_as : {X Y : Type 0} → (X → Y) → Reading X → Reading Y
read_as f r = r >>= λ x. Ok (f x.0, x.1)

-- SOA: the parts of RFC 1035 section 3.3.13, in its order; timers have 32 bits, and are kept as numbers with a sign
unfoldable pub next_soa : Name → Left → Reading SoaData
next_soa origin l = do
  mname ← next_name origin l
  rname ← next_name origin mname.1
  serial ← next_u32 rname.1
  refresh ← next_timer serial.1
  retry ← next_timer refresh.1
  expire ← next_timer retry.1
  minimum ← next_timer expire.1
  Ok (
    record {
      mname = mname.0;
      rname = rname.0;
      serial = serial.0;
      refresh = signed refresh.0;
      retry = signed retry.0;
      expire = signed expire.0;
      minimum = minimum.0;
    },
    minimum.1,
  )

-- MX: RFC 1035 section 3.3.9
unfoldable pub next_mx : Name → Left → Reading MxData
next_mx origin l = do
  preference ← next_u16 l
  exchange ← next_name origin preference.1
  Ok (record { preference = preference.0; exchange = exchange.0 }, exchange.1)

-- SRV: RFC 2782
unfoldable pub next_srv : Name → Left → Reading SrvData
next_srv origin l = do
  priority ← next_u16 l
  weight ← next_u16 priority.1
  port ← next_u16 weight.1
  target ← next_name origin port.1
  Ok (record { priority = priority.0; weight = weight.0; port = port.0; target = target.0 }, target.1)

-- what octets are as the data of a type; of a type with a case of its own, in its wire form without pointers
abbrev pub next_data_octets : ℕ → Left → Reading RData
next_data_octets t l = next_generic l >>= λ os. or_fault (plain_data_of t os.0) reason.Octets os.1

-- octets as the data of a type without a case of its own
abbrev pub other_unless_own : (t : ℕ) → List ℕ → (b : Bool) → has_own_case t ≡ b → Option RData
other_unless_own t os true own = None
other_unless_own t os false own = Some (V.Other (record { record_type = record { 0 = t }; octets = os; other = own }))

abbrev pub other_data : ℕ → List ℕ → Option RData
other_data t os = other_unless_own t os (has_own_case t) refl

abbrev pub next_other : ℕ → Reading (List ℕ) → Reading RData
next_other t r = r >>= λ os. or_fault (other_data t os.0) reason.Type os.1

-- the octets of data of a type without a case of its own, by the row that it has in the table
abbrev pub by_row : Name → Left → Option Row → Reading (List ℕ)
by_row origin l None = Err (fault l.place reason.OnlyGeneric)
by_row origin l (Some r) = next_row origin r l

abbrev pub next_own_octets : Name → ℕ → Left → Reading (List ℕ)
next_own_octets origin t l = by_row origin l (row_of t)

-- the data of a type in its own form
abbrev pub next_own : Name → ℕ → Left → Reading RData
next_own origin t l =
    if t == types.A then read_as V.A (next ipv4_of_word reason.Ipv4 l)
    else (if t == types.AAAA then read_as V.AAAA (next ipv6_of_word reason.Ipv6 l)
    else (if t == types.NS then read_as V.NS (next_name origin l)
    else (if t == types.CNAME then read_as V.CNAME (next_name origin l)
    else (if t == types.ANAME then read_as V.ANAME (next_name origin l)
    else (if t == types.SOA then read_as V.SOA (next_soa origin l)
    else (if t == types.MX then read_as V.MX (next_mx origin l)
    else (if t == types.SRV then read_as V.SRV (next_srv origin l)
    else (if t == types.DNSKEY then read_as V.DNSKEY (next_dnskey l)
    else (if t == types.RRSIG then read_as V.RRSIG (next_rrsig origin l)
    else (if t == types.NSEC then read_as V.NSEC (next_nsec origin l)
    else (if t == types.NSEC3 then read_as V.NSEC3 (next_nsec3 l)
    else (if t == types.NSEC3PARAM then read_as V.NSEC3PARAM (next_nsec3param l)
    else next_other t (next_own_octets origin t l)))))))))))))

abbrev pub next_data : Name → ℕ → Left → Reading RData
next_data origin t l = if is_generic l.words then next_data_octets t l else next_own origin t l

-- Data have at most 65535 octets in wire form (RFC 1035 section 3.2.1). Only these types can have more; the name of a signer
-- is counted as the longest one.
abbrev pub data_size : RData → ℕ
data_size (V.DNSKEY d) = 4 + length d.public_key
data_size (V.RRSIG d) = 273 + length d.signature
data_size (V.Other d) = length d.octets
data_size _ = 0
