-- The data of records, by their type: the RDLENGTH octets of a record, all of them, at an offset of a message.
-- A pointer is followed in the names of the types of RFC 1035 (NS, CNAME, SOA, MX) and of SRV (RFC 3597 section 4); in those of any
-- later type it is none (RFC 4034 sections 3.1.7 and 4.1.1).
use Rattle.std.specs.Prelude.{◌≡◌, ℕ, ℤ, refl, ◌==◌, nat_le, nat_lt, length, Bool, true, false, List, [], Option, Some, None, if◌then◌else◌}
use Rattle.std.specs.Int.{w32, cast_signed}
use Rattle.zone_proto.specs.Names.{Name}
use Rattle.zone_proto.specs.Types as types
use Rattle.zone_proto.specs.Types.{has_own_case}
use Rattle.zone_proto.specs.declared.rdata.RData.{RData}
use Rattle.zone_proto.specs.declared.rdata.RData.TheVariants as V
use Rattle.message_reading.specs.Octets.{◌>>=◌, octet_of, short_of, long_of, counted_of, alone, past}
use Rattle.message_reading.specs.MessageNames.{name_of, plain_name_of}
use Rattle.message_reading.specs.TypeMaps.{types_of}
use Rattle.message_reading.specs.OtherForms.{form_of, in_form}

-- 32 bits as a signed number in two's complement
abbrev pub signed : ℕ → ℤ
signed = cast_signed w32

-- an address of so many octets
abbrev pub address_of : ℕ → List ℕ → Option (List ℕ)
address_of count octets = if length octets == count then Some octets else None

-- the five numbers of an SOA
abbrev pub soa_numbers : Name → Name → List ℕ → Option RData
soa_numbers mname rname octets =
    long_of octets >>= λ serial.
    long_of serial.1 >>= λ refresh.
    long_of refresh.1 >>= λ retry.
    long_of retry.1 >>= λ expire.
    alone (long_of expire.1) >>= λ minimum.
    Some (V.SOA (record {
      mname = mname;
      rname = rname;
      serial = serial.0;
      refresh = signed refresh.0;
      retry = signed retry.0;
      expire = signed expire.0;
      minimum = minimum;
    }))

-- SOA: two names and five numbers (RFC 1035 section 3.3.13)
unfoldable pub soa_of : List ℕ → ℕ → List ℕ → Option RData
soa_of message at octets =
    name_of message at octets >>= λ mname.
    name_of message (past at octets mname.1) mname.1 >>= λ rname.
    soa_numbers mname.0 rname.0 rname.1

-- MX: a preference and a name (RFC 1035 section 3.3.9)
unfoldable pub mx_of : List ℕ → ℕ → List ℕ → Option RData
mx_of message at octets =
    short_of octets >>= λ preference.
    alone (name_of message (past at octets preference.1) preference.1) >>= λ exchange.
    Some (V.MX (record { preference = preference.0; exchange = exchange }))

-- SRV: three numbers and a name (RFC 2782)
unfoldable pub srv_of : List ℕ → ℕ → List ℕ → Option RData
srv_of message at octets =
    short_of octets >>= λ priority.
    short_of priority.1 >>= λ weight.
    short_of weight.1 >>= λ port.
    alone (name_of message (past at octets port.1) port.1) >>= λ target.
    Some (V.SRV (record { priority = priority.0; weight = weight.0; port = port.0; target = target }))

-- DNSKEY: flags, protocol, algorithm, and the key to the end (RFC 4034 section 2.1)
unfoldable pub dnskey_of : List ℕ → Option RData
dnskey_of octets =
    short_of octets >>= λ flags.
    octet_of flags.1 >>= λ protocol.
    octet_of protocol.1 >>= λ algorithm.
    Some (V.DNSKEY (record {
      flags = flags.0;
      protocol = protocol.0;
      algorithm = algorithm.0;
      public_key = algorithm.1;
    }))

-- NSEC: a name without pointers and a type map, which has a block at least: that of NSEC itself (RFC 4034 section 4.1)
unfoldable pub nsec_of : List ℕ → Option RData
nsec_of octets =
    plain_name_of octets >>= λ next.
    if nat_lt 0 (length next.1) then (
    types_of next.1 >>= λ ts. Some (V.NSEC (record { next_domain_name = next.0; types = ts }))
    ) else None

-- Flags of which all but the lowest, opt-out, are 0: a record with another flag is of no known meaning (RFC 5155 sections 3.1.2 and 8.2).
abbrev pub opt_out_of : List ℕ → Option (Bool × List ℕ)
opt_out_of octets = octet_of octets >>= λ flags. if nat_le flags.0 1 then Some (flags.0 == 1, flags.1) else None

-- a hash, which has an octet at least, behind an octet that counts its octets
abbrev pub hash_of : List ℕ → Option (List ℕ × List ℕ)
hash_of octets = counted_of octets >>= λ hash. if nat_lt 0 (length hash.0) then Some hash else None

-- NSEC3: algorithm, flags, iterations, salt, next hashed owner and a type map (RFC 5155 section 3.2)
unfoldable pub nsec3_of : List ℕ → Option RData
nsec3_of octets =
    octet_of octets >>= λ algorithm.
    opt_out_of algorithm.1 >>= λ opt_out.
    short_of opt_out.1 >>= λ iterations.
    counted_of iterations.1 >>= λ salt.
    hash_of salt.1 >>= λ next.
    types_of next.1 >>= λ ts.
    Some (V.NSEC3 (record {
      algorithm = algorithm.0;
      opt_out = opt_out.0;
      iterations = iterations.0;
      salt = salt.0;
      next_hashed_owner_name = next.0;
      types = ts;
    }))

-- NSEC3PARAM: the same up to the salt (RFC 5155 section 4.2)
unfoldable pub nsec3param_of : List ℕ → Option RData
nsec3param_of octets =
    octet_of octets >>= λ algorithm.
    opt_out_of algorithm.1 >>= λ opt_out.
    short_of opt_out.1 >>= λ iterations.
    alone (counted_of iterations.1) >>= λ salt.
    Some (V.NSEC3PARAM (record {
      algorithm = algorithm.0;
      opt_out = opt_out.0;
      iterations = iterations.0;
      salt = salt;
    }))

-- RRSIG: seven numbers, a name without pointers, and the signature to the end (RFC 4034 section 3.1)
unfoldable pub rrsig_of : List ℕ → Option RData
rrsig_of octets =
    short_of octets >>= λ covered.
    octet_of covered.1 >>= λ algorithm.
    octet_of algorithm.1 >>= λ labels.
    long_of labels.1 >>= λ ttl.
    long_of ttl.1 >>= λ expiration.
    long_of expiration.1 >>= λ inception.
    short_of inception.1 >>= λ tag.
    plain_name_of tag.1 >>= λ signer.
    Some (V.RRSIG (record {
      type_covered = record { 0 = covered.0 };
      algorithm = algorithm.0;
      num_labels = labels.0;
      original_ttl = ttl.0;
      expiration = expiration.0;
      inception = inception.0;
      key_tag = tag.0;
      signer_name = signer.0;
      signature = signer.1;
    }))

-- the data of a type that has a case of its own
unfoldable pub own_data_of : ℕ → List ℕ → ℕ → List ℕ → Option RData
own_data_of t message at octets =
    if t == types.A then (address_of 4 octets >>= λ a. Some (V.A a))
    else (if t == types.AAAA then (address_of 16 octets >>= λ a. Some (V.AAAA a))
    else (if t == types.NS then (alone (name_of message at octets) >>= λ n. Some (V.NS n))
    else (if t == types.CNAME then (alone (name_of message at octets) >>= λ n. Some (V.CNAME n))
    else (if t == types.ANAME then (alone (plain_name_of octets) >>= λ n. Some (V.ANAME n))
    else (if t == types.SOA then soa_of message at octets
    else (if t == types.MX then mx_of message at octets
    else (if t == types.SRV then srv_of message at octets
    else (if t == types.DNSKEY then dnskey_of octets
    else (if t == types.NSEC then nsec_of octets
    else (if t == types.NSEC3 then nsec3_of octets
    else (if t == types.NSEC3PARAM then nsec3param_of octets
    else (if t == types.RRSIG then rrsig_of octets
    else None))))))))))))

-- any other type: its octets, in the form in which they have no pointers
abbrev pub other_data_of : (t : ℕ) → List ℕ → ℕ → List ℕ → has_own_case t ≡ false → Option RData
other_data_of t message at octets other =
    in_form (form_of t) message at octets >>= λ plain.
    Some (V.Other (record { record_type = record { 0 = t }; octets = plain; other = other }))

abbrev pub data_by : (t : ℕ) → List ℕ → ℕ → List ℕ → (b : Bool) → has_own_case t ≡ b → Option RData
data_by t message at octets true own = own_data_of t message at octets
data_by t message at octets false other = other_data_of t message at octets other

-- the data of a type, whose octets are at an offset of a message
unfoldable pub data_of : ℕ → List ℕ → ℕ → List ℕ → Option RData
data_of t message at octets = data_by t message at octets (has_own_case t) refl

-- the data of a type in octets without pointers: they stand in no message
abbrev pub plain_data_of : ℕ → List ℕ → Option RData
plain_data_of t octets = data_of t [] 0 octets
