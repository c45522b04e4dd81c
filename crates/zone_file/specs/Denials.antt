-- The data of NSEC, NSEC3 and NSEC3PARAM records in the form of their standards (RFC 4034 section 4.2, RFC 5155 sections 3.3
-- and 4.3)
use Rattle.std.specs.Prelude.{ℕ, ◌==◌, List, [], ◌∷◌, length, nat_le, Bool, Option, Some, None, option_map, option_and_then, Ok, Err, if◌then◌else◌}
use Rattle.zone_proto.specs.declared.rdata.denial.NSEC.{NSEC as DenialData}
use Rattle.zone_proto.specs.declared.rdata.denial.NSEC3.{NSEC3 as HashedData}
use Rattle.zone_proto.specs.declared.rdata.denial.NSEC3PARAM.{NSEC3PARAM as HashParameters}
use Rattle.zone_proto.specs.declared.record_type.RecordType.{RecordType}
use Rattle.zone_proto.specs.Names.{Name}
use Rattle.line_text.specs.Hex.{hex_word}
use Rattle.line_text.specs.Numbers.{number_within}
use Rattle.zone_scanner.specs.declared.place.Place.{Place}
use Rattle.zone_scanner.specs.Entries.{WordText}
use Rattle.zone_tokens.specs.Base32.{base32_octets}
use Rattle.record_fields.specs.declared.fault.Reason.TheVariants as reason
use Rattle.record_fields.specs.Readings.{fault, ◌>>=◌}
use Rattle.record_fields.specs.Fields.{Left, Reading, next, next_name, next_u8, next_u16}
use Rattle.record_fields.specs.TypeLists.{next_types, types_at}

-- the types to the end of the entry, where there has to be one
abbrev pub some_types_at : Place → List WordText → Reading (List RecordType)
some_types_at p [] = Err (fault p reason.Missing)
some_types_at p (w ∷ ws) = types_at p (w ∷ ws)

abbrev pub next_some_types : Left → Reading (List RecordType)
next_some_types l = some_types_at l.place l.words

-- NSEC: RFC 4034 section 4.2. It lists a type at least: a map of none would have no block, and a block of no types isn't
-- allowed (section 4.1.2). NSEC3 may list none (RFC 5155 section 7.1).
unfoldable pub next_nsec : Name → Left → Reading DenialData
next_nsec origin l = do
  next_domain ← next_name origin l
  ts ← next_some_types next_domain.1
  Ok (record { next_domain_name = next_domain.0; types = ts.0 }, ts.1)

-- the flags, of which opt-out alone has a meaning: 1, or 0 without it (RFC 5155 section 3.1.2)
abbrev pub opt_out_of_word : List ℕ → Option Bool
opt_out_of_word w = option_map (λ n. n == 1) (number_within 10 1 w)

abbrev pub next_opt_out : Left → Reading Bool
next_opt_out = next opt_out_of_word reason.Flags

-- the salt in hex, `-` for none; an octet counts its octets
abbrev pub if_countable : List ℕ → Option (List ℕ)
if_countable os = if nat_le (length os) 255 then Some os else None

abbrev pub salt_of_word : List ℕ → Option (List ℕ)
salt_of_word w = option_and_then if_countable (hex_word w)

abbrev pub next_salt : Left → Reading (List ℕ)
next_salt = next salt_of_word reason.Salt

-- the next hashed owner in base32hex, one octet at least; an octet counts its octets
abbrev pub if_hash : List ℕ → Option (List ℕ)
if_hash [] = None
if_hash (o ∷ os) = if_countable (o ∷ os)

abbrev pub hash_of_word : List ℕ → Option (List ℕ)
hash_of_word w = option_and_then if_hash (base32_octets w)

abbrev pub next_hash : Left → Reading (List ℕ)
next_hash = next hash_of_word reason.HashedOwner

-- NSEC3: RFC 5155 section 3.3
unfoldable pub next_nsec3 : Left → Reading HashedData
next_nsec3 l = do
  algorithm ← next_u8 l
  opt_out ← next_opt_out algorithm.1
  iterations ← next_u16 opt_out.1
  salt ← next_salt iterations.1
  hash ← next_hash salt.1
  ts ← next_types hash.1
  Ok (
    record {
      algorithm = algorithm.0;
      opt_out = opt_out.0;
      iterations = iterations.0;
      salt = salt.0;
      next_hashed_owner_name = hash.0;
      types = ts.0;
    },
    ts.1,
  )

-- NSEC3PARAM: RFC 5155 section 4.3
unfoldable pub next_nsec3param : Left → Reading HashParameters
next_nsec3param l = do
  algorithm ← next_u8 l
  opt_out ← next_opt_out algorithm.1
  iterations ← next_u16 opt_out.1
  salt ← next_salt iterations.1
  Ok (record { algorithm = algorithm.0; opt_out = opt_out.0; iterations = iterations.0; salt = salt.0 }, salt.1)
