-- Types, classes and algorithms by their words, in any case, or by their numbers
use Rattle.std.specs.Prelude.{ℕ, List, [], ◌∷◌, map, codes, Option, option_map}
use Rattle.std.specs.Char.{to_ascii_uppercase}
use Rattle.zone_proto.specs.declared.record_type.RecordType.{RecordType}
use Rattle.zone_proto.specs.declared.dns_class.DNSClass.{DNSClass}
use Rattle.zone_proto.specs.TypeText.{Word, number_of, or_else, type_of_text}
use Rattle.line_text.specs.Numbers.{number_within}

-- a word in upper case
abbrev pub upper : List ℕ → List ℕ
upper w = map to_ascii_uppercase w

-- The words of the registry of types that zone_proto has none of, by their numbers: up to 26 (RFC 1035 section 3.2.2, RFC 1183,
-- RFC 1348 and others), 55, 107, and those above
abbrev pub first_words : List Word
first_words =
    record { number = 3; text = codes "MD" }
    ∷ record { number = 4; text = codes "MF" }
    ∷ record { number = 7; text = codes "MB" }
    ∷ record { number = 8; text = codes "MG" }
    ∷ record { number = 9; text = codes "MR" }
    ∷ record { number = 10; text = codes "NULL" }
    ∷ record { number = 11; text = codes "WKS" }
    ∷ record { number = 12; text = codes "PTR" }
    ∷ record { number = 13; text = codes "HINFO" }
    ∷ record { number = 14; text = codes "MINFO" }
    ∷ record { number = 17; text = codes "RP" }
    ∷ record { number = 18; text = codes "AFSDB" }
    ∷ record { number = 19; text = codes "X25" }
    ∷ record { number = 20; text = codes "ISDN" }
    ∷ record { number = 21; text = codes "RT" }
    ∷ record { number = 22; text = codes "NSAP" }
    ∷ record { number = 23; text = codes "NSAP-PTR" }
    ∷ record { number = 24; text = codes "SIG" }
    ∷ record { number = 25; text = codes "KEY" }
    ∷ record { number = 26; text = codes "PX" }
    ∷ []

abbrev pub second_words : List Word
second_words =
    record { number = 27; text = codes "GPOS" }
    ∷ record { number = 29; text = codes "LOC" }
    ∷ record { number = 30; text = codes "NXT" }
    ∷ record { number = 31; text = codes "EID" }
    ∷ record { number = 32; text = codes "NIMLOC" }
    ∷ record { number = 34; text = codes "ATMA" }
    ∷ record { number = 35; text = codes "NAPTR" }
    ∷ record { number = 36; text = codes "KX" }
    ∷ record { number = 37; text = codes "CERT" }
    ∷ record { number = 38; text = codes "A6" }
    ∷ record { number = 39; text = codes "DNAME" }
    ∷ record { number = 40; text = codes "SINK" }
    ∷ record { number = 41; text = codes "OPT" }
    ∷ record { number = 42; text = codes "APL" }
    ∷ record { number = 44; text = codes "SSHFP" }
    ∷ record { number = 45; text = codes "IPSECKEY" }
    ∷ record { number = 49; text = codes "DHCID" }
    ∷ record { number = 52; text = codes "TLSA" }
    ∷ record { number = 53; text = codes "SMIMEA" }
    ∷ record { number = 55; text = codes "HIP" }
    ∷ []

abbrev pub third_words : List Word
third_words =
    record { number = 56; text = codes "NINFO" }
    ∷ record { number = 57; text = codes "RKEY" }
    ∷ record { number = 58; text = codes "TALINK" }
    ∷ record { number = 59; text = codes "CDS" }
    ∷ record { number = 60; text = codes "CDNSKEY" }
    ∷ record { number = 61; text = codes "OPENPGPKEY" }
    ∷ record { number = 62; text = codes "CSYNC" }
    ∷ record { number = 63; text = codes "ZONEMD" }
    ∷ record { number = 64; text = codes "SVCB" }
    ∷ record { number = 65; text = codes "HTTPS" }
    ∷ record { number = 66; text = codes "DSYNC" }
    ∷ record { number = 99; text = codes "SPF" }
    ∷ record { number = 100; text = codes "UINFO" }
    ∷ record { number = 101; text = codes "UID" }
    ∷ record { number = 102; text = codes "GID" }
    ∷ record { number = 103; text = codes "UNSPEC" }
    ∷ record { number = 104; text = codes "NID" }
    ∷ record { number = 105; text = codes "L32" }
    ∷ record { number = 106; text = codes "L64" }
    ∷ record { number = 107; text = codes "LP" }
    ∷ []

abbrev pub last_words : List Word
last_words =
    record { number = 108; text = codes "EUI48" }
    ∷ record { number = 109; text = codes "EUI64" }
    ∷ record { number = 249; text = codes "TKEY" }
    ∷ record { number = 250; text = codes "TSIG" }
    ∷ record { number = 251; text = codes "IXFR" }
    ∷ record { number = 253; text = codes "MAILB" }
    ∷ record { number = 254; text = codes "MAILA" }
    ∷ record { number = 256; text = codes "URI" }
    ∷ record { number = 257; text = codes "CAA" }
    ∷ record { number = 258; text = codes "AVC" }
    ∷ record { number = 259; text = codes "DOA" }
    ∷ record { number = 260; text = codes "AMTRELAY" }
    ∷ record { number = 261; text = codes "RESINFO" }
    ∷ record { number = 262; text = codes "WALLET" }
    ∷ record { number = 263; text = codes "CLA" }
    ∷ record { number = 264; text = codes "IPN" }
    ∷ record { number = 32768; text = codes "TA" }
    ∷ record { number = 32769; text = codes "DLV" }
    ∷ []

abbrev pub further_type : List ℕ → Option ℕ
further_type text =
    or_else (number_of text first_words) (or_else (number_of text second_words)
    (or_else (number_of text third_words) (number_of text last_words)))

-- a type by its word, or by `TYPE` and its number (RFC 3597 section 5)
abbrev pub type_by_number : ℕ → RecordType
type_by_number t = record { 0 = t }

abbrev pub upper_type : List ℕ → Option RecordType
upper_type text = option_map type_by_number (or_else (type_of_text text) (further_type text))

abbrev pub type_named : List ℕ → Option RecordType
type_named w = upper_type (upper w)

-- Classes by their words (RFC 1035 section 3.2.4), or by `CLASS` and the number of one that has a word (RFC 3597 section 5)
abbrev pub class_words : List Word
class_words =
    record { number = 1; text = codes "IN" }
    ∷ record { number = 3; text = codes "CH" }
    ∷ record { number = 4; text = codes "HS" }
    ∷ record { number = 1; text = codes "CLASS1" }
    ∷ record { number = 3; text = codes "CLASS3" }
    ∷ record { number = 4; text = codes "CLASS4" }
    ∷ []

abbrev pub class_by_number : ℕ → DNSClass
class_by_number c = record { 0 = c }

abbrev pub upper_class : List ℕ → Option DNSClass
upper_class text = option_map class_by_number (number_of text class_words)

abbrev pub class_named : List ℕ → Option DNSClass
class_named w = upper_class (upper w)

-- Algorithms of DNSSEC by their mnemonics (RFC 4034 appendix A.1 and its registry), or by their numbers
abbrev pub algorithm_words : List Word
algorithm_words =
    record { number = 0; text = codes "DELETE" }
    ∷ record { number = 1; text = codes "RSAMD5" }
    ∷ record { number = 2; text = codes "DH" }
    ∷ record { number = 3; text = codes "DSA" }
    ∷ record { number = 5; text = codes "RSASHA1" }
    ∷ record { number = 6; text = codes "DSA-NSEC3-SHA1" }
    ∷ record { number = 7; text = codes "RSASHA1-NSEC3-SHA1" }
    ∷ record { number = 8; text = codes "RSASHA256" }
    ∷ record { number = 10; text = codes "RSASHA512" }
    ∷ record { number = 12; text = codes "ECC-GOST" }
    ∷ record { number = 13; text = codes "ECDSAP256SHA256" }
    ∷ record { number = 14; text = codes "ECDSAP384SHA384" }
    ∷ record { number = 15; text = codes "ED25519" }
    ∷ record { number = 16; text = codes "ED448" }
    ∷ record { number = 252; text = codes "INDIRECT" }
    ∷ record { number = 253; text = codes "PRIVATEDNS" }
    ∷ record { number = 254; text = codes "PRIVATEOID" }
    ∷ []

abbrev pub algorithm_named : List ℕ → Option ℕ
algorithm_named w = or_else (number_within 10 255 w) (number_of (upper w) algorithm_words)

-- Digests of DS records by their mnemonics (RFC 4034 appendix A.2, RFC 4509, RFC 5933, RFC 6605), or by their numbers
abbrev pub digest_type_words : List Word
digest_type_words =
    record { number = 1; text = codes "SHA-1" }
    ∷ record { number = 1; text = codes "SHA1" }
    ∷ record { number = 2; text = codes "SHA-256" }
    ∷ record { number = 2; text = codes "SHA256" }
    ∷ record { number = 3; text = codes "GOST" }
    ∷ record { number = 4; text = codes "SHA-384" }
    ∷ record { number = 4; text = codes "SHA384" }
    ∷ []

abbrev pub digest_type_named : List ℕ → Option ℕ
digest_type_named w = or_else (number_within 10 255 w) (number_of (upper w) digest_type_words)

-- Types of certificates by their mnemonics (RFC 4398 section 2.1), or by their numbers
abbrev pub certificate_type_words : List Word
certificate_type_words =
    record { number = 1; text = codes "PKIX" }
    ∷ record { number = 2; text = codes "SPKI" }
    ∷ record { number = 3; text = codes "PGP" }
    ∷ record { number = 4; text = codes "IPKIX" }
    ∷ record { number = 5; text = codes "ISPKI" }
    ∷ record { number = 6; text = codes "IPGP" }
    ∷ record { number = 7; text = codes "ACPKIX" }
    ∷ record { number = 8; text = codes "IACPKIX" }
    ∷ record { number = 253; text = codes "URI" }
    ∷ record { number = 254; text = codes "OID" }
    ∷ []

abbrev pub certificate_type_named : List ℕ → Option ℕ
certificate_type_named w = or_else (number_within 10 65535 w) (number_of (upper w) certificate_type_words)
