-- How types, classes and response codes are printed, and how types are read
use Rattle.std.specs.Prelude.{ℕ, ◌++◌, List, [], ◌∷◌, ◌==◌, ◌&&◌, nat_eq, nat_lt, if◌then◌else◌, length, drop, Option, Some, None, unwrap_or, codes, bytes_eq}
use Rattle.std.specs.Char.{is_ascii_digit}
use Rattle.std.specs.Fmt.{decimal}
use Rattle.std.specs.List.{list_all, starts_with}
use Rattle.std.specs.Str.Parse.{digits_value}
use Rattle.zone_proto.specs.Types as types
use Rattle.zone_proto.specs.declared.response_code.ResponseCode.{ResponseCode}
use Rattle.zone_proto.specs.declared.response_code.ResponseCode.TheVariants as R

-- a number that has a word
pub record Word : Type 0 where
  pub number : ℕ
  pub text : List ℕ

-- the types that have a word, and their words
abbrev pub type_words : List Word
type_words =
    record { number = types.A; text = codes "A" }
    ∷ record { number = types.NS; text = codes "NS" }
    ∷ record { number = types.CNAME; text = codes "CNAME" }
    ∷ record { number = types.SOA; text = codes "SOA" }
    ∷ record { number = types.MX; text = codes "MX" }
    ∷ record { number = types.TXT; text = codes "TXT" }
    ∷ record { number = types.AAAA; text = codes "AAAA" }
    ∷ record { number = types.SRV; text = codes "SRV" }
    ∷ record { number = types.DS; text = codes "DS" }
    ∷ record { number = types.RRSIG; text = codes "RRSIG" }
    ∷ record { number = types.NSEC; text = codes "NSEC" }
    ∷ record { number = types.DNSKEY; text = codes "DNSKEY" }
    ∷ record { number = types.NSEC3; text = codes "NSEC3" }
    ∷ record { number = types.NSEC3PARAM; text = codes "NSEC3PARAM" }
    ∷ record { number = types.AXFR; text = codes "AXFR" }
    ∷ record { number = types.ANY; text = codes "ANY" }
    ∷ record { number = types.ANAME; text = codes "ANAME" }
    ∷ []

-- the word of a number, and the number of a word
abbrev pub word_of : ℕ → List Word → Option (List ℕ)
word_of n [] = None
word_of n (w ∷ ws) = if n == w.number then Some w.text else word_of n ws

abbrev pub number_of : List ℕ → List Word → Option ℕ
number_of text [] = None
number_of text (w ∷ ws) = if bytes_eq text w.text then Some w.number else number_of text ws

abbrev pub type_word : ℕ → Option (List ℕ)
type_word t = word_of t type_words

-- a type is printed as its word, or as `TYPE` and its number (RFC 3597 section 5)
abbrev pub type_text : ℕ → List ℕ
type_text t = unwrap_or (type_word t) (codes "TYPE" ++ decimal t)

-- decimal digits, at least one, of a value of at most 65535
abbrev pub short_number : List ℕ → Option ℕ
short_number ds = if nat_lt 0 (length ds) && (list_all is_ascii_digit ds && nat_lt (digits_value 10 ds) 65536) then Some (digits_value 10 ds) else None

-- `TYPE` and such digits
abbrev pub numbered_type : List ℕ → Option ℕ
numbered_type text = if starts_with nat_eq text (codes "TYPE") then short_number (drop 4 text) else None

abbrev pub or_else : Option ℕ → Option ℕ → Option ℕ
or_else (Some n) other = Some n
or_else None other = other

-- a type is read from its word, or from `TYPE` and its number
abbrev pub type_of_text : List ℕ → Option ℕ
type_of_text text = or_else (number_of text type_words) (numbered_type text)

-- a class is printed as its word, or as `CLASS` and its number (RFC 3597 section 5)
abbrev pub class_text : ℕ → List ℕ
class_text c = if c == types.IN then codes "IN" else if c == types.CH then codes "CH" else codes "CLASS" ++ decimal c

-- a response code is printed as its word, or as `RCODE` and its number
abbrev pub response_code_text : ResponseCode → List ℕ
response_code_text R.NoError = codes "NoError"
response_code_text R.FormErr = codes "FormErr"
response_code_text R.ServFail = codes "ServFail"
response_code_text R.NXDomain = codes "NXDomain"
response_code_text R.NotImp = codes "NotImp"
response_code_text R.Refused = codes "Refused"
response_code_text (R.Other n) = codes "RCODE" ++ decimal n
