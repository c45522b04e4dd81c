-- The parameters of a service (RFC 9460 section 2), printed
use Rattle.std.specs.Prelude.{ℕ, zero, suc, ◌==◌, ◌||◌, List, [], ◌∷◌, ◌++◌, map, length, Bool, false, codes, Option, Some, None, option_map, unwrap_or, Result, Ok, Err, if◌then◌else◌}
use Rattle.std.specs.Fmt.{decimal}
use Rattle.std.specs.List.{flat_map}
use Rattle.zone_proto.specs.Data.{same_octets}
use Rattle.zone_proto.specs.TypeText.{Word, word_of}
use Rattle.line_text.specs.Addresses.{ipv4_text}
use Rattle.message_reading.specs.Octets.{◌>>=◌, counted_of, octets_of, short_of}
use Rattle.service_parameters.specs.declared.fault.ParameterFault.{ParameterFault}
use Rattle.service_parameters.specs.declared.fault.ParameterFault.TheVariants as faults
use Rattle.service_parameters.specs.Parameters.{KeyValue, key_value, whole, with_word}
use Rattle.zone_file_writer.specs.Addresses.{address_text}
use Rattle.zone_file_writer.specs.BareWords.{is_bare, word_octet, word_octets}
use Rattle.zone_file_writer.specs.Others.{base64_text}
use Rattle.zone_file_writer.specs.Words.{PrintedWord, Bare}

-- a key by its name, or as `key` and its number (section 2.1)
abbrev pub key_words : List Word
key_words =
    record { number = 0; text = codes "mandatory" }
    ∷ record { number = 1; text = codes "alpn" }
    ∷ record { number = 2; text = codes "no-default-alpn" }
    ∷ record { number = 3; text = codes "port" }
    ∷ record { number = 4; text = codes "ipv4hint" }
    ∷ record { number = 5; text = codes "ech" }
    ∷ record { number = 6; text = codes "ipv6hint" }
    ∷ record { number = 7; text = codes "dohpath" }
    ∷ record { number = 8; text = codes "ohttp" }
    ∷ []

abbrev pub key_text : ℕ → List ℕ
key_text k = unwrap_or (word_of k key_words) (codes "key" ++ decimal k)

-- An octet of a protocol's identifier in a list: a comma and a backslash stand behind a backslash, and that one behind another, as
-- each backslash of a value does (appendix A.1)
abbrev pub protocol_octet : ℕ → List ℕ
protocol_octet b =
    if b == 44 then codes "\\\\,"
    else (if b == 92 then codes "\\\\\\\\" else word_octet b)

-- the item at the front of the value of a list, and the octets behind it
abbrev pub item_of : ℕ → List ℕ → Option (List ℕ × List ℕ)
item_of k os =
    if k == 1 then (counted_of os >>= λ x. Some (flat_map protocol_octet x.0, x.1))
    else (if k == 4 then (octets_of 4 os >>= λ x. Some (ipv4_text x.0, x.1))
    else (if k == 6 then (octets_of 16 os >>= λ x. Some (address_text x.0, x.1))
    else (if k == 0 then (short_of os >>= λ x. Some (key_text x.0, x.1))
    else (short_of os >>= λ x. Some (decimal x.0, x.1)))))

-- a text with an item at the front of octets behind it, after a sign
abbrev pub item_behind : List ℕ → ℕ → Option (List ℕ × List ℕ) → Option (List ℕ × List ℕ)
item_behind text sign item = option_map (λ x. (text ++ (sign ∷ x.0), x.1)) item

-- the items at the front, so many at most, each behind a sign: behind the first of them that is a comma
abbrev pub signed_item : ℕ → Option (List ℕ × List ℕ) → (List ℕ → List ℕ) → List ℕ
signed_item sign None more = []
signed_item sign (Some x) more = (sign ∷ x.0) ++ more x.1

abbrev pub items_text : ℕ → ℕ → ℕ → List ℕ → List ℕ
items_text zero k sign os = []
items_text (suc n) k sign os = signed_item sign (item_of k os) (items_text n k 44)

-- the value behind the `=` of a key, which an empty value has none of
abbrev pub is_list : ℕ → Bool
is_list k = k == 0 || (k == 1 || (k == 3 || (k == 4 || k == 6)))

abbrev pub alone_text : ℕ → List ℕ → List ℕ
alone_text k [] = []
alone_text k (b ∷ v) = 61 ∷ (if k == 5 then base64_text (b ∷ v) else word_octets (b ∷ v))

abbrev pub value_text : ℕ → List ℕ → List ℕ
value_text k v = if is_list k then items_text (length v) k 61 v else alone_text k v

abbrev pub parameter_text : KeyValue → List ℕ
parameter_text p = key_text p.key ++ value_text p.key p.value

-- the parameters that octets are (section 2.2), each printed
abbrev pub parameter_front : List ℕ → Option (KeyValue × List ℕ)
parameter_front os =
    short_of os >>= λ key.
    short_of key.1 >>= λ size.
    octets_of size.0 size.1 >>= λ value.
    Some (key_value key.0 value.0, value.1)

abbrev pub texts_within : ℕ → List ℕ → Option (List (List ℕ))
texts_within n [] = Some []
texts_within zero (b ∷ os) = None
texts_within (suc n) (b ∷ os) =
    parameter_front (b ∷ os) >>= λ p. option_map (λ ts. parameter_text p.0 ∷ ts) (texts_within n p.1)

-- Parameters are printed so where these words are read as the same octets. Others, as such in another order or of which a value
-- isn't one of its key, have no form but `\#`.
abbrev pub with_printed : List KeyValue → List ℕ → Result (List KeyValue) ParameterFault
with_printed ps t = if is_bare t then with_word ps t else Err faults.Key

abbrev pub then_read : Result (List KeyValue) ParameterFault → (List KeyValue → Result (List KeyValue) ParameterFault) → Result (List KeyValue) ParameterFault
then_read (Err f) more = Err f
then_read (Ok ps) more = more ps

abbrev pub read_texts : List KeyValue → List (List ℕ) → Result (List KeyValue) ParameterFault
read_texts ps [] = Ok ps
read_texts ps (t ∷ ts) = then_read (with_printed ps t) (λ qs. read_texts qs ts)

abbrev pub are_octets : List ℕ → Result (List ℕ) ParameterFault → Bool
are_octets os (Err f) = false
are_octets os (Ok read) = same_octets read os

abbrev pub are_read : List ℕ → Result (List KeyValue) ParameterFault → Bool
are_read os (Err f) = false
are_read os (Ok ps) = are_octets os (whole ps)

abbrev pub if_read : List ℕ → List KeyValue → List (List ℕ) → Option (List PrintedWord)
if_read os ps ts = if are_read os (read_texts ps ts) then Some (map Bare ts) else None

abbrev pub parameters_words : List ℕ → Option (List PrintedWord)
parameters_words os = texts_within (length os) os >>= if_read os []

-- the parameter at the front of octets: the parameters with it, a text with its word behind it, and the octets that are left
abbrev pub read_of : {X : Type 0} → Result X ParameterFault → Option X
read_of (Ok x) = Some x
read_of (Err f) = None

abbrev pub printed_behind : List KeyValue → List ℕ → KeyValue × List ℕ → Option (List KeyValue × List ℕ × List ℕ)
printed_behind ps text p = read_of (with_printed ps (parameter_text p.0)) >>= λ qs. Some (qs, text ++ 32 ∷ parameter_text p.0, p.1)

abbrev pub front_printed : List KeyValue → List ℕ → List ℕ → Option (List KeyValue × List ℕ × List ℕ)
front_printed ps text os = parameter_front os >>= printed_behind ps text
