-- The values of service parameters, by their keys (RFC 9460 sections 7 and 8)
use Rattle.std.specs.Prelude.{ℕ, ◌/◌, ◌%◌, ◌==◌, ◌||◌, ◌&&◌, List, [], ◌∷◌, length, nat_lt, nat_le, Bool, Option, Some, None, option_map, option_and_then, if◌then◌else◌}
use Rattle.std.specs.List.{flat_map, insert, list_any, prefix_len}
use Rattle.base64.specs.Engines.{standard}
use Rattle.base64.specs.GeneralPurpose.{decoded_of}
use Rattle.line_text.specs.Numbers.{number_within}
use Rattle.zone_tokens.specs.Addresses.{ipv4_of_word, ipv6_of_word}
use Rattle.service_parameters.specs.declared.keys.Key.{Key}
use Rattle.service_parameters.specs.declared.keys.Key.TheVariants.{Named, Numbered}
use Rattle.service_parameters.specs.Items.{all_octets, items_of}
use Rattle.service_parameters.specs.Keys.{key_of, number_of}

-- a number of 16 bits, the high octet first
abbrev pub short : ℕ → List ℕ
short n = (n / 256) ∷ (n % 256) ∷ []

-- a number among others in ascending order, each once
abbrev pub in_order : ℕ → List ℕ → List ℕ
in_order n ns = insert ns (prefix_len (λ m. nat_le m n) ns) n

-- mandatory: keys but `mandatory` itself, each once, in ascending order on the wire (section 8)
abbrev pub with_number : ℕ → List ℕ → Option (List ℕ)
with_number k ns = if k == 0 || list_any (λ n. n == k) ns then None else Some (in_order k ns)

abbrev pub with_key : Option Key → List ℕ → Option (List ℕ)
with_key None ns = None
with_key (Some k) ns = with_number (number_of k) ns

abbrev pub keys_of : List (List ℕ) → List ℕ → Option (List ℕ)
keys_of [] ns = Some ns
keys_of (i ∷ is) ns = option_and_then (keys_of is) (with_key (key_of i) ns)

abbrev pub mandatory_value : List (List ℕ) → Option (List ℕ)
mandatory_value is = option_map (flat_map short) (keys_of is [])

-- the identifier of a protocol, of 1 to 255 octets, behind its length (section 7.1.1)
abbrev pub protocol_of : List ℕ → Option (List ℕ)
protocol_of i = if nat_lt 0 (length i) && nat_le (length i) 255 then Some (length i ∷ i) else None

-- an item of alpn, ipv4hint or ipv6hint (sections 7.1 and 7.3)
unfoldable pub item_octets : ℕ → List ℕ → Option (List ℕ)
item_octets k i =
    if k == 1 then protocol_of i
    else (if k == 4 then ipv4_of_word i else ipv6_of_word i)

abbrev pub list_value : ℕ → List (List ℕ) → Option (List ℕ)
list_value k is = if k == 0 then mandatory_value is else all_octets (item_octets k) is

-- no-default-alpn and ohttp have no value
abbrev pub no_value : List ℕ → Option (List ℕ)
no_value [] = Some []
no_value (b ∷ s) = None

abbrev pub is_list : ℕ → Bool
is_list k = k == 0 || (k == 1 || (k == 4 || k == 6))

-- the value of a key that is written by its name, from the octets of its text
abbrev pub named_value : ℕ → List ℕ → Option (List ℕ)
named_value k os =
    if is_list k then option_and_then (list_value k) (items_of os)
    else (if k == 2 || k == 8 then no_value os
    else (if k == 3 then option_map short (number_within 10 65535 os)
    else (if k == 5 then decoded_of standard os
    else Some os)))

-- "A SvcParam in this form SHALL be parsed as specified above, and the decoded value SHALL be used as its wire-format encoding"
-- (section 2.1), where the key is written by its number
unfoldable pub value_of : Key → List ℕ → Option (List ℕ)
value_of (Named k) os = named_value k os
value_of (Numbered k) os = Some os
