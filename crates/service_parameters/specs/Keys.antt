-- The keys of service parameters (RFC 9460 section 14.3.2)
use Rattle.std.specs.Prelude.{ℕ, ◌==◌, List, [], ◌∷◌, Bool, false, Option, Some, None, option_map, length, take, drop, nat_lt, codes, if◌then◌else◌}
use Rattle.zone_proto.specs.Data.{same_octets}
use Rattle.line_text.specs.Numbers.{number_within}
use Rattle.service_parameters.specs.declared.keys.Key.{Key}
use Rattle.service_parameters.specs.declared.keys.Key.TheVariants.{Named, Numbered}

-- the number of a key by its name: `dohpath` is of RFC 9461, `ohttp` of RFC 9540
abbrev pub number_named : List ℕ → Option ℕ
number_named w =
    if same_octets w (codes "mandatory") then Some 0
    else (if same_octets w (codes "alpn") then Some 1
    else (if same_octets w (codes "no-default-alpn") then Some 2
    else (if same_octets w (codes "port") then Some 3
    else (if same_octets w (codes "ipv4hint") then Some 4
    else (if same_octets w (codes "ech") then Some 5
    else (if same_octets w (codes "ipv6hint") then Some 6
    else (if same_octets w (codes "dohpath") then Some 7
    else (if same_octets w (codes "ohttp") then Some 8
    else None))))))))

-- "keyNNNNN", where NNNNN is the number without leading zeros (RFC 9460 section 2.1); 65535 is no key (section 14.3.2)
abbrev pub begins_with_zero : List ℕ → Bool
begins_with_zero [] = false
begins_with_zero (c ∷ []) = false
begins_with_zero (c ∷ d ∷ s) = c == 48

abbrev pub plain_number : List ℕ → Option ℕ
plain_number ds = if begins_with_zero ds then None else number_within 10 65534 ds

abbrev pub number_written : List ℕ → Option ℕ
number_written w =
    if nat_lt (length w) 3 then None
    else (if same_octets (take 3 w) (codes "key") then plain_number (drop 3 w) else None)

-- a key by its name or its number
abbrev pub or_numbered : Option ℕ → List ℕ → Option Key
or_numbered (Some k) w = Some (Named k)
or_numbered None w = option_map (λ k. Numbered k) (number_written w)

abbrev pub key_of : List ℕ → Option Key
key_of w = or_numbered (number_named w) w

abbrev pub number_of : Key → ℕ
number_of (Named k) = k
number_of (Numbered k) = k
