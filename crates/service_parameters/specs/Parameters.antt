-- Service parameters, as words write them and as octets (RFC 9460 sections 2.1, 2.2 and 8)
use Rattle.std.specs.Prelude.{ℕ, ◌+◌, ◌*◌, ◌==◌, not, List, [], ◌∷◌, ◌++◌, length, take, drop, nat_le, Bool, true, Option, Some, None, option_and_then, Result, Ok, Err, if◌then◌else◌}
use Rattle.std.specs.List.{insert, list_all, list_any, prefix_len}
use Rattle.zone_tokens.specs.Strings.{octets_of_text}
use Rattle.service_parameters.specs.declared.fault.ParameterFault.{ParameterFault}
use Rattle.service_parameters.specs.declared.fault.ParameterFault.TheVariants as faults
use Rattle.service_parameters.specs.declared.keys.Key.{Key}
use Rattle.service_parameters.specs.Items.{read_then}
use Rattle.service_parameters.specs.Keys.{key_of, number_of}
use Rattle.service_parameters.specs.Values.{short, value_of}

-- a key by its number, and its value as data have it
pub record KeyValue : Type 0 where
  pub key : ℕ
  pub value : List ℕ

abbrev pub key_value : ℕ → List ℕ → KeyValue
key_value k v = record { key = k; value = v }

-- a word: a key, and behind a `=` its value, with escapes; a key alone has an empty value
abbrev pub equals_at : List ℕ → ℕ
equals_at w = prefix_len (λ b. not (b == 61)) w

abbrev pub key_text : List ℕ → List ℕ
key_text w = take (equals_at w) w

abbrev pub value_text : List ℕ → List ℕ
value_text w = drop (equals_at w + 1) w

abbrev pub with_value : Key → Option (List ℕ) → Result KeyValue ParameterFault
with_value k None = Err faults.Value
with_value k (Some v) = Ok (key_value (number_of k) v)

abbrev pub value_behind : Option Key → List ℕ → Result KeyValue ParameterFault
value_behind None t = Err faults.Key
value_behind (Some k) t = with_value k (option_and_then (value_of k) (octets_of_text t))

unfoldable pub parameter_of : List ℕ → Result KeyValue ParameterFault
parameter_of w = value_behind (key_of (key_text w)) (value_text w)

-- Parameters in ascending order of their keys, as they are on the wire, "each key once" (section 2.2)
abbrev pub has_key : ℕ → List KeyValue → Bool
has_key k ps = list_any (λ (p : KeyValue). p.key == k) ps

abbrev pub in_order : KeyValue → List KeyValue → List KeyValue
in_order p ps = insert ps (prefix_len (λ (q : KeyValue). nat_le q.key p.key) ps) p

abbrev pub with_parameter : List KeyValue → Result KeyValue ParameterFault → Result (List KeyValue) ParameterFault
with_parameter ps (Err f) = Err f
with_parameter ps (Ok p) = if has_key p.key ps then Err faults.Repeated else Ok (in_order p ps)

abbrev pub with_word : List KeyValue → List ℕ → Result (List KeyValue) ParameterFault
with_word ps w = with_parameter ps (parameter_of w)

-- "no-default-alpn" stands beside "alpn" alone (section 7.1.1)
abbrev pub has_alpn : List KeyValue → Bool
has_alpn ps = if has_key 2 ps then has_key 1 ps else true

-- each key that "mandatory" names is there (section 8)
abbrev pub shorts_of : List ℕ → List ℕ
shorts_of [] = []
shorts_of (a ∷ []) = []
shorts_of (a ∷ b ∷ os) = (a * 256 + b) ∷ shorts_of os

abbrev pub are_there : List ℕ → List KeyValue → Bool
are_there os ps = list_all (λ k. has_key k ps) (shorts_of os)

abbrev pub has_mandatory : List KeyValue → Bool
has_mandatory ps = list_all (λ (p : KeyValue). if p.key == 0 then are_there p.value ps else true) ps

-- on the wire: a key, the length of its value, and the value (section 2.2)
abbrev pub octets_of : KeyValue → Option (List ℕ)
octets_of p = if nat_le (length p.value) 65535 then Some (short p.key ++ short (length p.value) ++ p.value) else None

abbrev pub all_octets : List KeyValue → Option (List ℕ)
all_octets [] = Some []
all_octets (p ∷ ps) = read_then (octets_of p) (all_octets ps)

abbrev pub or_long : Option (List ℕ) → Result (List ℕ) ParameterFault
or_long None = Err faults.TooLong
or_long (Some os) = Ok os

abbrev pub whole : List KeyValue → Result (List ℕ) ParameterFault
whole ps =
    if not (has_alpn ps) then Err faults.NoAlpn
    else (if not (has_mandatory ps) then Err faults.NotThere
    else or_long (all_octets ps))
