-- Strings of octets (RFC 1035 sections 3.3 and 5.1)
use Rattle.std.specs.Prelude.{ℕ, ◌+◌, ◌-◌, ◌*◌, List, [], ◌∷◌, ◌&&◌, ◌==◌, length, nat_le, if◌then◌else◌, Option, Some, None, option_map, option_and_then}
use Rattle.zone_tokens.specs.declared.strings.Escape.{Escape}
use Rattle.zone_tokens.specs.declared.strings.Escape.TheVariants.{NoEscape, Backslash, OneDigit, TwoDigits}
use Rattle.zone_proto.specs.TextForm.{backslash, is_digit}

-- The octets of a string, read from its text octet by octet: behind a backslash, and behind a backslash and one or two digits of
-- this value. A backslash and three digits are the octet of their value, which is at most 255; a backslash and another octet are
-- that octet; and any other octet is itself.
abbrev pub escape_step : Escape → ℕ → Option (Option ℕ × Escape)
escape_step NoEscape b = if b == backslash then Some (None, Backslash) else Some (Some b, NoEscape)
escape_step Backslash b = if is_digit b then Some (None, OneDigit (b - 48)) else Some (Some b, NoEscape)
escape_step (OneDigit a) b = if is_digit b then Some (None, TwoDigits (10 * a + (b - 48))) else None
escape_step (TwoDigits a) b = if is_digit b && nat_le (10 * a + (b - 48)) 255 then Some (Some (10 * a + (b - 48)), NoEscape) else None

abbrev pub octets_at_end : Escape → Option (List ℕ)
octets_at_end NoEscape = Some []
octets_at_end Backslash = None
octets_at_end (OneDigit a) = None
octets_at_end (TwoDigits a) = None

abbrev pub with_octet : Option ℕ → Option (List ℕ) → Option (List ℕ)
with_octet None os = os
with_octet (Some b) os = option_map (λ os. b ∷ os) os

abbrev pub step_then : Option (Option ℕ × Escape) → (Escape → Option (List ℕ)) → Option (List ℕ)
step_then None f = None
step_then (Some t) f = with_octet t.0 (f t.1)

abbrev pub octets_from : List ℕ → Escape → Option (List ℕ)
octets_from [] e = octets_at_end e
octets_from (b ∷ s) e = step_then (escape_step e b) (octets_from s)

-- the octets of a string, from its text
abbrev pub octets_of_text : List ℕ → Option (List ℕ)
octets_of_text s = octets_from s NoEscape

-- a string as data have it: its length, at most 255, and its octets (RFC 1035 section 3.3)
abbrev pub with_length : List ℕ → Option (List ℕ)
with_length os = if nat_le (length os) 255 then Some (length os ∷ os) else None

abbrev pub string_of_word : List ℕ → Option (List ℕ)
string_of_word w = option_and_then with_length (octets_of_text w)
