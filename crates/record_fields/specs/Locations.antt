-- Locations (RFC 1876): `DEGREES [MINUTES [SECONDS]] N DEGREES [MINUTES [SECONDS]] E ALTITUDE [SIZE [HORIZONTAL [VERTICAL]]]`
use Rattle.std.specs.Prelude.{ℕ, zero, suc, ◌+◌, ◌-◌, ◌*◌, ◌/◌, ◌==◌, nat_le, nat_lt, List, [], ◌∷◌, ◌++◌, take, drop, Bool, true, false, Option, Some, None, option_map, if◌then◌else◌}
use Rattle.std.specs.Char.{to_ascii_uppercase}
use Rattle.line_text.specs.Numbers.{number_within}
use Rattle.line_text.specs.Words.{words}
use Rattle.message_reading.specs.Octets.{◌>>=◌}
use Rattle.record_fields.specs.declared.locations.Axis.{Axis}
use Rattle.record_fields.specs.declared.locations.Location.{Location}
use Rattle.record_fields.specs.declared.locations.TheConstants.{LATITUDE, LONGITUDE}
use Rattle.record_fields.specs.Parts.{long}
use Rattle.record_fields.specs.Signs.{before_sign, behind_sign, sign_at}

abbrev pub next_text : List (List ℕ) → Option (List ℕ × List (List ℕ))
next_text [] = None
next_text (w ∷ ws) = Some (w, ws)

abbrev pub within : ℕ → ℕ → Option ℕ
within most n = if nat_le n most then Some n else None

-- ---- numbers with a point

-- what stands before the point, and behind it
abbrev pub whole_part : List ℕ → List ℕ
whole_part w = before_sign 46 w

abbrev pub fraction : List ℕ → List ℕ
fraction w = behind_sign 46 w

-- up to three digits behind a point, as thousandths, and up to two, as hundredths
abbrev pub thousandths : List ℕ → Option ℕ
thousandths [] = Some 0
thousandths (a ∷ []) = number_within 10 65535 (a ∷ 48 ∷ 48 ∷ [])
thousandths (a ∷ b ∷ []) = number_within 10 65535 (a ∷ b ∷ 48 ∷ [])
thousandths (a ∷ b ∷ c ∷ []) = number_within 10 65535 (a ∷ b ∷ c ∷ [])
thousandths (a ∷ b ∷ c ∷ d ∷ w) = None

abbrev pub hundredths : List ℕ → Option ℕ
hundredths [] = Some 0
hundredths (a ∷ []) = number_within 10 255 (a ∷ 48 ∷ [])
hundredths (a ∷ b ∷ []) = number_within 10 255 (a ∷ b ∷ [])
hundredths (a ∷ b ∷ c ∷ w) = None

-- ---- a latitude and a longitude, in thousandths of a second of arc from 2^31 on, which is the equator or the prime meridian

-- whether a word is the letter of the direction that counts up, of the two of an axis, in any case
abbrev pub direction_of : Axis → List ℕ → Option Bool
direction_of a [] = None
direction_of a (c ∷ []) =
    if to_ascii_uppercase c == a.up then Some true else (if to_ascii_uppercase c == a.down then Some false else None)
direction_of a (c ∷ d ∷ w) = None

abbrev pub angle_of : Axis → Bool → ℕ → Option ℕ
angle_of a up t =
    if nat_le t a.most then Some (if up then 2147483648 + t else 2147483648 - t) else None

abbrev pub minutes_of : List ℕ → Option ℕ
minutes_of w = number_within 10 255 w >>= within 59

abbrev pub seconds_of : List ℕ → Option ℕ
seconds_of w = minutes_of (whole_part w) >>= λ s. thousandths (fraction w) >>= λ t. Some (s * 1000 + t)

abbrev pub toward : Axis → ℕ → List ℕ → Option ℕ
toward a t w = direction_of a w >>= λ up. angle_of a up t

-- behind the degrees, and behind the minutes, which are so many thousandths of a second
abbrev pub with_rest : List (List ℕ) → Option ℕ → Option (ℕ × List (List ℕ))
with_rest ws r = r >>= λ n. Some (n, ws)

abbrev pub direction_or : Axis → ℕ → List (List ℕ) → Option Bool → Option (ℕ × List (List ℕ)) → Option (ℕ × List (List ℕ))
direction_or a t ws None other = other
direction_or a t ws (Some up) other = with_rest ws (angle_of a up t)

abbrev pub behind_minutes : Axis → ℕ → List ℕ → List (List ℕ) → Option (ℕ × List (List ℕ))
behind_minutes a t w ws =
    direction_or a t ws (direction_of a w)
    (seconds_of w >>= λ s. next_text ws >>= λ d. with_rest d.1 (toward a (t + s) d.0))

abbrev pub behind_degrees : Axis → ℕ → List ℕ → List (List ℕ) → Option (ℕ × List (List ℕ))
behind_degrees a t w ws =
    direction_or a t ws (direction_of a w)
    (minutes_of w >>= λ m. next_text ws >>= λ v. behind_minutes a (t + m * 60000) v.0 v.1)

unfoldable pub next_angle : Axis → List (List ℕ) → Option (ℕ × List (List ℕ))
next_angle a ws =
    next_text ws >>= λ d.
    number_within 10 255 d.0 >>= λ degrees.
    next_text d.1 >>= λ w.
    behind_degrees a (degrees * 3600000) w.0 w.1

-- ---- lengths, in centimeters: meters with a point and an `m`, or without

abbrev pub unit_at : List ℕ → ℕ
unit_at w = sign_at 109 w

abbrev pub centimeters : List ℕ → Option ℕ
centimeters w = number_within 10 4294967295 (whole_part w) >>= λ m. hundredths (fraction w) >>= λ c. Some (m * 100 + c)

abbrev pub before_unit : List ℕ → List ℕ → Option ℕ
before_unit w [] = centimeters w
before_unit w (m ∷ []) = centimeters w
before_unit w (m ∷ c ∷ s) = None

abbrev pub length_of : List ℕ → Option ℕ
length_of w = before_unit (take (unit_at w) w) (drop (unit_at w) w)

-- an altitude, counted from 100,000 meters below
abbrev pub below_zero : ℕ → Option ℕ
below_zero n = if nat_le n 10000000 then Some (10000000 - n) else None

abbrev pub above_zero : ℕ → Option ℕ
above_zero n = if nat_le n 4284967295 then Some (10000000 + n) else None

abbrev pub altitude_of : List ℕ → Option ℕ
altitude_of [] = None
altitude_of (c ∷ w) = if c == 45 then (length_of w >>= below_zero) else (length_of (c ∷ w) >>= above_zero)

-- a size or a precision of up to 90,000,000 meters: its first digit, and the power of ten of that, in four bits each
abbrev pub power_form : ℕ → ℕ → ℕ → Option ℕ
power_form zero e n = None
power_form (suc k) e n = if nat_lt n 10 then Some (n * 16 + e) else power_form k (e + 1) (n / 10)

abbrev pub precision_of : List ℕ → Option ℕ
precision_of w = length_of w >>= λ n. within 9000000000 n >>= power_form 10 0

abbrev pub next_precision : ℕ → List (List ℕ) → Option (ℕ × List (List ℕ))
next_precision default [] = Some (default, [])
next_precision default (w ∷ ws) = with_rest ws (precision_of w)

-- ---- a location: without a size it is 1 meter, with a precision of 10,000 meters across and 10 meters up and down

abbrev pub if_last : Location → List (List ℕ) → Option Location
if_last p [] = Some p
if_last p (w ∷ ws) = None

unfoldable pub location_of : List (List ℕ) → Option Location
location_of ws =
    next_angle LATITUDE ws >>= λ latitude.
    next_angle LONGITUDE latitude.1 >>= λ longitude.
    next_text longitude.1 >>= λ a.
    altitude_of a.0 >>= λ altitude.
    next_precision 18 a.1 >>= λ size.
    next_precision 22 size.1 >>= λ horizontal.
    next_precision 19 horizontal.1 >>= λ vertical.
    if_last (record {
      size = size.0;
      horizontal = horizontal.0;
      vertical = vertical.0;
      latitude = latitude.0;
      longitude = longitude.0;
      altitude = altitude;
    }) vertical.1

-- in octets, behind version 0 (section 2)
abbrev pub location_octets : Location → List ℕ
location_octets p =
    0 ∷ p.size ∷ p.horizontal ∷ p.vertical ∷ (long p.latitude ++ (long p.longitude ++ long p.altitude))

abbrev pub location_of_line : List ℕ → Option (List ℕ)
location_of_line line = option_map location_octets (location_of (words line))
