-- Locations (RFC 1876 section 3), printed
use Rattle.std.specs.Prelude.{ℕ, ◌-◌, ◌*◌, ◌/◌, ◌%◌, ◌==◌, nat_le, List, [], ◌∷◌, ◌++◌, map, slice_index, Bool, false, Option, Some, None, if◌then◌else◌}
use Rattle.std.specs.Fmt.{decimal}
use Rattle.std.specs.List.{flat_map}
use Rattle.zone_proto.specs.Data.{same_octets}
use Rattle.zone_proto.specs.TextForm.{three_digits}
use Rattle.message_reading.specs.Octets.{◌>>=◌, long_of, octet_of}
use Rattle.record_fields.specs.Locations.{location_of_line}
use Rattle.zone_file_writer.specs.declared.locations.Location.{Location}
use Rattle.zone_file_writer.specs.declared.locations.TheConstants.{POWERS}
use Rattle.zone_file_writer.specs.Moments.{two_digits}
use Rattle.zone_file_writer.specs.Words.{PrintedWord, Bare}

-- an angle: degrees, minutes, seconds with three digits behind a point, and a direction
abbrev pub from_zero : ℕ → ℕ
from_zero n = if nat_le 2147483648 n then n - 2147483648 else 2147483648 - n

abbrev pub latitude_letter : ℕ → ℕ
latitude_letter n = if nat_le 2147483648 n then 78 else 83

abbrev pub longitude_letter : ℕ → ℕ
longitude_letter n = if nat_le 2147483648 n then 69 else 87

abbrev pub seconds_text : ℕ → List ℕ
seconds_text t = decimal (t / 1000) ++ 46 ∷ three_digits (t % 1000)

abbrev pub numbers_of : ℕ → List (List ℕ)
numbers_of t = decimal (t / 3600000) ∷ decimal (t / 60000 % 60) ∷ seconds_text (t % 60000) ∷ []

abbrev pub angle_texts : ℕ → ℕ → List (List ℕ)
angle_texts letter n = numbers_of (from_zero n) ++ (letter ∷ []) ∷ []

-- a length in meters with two digits behind a point, which whole meters are without
abbrev pub meters_text : ℕ → List ℕ
meters_text n = decimal (n / 100) ++ 46 ∷ (two_digits (n % 100) ++ 109 ∷ [])

abbrev pub altitude_text : ℕ → List ℕ
altitude_text n = if nat_le 10000000 n then meters_text (n - 10000000) else 45 ∷ meters_text (10000000 - n)

abbrev pub size_text : ℕ → List ℕ
size_text n = if n % 100 == 0 then decimal (n / 100) ++ 109 ∷ [] else meters_text n

abbrev pub precision_text : ℕ → List ℕ
precision_text b = size_text (b / 16 * slice_index POWERS (b % 16))

-- the parts at the front of octets, behind a version, and their words
unfoldable pub location_front : List ℕ → Option Location
location_front os =
    octet_of os >>= λ version.
    octet_of version.1 >>= λ size.
    octet_of size.1 >>= λ horizontal.
    octet_of horizontal.1 >>= λ vertical.
    long_of vertical.1 >>= λ latitude.
    long_of latitude.1 >>= λ longitude.
    long_of longitude.1 >>= λ altitude.
    Some (record {
      size = size.0;
      horizontal = horizontal.0;
      vertical = vertical.0;
      latitude = latitude.0;
      longitude = longitude.0;
      altitude = altitude.0;
    })

abbrev pub location_texts : Location → List (List ℕ)
location_texts p =
    angle_texts (latitude_letter p.latitude) p.latitude
    ++ (angle_texts (longitude_letter p.longitude) p.longitude
    ++ (altitude_text p.altitude ∷ precision_text p.size ∷ precision_text p.horizontal ∷ precision_text p.vertical ∷ []))

-- Octets are printed so where the words are read as these octets. Others, as such of another version, have no form but `\#`.
abbrev pub line_text : List (List ℕ) → List ℕ
line_text = flat_map (λ t. 32 ∷ t)

abbrev pub is_octets : List ℕ → Option (List ℕ) → Bool
is_octets os None = false
is_octets os (Some read) = same_octets read os

abbrev pub if_read : List ℕ → List (List ℕ) → Option (List PrintedWord)
if_read os ts = if is_octets os (location_of_line (line_text ts)) then Some (map Bare ts) else None

abbrev pub location_words : List ℕ → Option (List PrintedWord)
location_words os = location_front os >>= λ p. if_read os (location_texts p)
