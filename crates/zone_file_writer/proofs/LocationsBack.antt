-- Printed locations are words, and are read as their octets.
use Rattle.std.proofs.Common.{◌≡◌, ◌≤◌, ◌<◌, ◌^◌, ℕ, zero, suc, ◌+◌, ◌-◌, ◌*◌, ◌/◌, ◌%◌, ◌==◌, List, [], ◌∷◌, ◌++◌, map, Bool, true, false, cond, Option, Some, None, Ok, refl, ap, arith}
use Rattle.std.specs.Prelude.{nat_le, slice_index}
use Rattle.std.specs.Fmt.{decimal}
use Rattle.std.specs.List.{list_all}
use Rattle.std.proofs.Math.Nat.{mul-le-mul}
use Rattle.std.proofs.lemmas.Bool.Decides.{leb_tells}
use Rattle.zone_proto.specs.TextForm.{three_digits}
use Rattle.line_text.proofs.PrintedWords.{and_both}
use Rattle.message_reading.specs.Octets.{◌>>=◌, long_of, octet_of}
use Rattle.zone_scanner.specs.declared.place.Place.{Place}
use Rattle.record_fields.specs.Fields.{left_at}
use Rattle.record_fields.specs.Lines.{line_of, next_location}
use Rattle.record_fields.specs.Locations.{location_of_line}
use Rattle.record_fields.specs.Texts.{is_generic}
use Rattle.zone_file_writer.specs.declared.locations.Location.{Location}
use Rattle.zone_file_writer.specs.declared.locations.TheConstants.{POWERS}
use Rattle.zone_file_writer.specs.Locations.{altitude_text, angle_texts, from_zero, latitude_letter, longitude_letter, is_octets, line_text, location_front, location_texts, meters_text, precision_text, seconds_text, size_text}
use Rattle.zone_file_writer.specs.Moments.{two_digits}
use Rattle.zone_file_writer.specs.Words.{Bare}
use Rattle.zone_file_writer.proofs.FieldsBack.{AreOctets}
use Rattle.zone_file_writer.proofs.Lines.{AreWordTexts, IsBareText, IsInWord, words_from}
use Rattle.zone_file_writer.proofs.OwnFirst.{decimal_own}
use Rattle.zone_file_writer.proofs.ParametersBack.{same}
use Rattle.zone_file_writer.proofs.PlacedWords.{behind, left}
use Rattle.zone_file_writer.proofs.WordTexts.{IsHarmless, decimal_text, digit_harmless, dot_harmless, harmless, harmless_in_word, in_word, in_word_append}

-- ---- the parts of octets are numbers of their size

abbrev IsLongIf : Option (ℕ × List ℕ) → Type 0
IsLongIf None = Unit {0}
IsLongIf (Some x) = (x.0 < 4294967296) × AreOctets x.1

long_front : (os : List ℕ) → AreOctets os → IsLongIf (long_of os)
long_front [] h = tt
long_front (a ∷ []) h = tt
long_front (a ∷ b ∷ []) h = tt
long_front (a ∷ b ∷ c ∷ []) h = tt
long_front (a ∷ b ∷ c ∷ d ∷ rest) h = (omega (arith, h.0, h.1.0, h.1.1.0, h.1.1.1.0), h.1.1.1.1)

abbrev IsOctetIf : Option (ℕ × List ℕ) → Type 0
IsOctetIf None = Unit {0}
IsOctetIf (Some x) = (x.0 < 256) × AreOctets x.1

octet_front : (os : List ℕ) → AreOctets os → IsOctetIf (octet_of os)
octet_front [] h = tt
octet_front (b ∷ os) h = (h.0, h.1)

record IsLocation (p : Location) : Type 0 where
  size : p.size < 256
  horizontal : p.horizontal < 256
  vertical : p.vertical < 256
  latitude : p.latitude < 4294967296
  longitude : p.longitude < 4294967296
  altitude : p.altitude < 4294967296

abbrev IsLocationIf : Option Location → Type 0
IsLocationIf None = Unit {0}
IsLocationIf (Some p) = IsLocation p

then_octet : (os : List ℕ) (more : ℕ × List ℕ → Option Location) → AreOctets os
    → ((x : ℕ × List ℕ) → x.0 < 256 → AreOctets x.1 → IsLocationIf (more x)) → IsLocationIf (octet_of os >>= more)
then_octet os more h next = by (octet_of os) (octet_front os h)
  where
    by : (o : Option (ℕ × List ℕ)) → IsOctetIf o → IsLocationIf (o >>= more)
    by None k = tt
    by (Some x) k = next x k.0 k.1

then_long : (os : List ℕ) (more : ℕ × List ℕ → Option Location) → AreOctets os
    → ((x : ℕ × List ℕ) → x.0 < 4294967296 → AreOctets x.1 → IsLocationIf (more x)) → IsLocationIf (long_of os >>= more)
then_long os more h next = by (long_of os) (long_front os h)
  where
    by : (o : Option (ℕ × List ℕ)) → IsLongIf o → IsLocationIf (o >>= more)
    by None k = tt
    by (Some x) k = next x k.0 k.1

parts_small : (os : List ℕ) → AreOctets os → IsLocationIf (location_front os)
unfolding location_front
parts_small os h =
    then_octet os _ h (λ v iv hv.
    then_octet v.1 _ hv (λ s is hs.
    then_octet s.1 _ hs (λ a ia ha.
    then_octet a.1 _ ha (λ b ib hb.
    then_long b.1 _ hb (λ c ic hc.
    then_long c.1 _ hc (λ d id hd.
    then_long d.1 _ hd (λ e ie he.
    record { size = is; horizontal = ia; vertical = ib; latitude = ic; longitude = id; altitude = ie })))))))

-- ---- the words are texts

bare_append : (s t : List ℕ) → IsBareText s → IsInWord false t → IsBareText (s ++ t)
bare_append [] t h k = absurd h
bare_append (b ∷ s) t h k = in_word_append (b ∷ s) t false h k

letter_m : IsHarmless 109
letter_m = harmless 109 (omega arith) refl refl

three_in_word : (n : ℕ) → n < 1000 → IsInWord false (46 ∷ three_digits n)
three_in_word n h =
    harmless_in_word 46 (three_digits n) dot_harmless
    (harmless_in_word (48 + n / 100) ((48 + n / 10 % 10) ∷ (48 + n % 10) ∷ []) (digit_harmless (n / 100) (omega arith))
    (harmless_in_word (48 + n / 10 % 10) ((48 + n % 10) ∷ []) (digit_harmless (n / 10 % 10) (omega arith))
    (harmless_in_word (48 + n % 10) [] (digit_harmless (n % 10) (omega arith)) tt)))

seconds_is_text : (t : ℕ) → t < 2 ^ 64 → IsBareText (seconds_text t)
seconds_is_text t h = bare_append (decimal (t / 1000)) (46 ∷ three_digits (t % 1000)) (decimal_text (t / 1000) (omega (arith, h))) (three_in_word (t % 1000) (omega arith))

letter_harmless : (up down n : ℕ) → IsHarmless up → IsHarmless down → IsHarmless (cond (nat_le 2147483648 n) up down)
letter_harmless up down n h k = by (nat_le 2147483648 n)
  where
    by : (b : Bool) → IsHarmless (cond b up down)
    by true = h
    by false = k

from_zero_small : (n : ℕ) → n < 4294967296 → from_zero n < 2 ^ 64
from_zero_small n h = by (nat_le 2147483648 n)
  where
    by : (b : Bool) → cond b (n - 2147483648) (2147483648 - n) < 2 ^ 64
    by true = omega (arith, h)
    by false = omega (arith, h)

abbrev AreTexts : List (List ℕ) → Type 0
AreTexts ts = AreWordTexts (map Bare ts)

angle_is_text : (letter n : ℕ) (ts : List (List ℕ)) → n < 4294967296 → IsHarmless letter → AreTexts ts → AreTexts (angle_texts letter n ++ ts)
angle_is_text letter n ts h plain more =
    let small = from_zero_small n h in (
      decimal_text (from_zero n / 3600000) (omega (arith, small)),
      (
        decimal_text (from_zero n / 60000 % 60) (omega (arith, small)),
        (
          seconds_is_text (from_zero n % 60000) (omega (arith, small)),
          (harmless_in_word letter [] plain tt, more),
        ),
      ),
    )

meters_is_text : (n : ℕ) → n < 2 ^ 64 → IsBareText (meters_text n)
meters_is_text n h =
    bare_append (decimal (n / 100)) (46 ∷ (two_digits (n % 100) ++ 109 ∷ [])) (decimal_text (n / 100) (omega (arith, h)))
    (harmless_in_word 46 (two_digits (n % 100) ++ 109 ∷ []) dot_harmless
    (harmless_in_word (48 + n % 100 / 10 % 10) ((48 + n % 100 % 10) ∷ 109 ∷ []) (digit_harmless (n % 100 / 10 % 10) (omega arith))
    (harmless_in_word (48 + n % 100 % 10) (109 ∷ []) (digit_harmless (n % 100 % 10) (omega arith))
    (harmless_in_word 109 [] letter_m tt))))

altitude_is_text : (n : ℕ) → n < 4294967296 → IsBareText (altitude_text n)
altitude_is_text n h = by (nat_le 10000000 n)
  where
    by : (b : Bool) → IsBareText (cond b (meters_text (n - 10000000)) (45 ∷ meters_text (10000000 - n)))
    by true = meters_is_text (n - 10000000) (omega (arith, h))
    by false =
        harmless_in_word 45 (meters_text (10000000 - n)) (harmless 45 (omega arith) refl refl)
        (in_word (meters_text (10000000 - n)) (meters_is_text (10000000 - n) (omega arith)))

size_is_text : (n : ℕ) → n < 2 ^ 64 → IsBareText (size_text n)
size_is_text n h = by (n % 100 == 0)
  where
    by : (b : Bool) → IsBareText (cond b (decimal (n / 100) ++ 109 ∷ []) (meters_text n))
    by true = bare_append (decimal (n / 100)) (109 ∷ []) (decimal_text (n / 100) (omega (arith, h))) (harmless_in_word 109 [] letter_m tt)
    by false = meters_is_text n h

all_small : (xs : List ℕ) (k : ℕ) → list_all (λ x. nat_le x 1000000000) xs ≡ true → slice_index xs k ≤ 1000000000
all_small [] k h = omega arith
all_small (x ∷ xs) zero h =
    let both = and_both (nat_le x 1000000000) (list_all (λ y. nat_le y 1000000000) xs) h in grind (arith, leb_tells)
all_small (x ∷ xs) (suc k) h =
    let both = and_both (nat_le x 1000000000) (list_all (λ y. nat_le y 1000000000) xs) h in all_small xs k both.1

precision_is_text : (b : ℕ) → b < 256 → IsBareText (precision_text b)
precision_is_text b h =
    let most : b / 16 * slice_index POWERS (b % 16) ≤ 15 * 1000000000 =
    mul-le-mul {n₁ = b / 16} {m₁ = slice_index POWERS (b % 16)} {n₂ = 15} {m₂ = 1000000000} (omega (arith, h)) (all_small POWERS (b % 16) refl) in
    size_is_text (b / 16 * slice_index POWERS (b % 16)) (omega (arith, most))

location_is_texts : (p : Location) → IsLocation p → AreTexts (location_texts p)
location_is_texts p h =
    let lengths : List (List ℕ) = altitude_text p.altitude ∷ precision_text p.size ∷ precision_text p.horizontal ∷ precision_text p.vertical ∷ [] in
    angle_is_text (latitude_letter p.latitude) p.latitude (angle_texts (longitude_letter p.longitude) p.longitude ++ lengths) h.latitude
    (letter_harmless 78 83 p.latitude (harmless 78 (omega arith) refl refl) (harmless 83 (omega arith) refl refl))
    (angle_is_text (longitude_letter p.longitude) p.longitude lengths h.longitude
    (letter_harmless 69 87 p.longitude (harmless 69 (omega arith) refl refl) (harmless 87 (omega arith) refl refl))
    (altitude_is_text p.altitude h.altitude, (precision_is_text p.size h.size, (precision_is_text p.horizontal h.horizontal, (precision_is_text p.vertical h.vertical, tt)))))

-- ---- and are read

line_read : (ts : List (List ℕ)) (p : Place) → line_of (words_from p (map Bare ts)) ≡ Ok (line_text ts)
line_read [] p = refl
line_read (t ∷ ts) p = rw (line_read ts (behind p (Bare t))) refl

pub read_is : (os : List ℕ) (r : Option (List ℕ)) → is_octets os r ≡ true → r ≡ Some os
read_is os None h = absurd (cc)
read_is os (Some read) h = ap (λ (t : List ℕ). Some t) (same read os h)

line_back : (os : List ℕ) (ts : List (List ℕ)) (q r : Place) → location_of_line (line_text ts) ≡ Some os → next_location (left q r (map Bare ts)) ≡ Ok (os, left_at q [])
line_back os ts q r h = rw (line_read ts r, h) refl

pub record IsLocationBack (os : List ℕ) (ts : List (List ℕ)) : Type 0 where
  pub texts : AreWordTexts (map Bare ts)
  pub own : (p : Place) → is_generic (words_from p (map Bare ts)) ≡ false
  pub read : (q p : Place) → next_location (left q p (map Bare ts)) ≡ Ok (os, left_at q [])

pub location_back : (os : List ℕ) (p : Location) → AreOctets os → location_front os ≡ Some p → is_octets os (location_of_line (line_text (location_texts p))) ≡ true
    → IsLocationBack os (location_texts p)
location_back os p h front read =
    let small : IsLocation p = rw front at (parts_small os h) in
    record {
      texts = location_is_texts p small;
      own = λ q. decimal_own (from_zero p.latitude / 3600000) (omega (arith, from_zero_small p.latitude small.latitude));
      read = λ q r. line_back os (location_texts p) q r (read_is os (location_of_line (line_text (location_texts p))) read);
    }
