-- The words of a location, put behind a text
use Rattle.std.proofs.Common.{◌≡◌, ℕ, List, [], ◌∷◌, ◌++◌, map, true, false, Some, None, refl, sym, ap, ◌∙◌}
use Rattle.record_fields.specs.Locations.{location_of_line}
use Rattle.zone_file_writer.specs.declared.locations.Location.{Location}
use Rattle.zone_file_writer.specs.Locations.{is_octets, line_text, location_front, location_texts, location_words}
use Rattle.zone_file_writer.specs.Rows.{behind_spaces, ended}
use Rattle.zone_file_writer.specs.Words.{Bare}

spaced : (ts : List (List ℕ)) → line_text ts ≡ behind_spaces (map Bare ts)
spaced [] = refl
spaced (t ∷ ts) = ap (λ (s : List ℕ). (32 ∷ t) ++ s) (spaced ts)

pub no_location : (os text : List ℕ) → None ≡ location_front os → ended text (location_words os) ≡ None
no_location os text h = rw (sym h) refl

pub location_read : (os text new line : List ℕ) (p : Location) → Some p ≡ location_front os → line ≡ line_text (location_texts p)
    → true ≡ is_octets os (location_of_line line) → new ≡ text ++ line → Some new ≡ ended text (location_words os)
location_read os text new line p of is read h =
    let yes : is_octets os (location_of_line (line_text (location_texts p))) ≡ true = ap (λ (t : List ℕ). is_octets os (location_of_line t)) (sym is) ∙ sym read in
    rw (sym of, yes, h, is) (ap (λ (s : List ℕ). Some (text ++ s)) (spaced (location_texts p)))

pub not_read : (os text line : List ℕ) (p : Location) → Some p ≡ location_front os → line ≡ line_text (location_texts p)
    → false ≡ is_octets os (location_of_line line) → ended text (location_words os) ≡ None
not_read os text line p of is read =
    let no : is_octets os (location_of_line (line_text (location_texts p))) ≡ false = ap (λ (t : List ℕ). is_octets os (location_of_line t)) (sym is) ∙ sym read in
    rw (sym of, no) refl
