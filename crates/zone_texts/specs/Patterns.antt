-- What a pattern of a `$GENERATE` makes of a number, as BIND has it: `$` is the number, `${OFFSET,WIDTH,BASE}` a sum in a form, `$$` and
-- `\$` are a `$`
use Rattle.std.specs.Prelude.{ℕ, zero, suc, ◌+◌, ◌-◌, ◌*◌, ◌/◌, ◌%◌, ◌==◌, ◌&&◌, not, List, [], ◌∷◌, ◌++◌, length, take, drop, Bool, true, false, nat_le, nat_lt, Option, Some, None, codes, option_map, option_and_then, if◌then◌else◌}
use Rattle.std.specs.List.{position}
use Rattle.line_text.specs.Numbers.{number_within}
use Rattle.zone_texts.specs.declared.pattern.Base.{Base}
use Rattle.zone_texts.specs.declared.pattern.Base.TheVariants.{Octal, Decimal, Hex, Nibbles}
use Rattle.zone_texts.specs.declared.pattern.Before.{Before}
use Rattle.zone_texts.specs.declared.pattern.Before.TheVariants.{Plain, Escape, Dollar, Brace}
use Rattle.zone_proto.specs.Data.{same_octets}

-- what stands before and behind the first of an octet
abbrev pub cut_by : List ℕ → Option ℕ → Option (List ℕ × List ℕ)
cut_by s None = None
cut_by s (Some i) = Some (take i s, drop (i + 1) s)

abbrev pub cut_at : ℕ → List ℕ → Option (List ℕ × List ℕ)
cut_at b s = cut_by s (position (λ x. x == b) s)

-- ---- numbers to a base

abbrev pub digit : Bool → ℕ → ℕ
digit capital d = if nat_lt d 10 then 48 + d else (if capital then 55 + d else 87 + d)

-- a number in digits, so many at most
unfoldable pub digits : Bool → (base most : ℕ) → ℕ → List ℕ
digits capital base zero n = digit capital (n % base) ∷ []
digits capital base (suc k) n =
    if nat_lt n base then digit capital (n % base) ∷ []
    else digits capital base k (n / base) ++ digit capital (n % base) ∷ []

unfoldable pub zeros : ℕ → List ℕ
zeros zero = []
zeros (suc k) = 48 ∷ zeros k

-- zeros before it fill it up to a width
abbrev pub padded : ℕ → List ℕ → List ℕ
padded width ds = zeros (width - length ds) ++ ds

-- in hex, the last digit first and a dot between two, filled up to a width that counts the dots: names below ip6.arpa
unfoldable pub nibbles : Bool → (most : ℕ) → (n width : ℕ) → List ℕ
nibbles capital zero n width = []
nibbles capital (suc k) n width =
    digit capital (n % 16)
    ∷ (if (n / 16 == 0) && nat_le width 1 then []
    else 46 ∷ (if (n / 16 == 0) && nat_le width 2 then []
    else nibbles capital k (n / 16) (width - 2)))

abbrev pub most_width : ℕ
most_width = 255

unfoldable pub number_text : Base → ℕ → ℕ → List ℕ
number_text Octal width n = padded width (digits false 8 63 n)
number_text Decimal width n = padded width (digits false 10 63 n)
number_text (Hex capital) width n = padded width (digits capital 16 63 n)
number_text (Nibbles capital) width n = nibbles capital most_width n width

-- ---- what stands in braces: OFFSET, OFFSET,WIDTH or OFFSET,WIDTH,BASE

abbrev pub base_of : List ℕ → Option Base
base_of w =
    if same_octets w (codes "d") then Some Decimal
    else (if same_octets w (codes "o") then Some Octal
    else (if same_octets w (codes "x") then Some (Hex false)
    else (if same_octets w (codes "X") then Some (Hex true)
    else (if same_octets w (codes "n") then Some (Nibbles false)
    else (if same_octets w (codes "N") then Some (Nibbles true)
    else None)))))

abbrev pub width_of : List ℕ → Option ℕ
width_of w = number_within 10 most_width w

abbrev pub width_and_base : Option (List ℕ × List ℕ) → List ℕ → Option ℕ × Option Base
width_and_base None behind = (width_of behind, Some Decimal)
width_and_base (Some x) behind = (width_of x.0, base_of x.1)

abbrev pub offset_and_form : List ℕ → Option (List ℕ × List ℕ) → List ℕ × (Option ℕ × Option Base)
offset_and_form s None = (s, (Some 0, Some Decimal))
offset_and_form s (Some x) = (x.0, width_and_base (cut_at 44 x.1) x.1)

abbrev pub parts_of : List ℕ → List ℕ × (Option ℕ × Option Base)
parts_of s = offset_and_form s (cut_at 44 s)

-- a number with an offset, which may have a sign; none where the sum is below 0
abbrev pub less : ℕ → Option ℕ → Option ℕ
less n None = None
less n (Some by) = if nat_lt n by then None else Some (n - by)

abbrev pub more : ℕ → Option ℕ → Option ℕ
more n None = None
more n (Some by) = Some (n + by)

abbrev pub offset_number : List ℕ → Option ℕ
offset_number = number_within 10 4294967295

abbrev pub with_offset : ℕ → List ℕ → Option ℕ
with_offset n [] = None
with_offset n (b ∷ s) =
    if b == 45 then less n (offset_number s)
    else (if b == 43 then more n (offset_number s)
    else more n (offset_number (b ∷ s)))

abbrev pub in_form : Option ℕ → Option ℕ → Option Base → Option (List ℕ)
in_form (Some sum) (Some width) (Some base) = Some (number_text base width sum)
in_form _ _ _ = None

unfoldable pub modified : ℕ → List ℕ → Option (List ℕ)
modified n s = let parts = parts_of s in in_form (with_offset n parts.0) parts.1.0 parts.1.1

-- ---- the pattern, octet by octet: what stands before one, and the octets behind a brace that is open

abbrev pub before_rest : List ℕ → Option (List ℕ) → Option (List ℕ)
before_rest s rest = option_map (λ r. s ++ r) rest

-- an octet behind nothing that matters: `$` and `\` begin something
abbrev pub plain_text : ℕ → List ℕ
plain_text b = if b == 36 then [] else (if b == 92 then [] else b ∷ [])

abbrev pub after_plain : ℕ → Before
after_plain b = if b == 36 then Dollar else (if b == 92 then Escape else Plain)

-- of a pattern in quotes, `\"` is a quote
abbrev pub escaped_text : Bool → ℕ → List ℕ
escaped_text quoted b = if quoted && (b == 34) then b ∷ [] else 92 ∷ b ∷ []

abbrev pub plain_number : ℕ → List ℕ
plain_number n = number_text Decimal 0 n

-- behind a `$` that neither a second one nor a brace follows is the number
abbrev pub dollar_text : ℕ → ℕ → List ℕ
dollar_text n b = if b == 36 then codes "\\$" else (if b == 123 then [] else plain_number n ++ plain_text b)

abbrev pub octet_text : Bool → ℕ → Before → List ℕ → ℕ → Option (List ℕ)
octet_text quoted n Plain inside b = Some (plain_text b)
octet_text quoted n Escape inside b = Some (escaped_text quoted b)
octet_text quoted n Dollar inside b = Some (dollar_text n b)
octet_text quoted n Brace inside b = if b == 125 then modified n inside else Some []

abbrev pub after_octet : Before → ℕ → Before
after_octet Plain b = after_plain b
after_octet Escape b = Plain
after_octet Dollar b = if b == 36 then Plain else (if b == 123 then Brace else after_plain b)
after_octet Brace b = if b == 125 then Plain else Brace

abbrev pub inside_after : Before → List ℕ → ℕ → List ℕ
inside_after Brace inside b = if b == 125 then [] else inside ++ b ∷ []
inside_after _ inside b = []

abbrev pub text_at_end : ℕ → Before → Option (List ℕ)
text_at_end n Plain = Some []
text_at_end n Escape = Some (92 ∷ [])
text_at_end n Dollar = Some (plain_number n)
text_at_end n Brace = None

abbrev pub filled_from : Bool → ℕ → Before → List ℕ → List ℕ → Option (List ℕ)
filled_from quoted n before inside [] = text_at_end n before
filled_from quoted n before inside (b ∷ s) =
    option_and_then (λ t. before_rest t (filled_from quoted n (after_octet before b) (inside_after before inside b) s)) (octet_text quoted n before inside b)

abbrev pub filled : Bool → ℕ → List ℕ → Option (List ℕ)
filled quoted n pattern = filled_from quoted n Plain [] pattern
