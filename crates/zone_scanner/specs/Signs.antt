-- What each octet of a master file stands for (RFC 1035 section 5.1)
use Rattle.std.specs.Prelude.{ℕ, ◌+◌, List, [], ◌∷◌, Bool, true, false, ◌||◌, ◌&&◌, not, ◌==◌, min, if◌then◌else◌, Option, Some, None}
use Rattle.zone_scanner.specs.declared.place.Place.{Place}
use Rattle.zone_scanner.specs.declared.fault.EntryFault.{EntryFault}
use Rattle.zone_scanner.specs.declared.fault.EntryReason.{EntryReason}
use Rattle.zone_scanner.specs.declared.fault.EntryReason.TheVariants.{OpenQuote, OpenEscape}
use Rattle.zone_scanner.specs.declared.signs.Sign.{Sign}
use Rattle.zone_scanner.specs.declared.signs.Sign.TheVariants.{Blank, LineEnd, Opens, Closes, Quote, Unquote, Octet, Wrong}
use Rattle.zone_scanner.specs.declared.signs.Mode.{Mode}
use Rattle.zone_scanner.specs.declared.signs.Mode.TheVariants.{Plain, Escape, InQuotes, EscapeInQuotes, InComment}

-- `;` begins a comment, `"` a text in quotes, `\` an escape, and parentheses group
abbrev pub semicolon : ℕ
semicolon = 59

abbrev pub quote : ℕ
quote = 34

abbrev pub backslash : ℕ
backslash = 92

abbrev pub opening : ℕ
opening = 40

abbrev pub closing : ℕ
closing = 41

abbrev pub line_feed : ℕ
line_feed = 10

-- a line ends at a line feed or a carriage return; where lines end with both, an empty line stands between the two
abbrev pub ends_line : ℕ → Bool
ends_line b = b == line_feed || b == 13

-- a space or a tab
abbrev pub is_blank : ℕ → Bool
is_blank b = b == 32 || b == 9

-- Places: lines are counted by line feeds alone, and columns by octets; both up to 2^64 - 1
abbrev pub first_place : Place
first_place = record { line = 1; column = 1 }

abbrev pub next_number : ℕ → ℕ
next_number n = min (n + 1) 18446744073709551615

abbrev pub place_behind : Place → ℕ → Place
place_behind p b =
    if b == line_feed then record { line = next_number p.line; column = 1 }
    else record { line = p.line; column = next_number p.column }

-- what is wrong at a place
abbrev pub fault : Place → EntryReason → EntryFault
fault p why = record { place = p; reason = why }

-- outside of quotes and comments
abbrev pub plain_sign : ℕ → Sign
plain_sign b =
    if is_blank b || b == semicolon then Blank
    else (if ends_line b then LineEnd
    else (if b == opening then Opens
    else (if b == closing then Closes
    else (if b == quote then Quote
    else Octet b))))

-- behind a backslash, which takes the special meaning from any octet but from an end of a line
abbrev pub escaped_sign : Place → ℕ → Sign
escaped_sign p b = if ends_line b then Wrong (fault p OpenEscape) else Octet b

-- What an octet stands for. Quotes take the special meaning from all but the quote that closes them and a backslash, and have
-- to close in their line; the octets of a comment are blanks up to the line feed that ends the line.
abbrev pub sign_of : Mode → Place → ℕ → Sign
sign_of Plain p b = plain_sign b
sign_of Escape p b = escaped_sign p b
sign_of (InQuotes q) p b =
    if b == quote then Unquote
    else (if b == line_feed then Wrong (fault q OpenQuote)
    else Octet b)
sign_of (EscapeInQuotes q) p b = escaped_sign p b
sign_of InComment p b = if b == line_feed then LineEnd else Blank

-- and what the next octet comes after
abbrev pub mode_after : Mode → Place → ℕ → Mode
mode_after Plain p b =
    if b == semicolon then InComment
    else (if b == quote then InQuotes p
    else (if b == backslash then Escape
    else Plain))
mode_after Escape p b = Plain
mode_after (InQuotes q) p b =
    if b == quote then Plain
    else (if b == backslash then EscapeInQuotes q
    else InQuotes q)
mode_after (EscapeInQuotes q) p b = InQuotes q
mode_after InComment p b = if b == line_feed then Plain else InComment

-- an octet is one of a word, wherever it stands, and leaves what the next one comes after as it is
abbrev pub goes_on : Mode → ℕ → Bool
goes_on Plain b =
    not (is_blank b || b == semicolon) && (not (ends_line b) && (not (b == opening) && (not (b == closing)
    && (not (b == quote) && not (b == backslash)))))
goes_on Escape b = false
goes_on (InQuotes q) b = not (b == quote) && (not (b == line_feed) && not (b == backslash))
goes_on (EscapeInQuotes q) b = false
goes_on InComment b = false

-- the place so many octets further in the same line
abbrev pub place_along : Place → ℕ → Place
place_along p n = record { line = p.line; column = min (p.column + n) 18446744073709551615 }

-- a text may not end within quotes or behind a backslash
abbrev pub fault_at_end : Mode → Place → Option EntryFault
fault_at_end Plain p = None
fault_at_end Escape p = Some (fault p OpenEscape)
fault_at_end (InQuotes q) p = Some (fault q OpenQuote)
fault_at_end (EscapeInQuotes q) p = Some (fault p OpenEscape)
fault_at_end InComment p = None

-- whether a word that begins behind a sign is joined to the word before it: no blank stands between
abbrev pub joins : Sign → Bool
joins Blank = false
joins LineEnd = false
joins Opens = false
joins Closes = false
joins Quote = false
joins Unquote = true
joins (Octet b) = true
joins (Wrong f) = false

-- an octet of a text: where it stands, whether a word that begins with it is joined to the one before, and its sign
pub record Mark : Type 0 where
  pub place : Place
  pub joined : Bool
  pub sign : Sign

-- The marks of a text: of the first octet behind such a mode, at this place, and joined or not; and of all that follow
abbrev pub marks_from : List ℕ → Mode → Place → Bool → List Mark
marks_from [] mode p joined = []
marks_from (b ∷ s) mode p joined =
    record { place = p; joined = joined; sign = sign_of mode p b }
    ∷ marks_from s (mode_after mode p b) (place_behind p b) (joins (sign_of mode p b))

-- the fault of a text that may not end where it ends
abbrev pub end_from : List ℕ → Mode → Place → Option EntryFault
end_from [] mode p = fault_at_end mode p
end_from (b ∷ s) mode p = end_from s (mode_after mode p b) (place_behind p b)
