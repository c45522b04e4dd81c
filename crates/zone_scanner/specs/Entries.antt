-- The entries of a master file (RFC 1035 section 5.1): its octets are marked (`Signs`), marks between parentheses lose their
-- line ends, lines are cut at the ends that are left, and words at blanks, parentheses and quotes
use Rattle.std.specs.Prelude.{ℕ, ◌+◌, List, [], ◌∷◌, Bool, true, false, nat_le, if◌then◌else◌, Option, Some, None}
use Rattle.std.specs.List.{flat_map}
use Rattle.zone_scanner.specs.declared.place.Place.{Place}
use Rattle.zone_scanner.specs.declared.fault.EntryFault.{EntryFault}
use Rattle.zone_scanner.specs.declared.fault.EntryReason.TheVariants.{Nested, Unopened, Unclosed, TooLong}
use Rattle.zone_scanner.specs.declared.signs.Sign.{Sign}
use Rattle.zone_scanner.specs.declared.signs.Sign.TheVariants.{Blank, LineEnd, Opens, Closes, Quote, Unquote, Octet, Wrong}
use Rattle.zone_scanner.specs.declared.signs.Mode.TheVariants.{Plain}
use Rattle.zone_scanner.specs.Signs.{Mark, marks_from, end_from, first_place, fault}

-- a word of an entry: where it begins, whether it is in quotes, whether no blank stands between it and the word before,
-- and its octets, with its escapes and without its quotes
pub record WordText : Type 0 where
  pub place : Place
  pub quoted : Bool
  pub joined : Bool
  pub octets : List ℕ

-- an entry: whether a blank is at the beginning of its line, and its words
pub record EntryWords : Type 0 where
  pub indented : Bool
  pub words : List WordText

-- an entry of a text, or its first fault, with which reading ends
pub data Event : Type 0 where
  Whole : EntryWords → Event
  Broken : EntryFault → Event

-- the first of two faults
abbrev pub first_fault : Option EntryFault → Option EntryFault → Option EntryFault
first_fault (Some f) other = Some f
first_fault None other = other

-- Faults. A parenthesis that opens within parentheses is one, and one that closes none; and the octet with which an entry has
-- more than 1,048,576 octets of words and opening quotes. `group` is the place of the parenthesis that is open, if one is, and
-- `size` how many such octets the entry has so far.
abbrev pub entry_limit : ℕ
entry_limit = 1048576

abbrev pub too_long : Place → ℕ → Option EntryFault
too_long p size = if nat_le entry_limit size then Some (fault p TooLong) else None

abbrev pub opens_at : Place → Option Place → Option EntryFault
opens_at p (Some q) = Some (fault p Nested)
opens_at p None = None

abbrev pub closes_at : Place → Option Place → Option EntryFault
closes_at p (Some q) = None
closes_at p None = Some (fault p Unopened)

abbrev pub fault_at : Sign → Place → Option Place → ℕ → Option EntryFault
fault_at Blank p group size = None
fault_at LineEnd p group size = None
fault_at Opens p group size = opens_at p group
fault_at Closes p group size = closes_at p group
fault_at Quote p group size = too_long p size
fault_at Unquote p group size = None
fault_at (Octet b) p group size = too_long p size
fault_at (Wrong f) p group size = Some f

abbrev pub open_after : Sign → Place → Option Place → Option Place
open_after Blank p group = group
open_after LineEnd p group = group
open_after Opens p group = Some p
open_after Closes p group = None
open_after Quote p group = group
open_after Unquote p group = group
open_after (Octet b) p group = group
open_after (Wrong f) p group = group

abbrev pub size_at_end : Option Place → ℕ → ℕ
size_at_end (Some q) size = size
size_at_end None size = 0

abbrev pub size_after : Sign → Option Place → ℕ → ℕ
size_after Blank group size = size
size_after LineEnd group size = size_at_end group size
size_after Opens group size = size
size_after Closes group size = size
size_after Quote group size = size + 1
size_after Unquote group size = size
size_after (Octet b) group size = size + 1
size_after (Wrong f) group size = size

-- a text may not end within parentheses
abbrev pub unclosed : Option Place → Option EntryFault
unclosed (Some q) = Some (fault q Unclosed)
unclosed None = None

-- the first fault of marks, behind which the text may end, or not
abbrev pub fault_from : List Mark → Option EntryFault → Option Place → ℕ → Option EntryFault
fault_from [] ending group size = first_fault ending (unclosed group)
fault_from (m ∷ ms) ending group size =
    first_fault (fault_at m.sign m.place group size)
    (fault_from ms ending (open_after m.sign m.place group) (size_after m.sign group size))

-- Parentheses. "Line terminations are not recognized within parentheses": there they are blanks.
abbrev pub in_group : Sign → Option Place → Sign
in_group LineEnd (Some q) = Blank
in_group LineEnd None = LineEnd
in_group Blank group = Blank
in_group Opens group = Opens
in_group Closes group = Closes
in_group Quote group = Quote
in_group Unquote group = Unquote
in_group (Octet b) group = Octet b
in_group (Wrong f) group = Wrong f

abbrev pub unless_wrong : Option EntryFault → List Mark → List Mark
unless_wrong (Some f) ms = []
unless_wrong None ms = ms

-- the marks before the first fault, with blanks for the line ends between parentheses
abbrev pub grouped : List Mark → Option Place → ℕ → List Mark
grouped [] group size = []
grouped (m ∷ ms) group size =
    unless_wrong (fault_at m.sign m.place group size)
    (record m { sign = in_group m.sign group } ∷ grouped ms (open_after m.sign m.place group) (size_after m.sign group size))

-- Lines. "Entries are predominantly line-oriented": each is one line, once the line ends between parentheses are blanks.
abbrev pub on_front : Mark → List (List Mark) → List (List Mark)
on_front m [] = (m ∷ []) ∷ []
on_front m (p ∷ ps) = (m ∷ p) ∷ ps

abbrev pub line_by : Sign → Mark → List (List Mark) → List (List Mark)
line_by LineEnd m ls = [] ∷ ls
line_by Blank m ls = on_front m ls
line_by Opens m ls = on_front m ls
line_by Closes m ls = on_front m ls
line_by Quote m ls = on_front m ls
line_by Unquote m ls = on_front m ls
line_by (Octet b) m ls = on_front m ls
line_by (Wrong f) m ls = on_front m ls

abbrev pub lines : List Mark → List (List Mark)
lines [] = [] ∷ []
lines (m ∷ ms) = line_by m.sign m (lines ms)

-- Words. Blanks, parentheses and closing quotes stand between words, and an opening quote begins a word.
abbrev pub cut_by : Sign → Mark → List (List Mark) → List (List Mark)
cut_by (Octet b) m ps = on_front m ps
cut_by Quote m ps = [] ∷ on_front m ps
cut_by Unquote m ps = [] ∷ ps
cut_by Blank m ps = [] ∷ ps
cut_by Opens m ps = [] ∷ ps
cut_by Closes m ps = [] ∷ ps
cut_by LineEnd m ps = [] ∷ ps
cut_by (Wrong f) m ps = [] ∷ ps

abbrev pub pieces : List Mark → List (List Mark)
pieces [] = [] ∷ []
pieces (m ∷ ms) = cut_by m.sign m (pieces ms)

abbrev pub octets_by : Sign → List ℕ
octets_by (Octet b) = b ∷ []
octets_by Quote = []
octets_by Unquote = []
octets_by Blank = []
octets_by Opens = []
octets_by Closes = []
octets_by LineEnd = []
octets_by (Wrong f) = []

abbrev pub octets_of : List Mark → List ℕ
octets_of ms = flat_map (λ m. octets_by m.sign) ms

abbrev pub is_quote : Sign → Bool
is_quote Quote = true
is_quote Unquote = false
is_quote Blank = false
is_quote Opens = false
is_quote Closes = false
is_quote LineEnd = false
is_quote (Octet b) = false
is_quote (Wrong f) = false

-- the word of a piece; an empty piece has none
abbrev pub words_of_piece : List Mark → List WordText
words_of_piece [] = []
words_of_piece (m ∷ ms) =
    record { place = m.place; quoted = is_quote m.sign; joined = m.joined; octets = octets_of (m ∷ ms) } ∷ []

abbrev pub words_of_line : List Mark → List WordText
words_of_line l = flat_map words_of_piece (pieces l)

-- a line is indented if a blank is at its beginning
abbrev pub is_blank_sign : Sign → Bool
is_blank_sign Blank = true
is_blank_sign LineEnd = false
is_blank_sign Opens = false
is_blank_sign Closes = false
is_blank_sign Quote = false
is_blank_sign Unquote = false
is_blank_sign (Octet b) = false
is_blank_sign (Wrong f) = false

abbrev pub is_indented : List Mark → Bool
is_indented [] = false
is_indented (m ∷ ms) = is_blank_sign m.sign

-- the entry of a line; a line without words has none
abbrev pub entry_of : Bool → List WordText → Option EntryWords
entry_of indented [] = None
entry_of indented (w ∷ ws) = Some (record { indented = indented; words = w ∷ ws })

abbrev pub entry_of_line : List Mark → Option EntryWords
entry_of_line l = entry_of (is_indented l) (words_of_line l)

-- an entry, if there is one, and the events behind it
abbrev pub with_entry : Option EntryWords → List Event → List Event
with_entry None es = es
with_entry (Some e) es = Whole e ∷ es

-- The text: the entries of its lines; or, where it has a fault, of the lines before the one in which reading ends, and the fault
abbrev pub events_of_lines : Option EntryFault → List (List Mark) → List Event
events_of_lines None [] = []
events_of_lines None (l ∷ ls) = with_entry (entry_of_line l) (events_of_lines None ls)
events_of_lines (Some f) [] = Broken f ∷ []
events_of_lines (Some f) (l ∷ []) = Broken f ∷ []
events_of_lines (Some f) (l ∷ k ∷ ls) = with_entry (entry_of_line l) (events_of_lines (Some f) (k ∷ ls))

abbrev pub marks_of : List ℕ → List Mark
marks_of text = marks_from text Plain first_place false

abbrev pub fault_of_text : List ℕ → Option EntryFault
fault_of_text text = fault_from (marks_of text) (end_from text Plain first_place) None 0

abbrev pub events_of : List ℕ → List Event
events_of text = events_of_lines (fault_of_text text) (lines (grouped (marks_of text) None 0))
