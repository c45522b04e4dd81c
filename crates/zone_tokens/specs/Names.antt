-- Names as zone files write them (RFC 1035 section 5.1)
use Rattle.std.specs.Prelude.{◌≡◌, ℕ, ◌==◌, List, [], ◌∷◌, ◌++◌, Bool, true, false, ◌&&◌, not, length, Option, Some, None, Result, Ok, Err, if◌then◌else◌}
use Rattle.std.specs.List.{list_all}
use Rattle.zone_proto.specs.declared.error.ProtoError.{ProtoError}
use Rattle.zone_proto.specs.declared.error.ProtoError.TheVariants.{BadText, Memory, EmptyLabel, LabelTooLong, NameTooLong, Hash}
use Rattle.zone_proto.specs.Names.{Name}
use Rattle.zone_proto.specs.Data.{same_octets}
use Rattle.zone_proto.specs.Faults.{fault_of}
use Rattle.zone_proto.specs.Parse.{labels_of_text}
use Rattle.zone_proto.specs.TextForm.{dot, backslash, is_graphic, three_digits}

-- `@` stands for the origin
abbrev pub at_sign : List ℕ
at_sign = 64 ∷ []

-- a name is absolute if it ends with a dot that no backslash comes before
abbrev pub is_absolute : List ℕ → Bool
is_absolute [] = false
is_absolute (b ∷ []) = b == dot
is_absolute (b ∷ c ∷ s) = if b == backslash then is_absolute s else is_absolute (c ∷ s)

-- an octet of a name's text is itself (`TextForm`): it is graphic, no dot and no backslash
abbrev pub is_itself : ℕ → Bool
is_itself b = is_graphic b && (not (b == dot) && not (b == backslash))

-- a word is the text of one label, in which each octet is itself
abbrev pub is_one_label : List ℕ → Bool
is_one_label w = not (length w == 0) && list_all is_itself w

-- labels, or the fault that keeps them from being a name
abbrev pub unless : Option ProtoError → Name → Result Name ProtoError
unless None n = Ok n
unless (Some e) n = Err e

abbrev pub checked : Name → Result Name ProtoError
checked ls = unless (fault_of ls) ls

abbrev pub checked_if_there : Option Name → Result Name ProtoError
checked_if_there None = Err BadText
checked_if_there (Some ls) = checked ls

-- the name of a text of graphic octets, or why it is none: it isn't a name's, or the labels that it writes are no name
abbrev pub graphic_name : List ℕ → Result Name ProtoError
graphic_name w = checked_if_there (labels_of_text w)

-- a word with the digits of each octet that isn't graphic and stands behind a backslash: `\ ` is `\032` (RFC 1035 section 5.1)
abbrev pub spelled_from : Bool → List ℕ → List ℕ
spelled_from behind [] = []
spelled_from true (b ∷ s) = (if is_graphic b then b ∷ [] else three_digits b) ++ spelled_from false s
spelled_from false (b ∷ s) = b ∷ spelled_from (b == backslash) s

abbrev pub spelled : List ℕ → List ℕ
spelled w = spelled_from false w

-- the name of a word by itself, or why it is none
abbrev pub unless_spelled : List ℕ → Result Name ProtoError → Result Name ProtoError
unless_spelled w (Ok n) = Ok n
unless_spelled w (Err BadText) = graphic_name (spelled w)
unless_spelled w (Err EmptyLabel) = Err EmptyLabel
unless_spelled w (Err LabelTooLong) = Err LabelTooLong
unless_spelled w (Err NameTooLong) = Err NameTooLong
unless_spelled w (Err Hash) = Err Hash
unless_spelled w (Err Memory) = Err Memory

abbrev pub name_alone : List ℕ → Result Name ProtoError
name_alone w = unless_spelled w (graphic_name w)

-- a name before the origin, or why both are none: they are too long
abbrev pub before_origin : Name → Result Name ProtoError → Result Name ProtoError
before_origin origin (Ok n) = checked (n ++ origin)
before_origin origin (Err e) = Err e

-- a name as a word writes it: the origin for `@`; an absolute name as it is; any other one with the origin behind it
abbrev pub name_under : Name → List ℕ → Result Name ProtoError
name_under origin w =
    if same_octets w at_sign then Ok origin
    else (if is_absolute w then name_alone w
    else before_origin origin (name_alone w))

-- a call answers what is read, unless memory ran out
abbrev pub Refuses : ProtoError → Result Name ProtoError → Type 0
Refuses Memory read = Unit {0}
Refuses BadText read = read ≡ Err BadText
Refuses EmptyLabel read = read ≡ Err EmptyLabel
Refuses LabelTooLong read = read ≡ Err LabelTooLong
Refuses NameTooLong read = read ≡ Err NameTooLong
Refuses Hash read = read ≡ Err Hash

abbrev pub Reads : Result Name ProtoError → Result Name ProtoError → Type 0
Reads (Ok n) read = read ≡ Ok n
Reads (Err e) read = Refuses e read
