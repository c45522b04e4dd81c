-- What words are read as. A reading is the value and the words that are left, or nothing where the words aren't of the form
-- that is read.
use Rattle.std.specs.Prelude.{ℕ, ℤ, List, [], ◌∷◌, Bool, true, false, Option, Some, None, option_map, option_and_then, pos, if◌then◌else◌}
use Rattle.zone_proto.specs.declared.error.ProtoError.{ProtoError}
use Rattle.zone_proto.specs.declared.record_type.RecordType.{RecordType}
use Rattle.zone_proto.specs.declared.rr_key.RrKey.{RrKey}
use Rattle.zone_proto.specs.Data.{same_octets}
use Rattle.zone_proto.specs.Names.{Name, lower}
use Rattle.zone_proto.specs.Parse.{labels_of_text}
use Rattle.zone_proto.specs.Faults.{fault_of}
use Rattle.zone_proto.specs.TypeText.{type_of_text}
use Rattle.zone_proto.specs.Keys.{key}
use Rattle.line_text.specs.Numbers.{number_within}

-- the words of a line that are still to be read
abbrev pub WordList : Type 0
WordList = List (List ℕ)

abbrev pub Reading : Type 0 → Type 0
Reading X = Option (X × WordList)

-- the next word, which is read by itself
abbrev pub next_word : {X : Type 0} → (List ℕ → Option X) → WordList → Reading X
next_word read [] = None
next_word read (w ∷ ws) = option_map (λ x. (x, ws)) (read w)

-- whether a word that may be left out is there: a line without it is at its end
abbrev pub next_flag : List ℕ → WordList → Reading Bool
next_flag flag [] = Some (false, [])
next_flag flag (w ∷ ws) = if same_octets w flag then Some (true, ws) else None

-- a first reading, and then a second one of the words that it left
abbrev pub then_read : {X Y : Type 0} → Reading X → (X → WordList → Reading Y) → Reading Y
then_read None f = None
then_read (Some r) f = f r.0 r.1

-- a reading, and this made of what it read
abbrev pub read_as : {X Y : Type 0} → (X → Y) → Reading X → Reading Y
read_as f r = then_read r (λ x ws. Some (f x, ws))

-- labels that have no fault, and so are a name
abbrev pub unless_fault : Option ProtoError → Name → Option Name
unless_fault None n = Some n
unless_fault (Some e) n = None

-- a name in its text form (RFC 1035 section 5.1)
abbrev pub name_of_word : List ℕ → Option Name
name_of_word w = option_and_then (λ ls. unless_fault (fault_of ls) ls) (labels_of_text w)

abbrev pub next_name : WordList → Reading Name
next_name = next_word name_of_word

-- a type by its word, or by `TYPE` and its number (RFC 3597 section 5)
abbrev pub type_of_word : List ℕ → Option RecordType
type_of_word w = option_map (λ t. record { 0 = t }) (type_of_text w)

abbrev pub next_type : WordList → Reading RecordType
next_type = next_word type_of_word

-- the key of a record set: its owner, in lower case, and its type
abbrev pub next_key : WordList → Reading RrKey
next_key ws = then_read (next_name ws) (λ n us. then_read (next_type us) (λ t vs. Some (key (lower n) t.0, vs)))

-- numbers in decimal digits, of 16, 32 and 64 bits, and seconds of a timer
abbrev pub next_u16 : WordList → Reading ℕ
next_u16 = next_word (number_within 10 65535)

abbrev pub next_u32 : WordList → Reading ℕ
next_u32 = next_word (number_within 10 4294967295)

abbrev pub next_u64 : WordList → Reading ℕ
next_u64 = next_word (number_within 10 18446744073709551615)

abbrev pub timer_of_word : List ℕ → Option ℤ
timer_of_word w = option_map pos (number_within 10 2147483647 w)

abbrev pub next_timer : WordList → Reading ℤ
next_timer = next_word timer_of_word
