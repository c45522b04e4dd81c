-- The words of an entry, and what is read of them one after the other
use Rattle.std.specs.Prelude.{ℕ, ◌==◌, ◌&&◌, ◌||◌, nat_le, List, [], ◌∷◌, Bool, Option, Some, None, Result, Ok, Err, if◌then◌else◌}
use Rattle.zone_proto.specs.declared.error.ProtoError.{ProtoError}
use Rattle.zone_proto.specs.declared.record_type.RecordType.{RecordType}
use Rattle.zone_proto.specs.Names.{Name}
use Rattle.line_text.specs.Numbers.{number_within}
use Rattle.zone_scanner.specs.declared.place.Place.{Place}
use Rattle.zone_scanner.specs.Entries.{WordText}
use Rattle.zone_tokens.specs.Names.{name_under}
use Rattle.zone_tokens.specs.Types.{type_named, algorithm_named}
use Rattle.zone_tokens.specs.Ttls.{timer_of_word, ttl_of_word}
use Rattle.zone_tokens.specs.Moments.{moment_of_word}
use Rattle.record_fields.specs.declared.fault.Reason.{Reason}
use Rattle.record_fields.specs.declared.fault.Reason.TheVariants as reason
use Rattle.record_fields.specs.declared.fault.Fault.{Fault}
use Rattle.record_fields.specs.Readings.{fault, ◌>>=◌}

-- the words that are left of an entry, and the place of the word before them
pub record Left : Type 0 where
  pub place : Place
  pub words : List WordText

abbrev pub left_at : Place → List WordText → Left
left_at p ws = record { place = p; words = ws }

abbrev pub Reading : Type 0 → Type 0
Reading X = Result (X × Left) Fault

-- the next word; where a word is missing, the fault is at the word before
abbrev pub word_of : Place → List WordText → Reading WordText
word_of p [] = Err (fault p reason.Missing)
word_of p (w ∷ ws) = Ok (w, left_at w.place ws)

abbrev pub next_any_word : Left → Reading WordText
next_any_word l = word_of l.place l.words

-- what was read, if no words are left
abbrev pub if_none_left : {X : Type 0} → X → List WordText → Result X Fault
if_none_left x [] = Ok x
if_none_left x (w ∷ ws) = Err (fault w.place reason.Surplus)

-- the next word, which may not be in quotes
abbrev pub unquoted : WordText → Left → Reading WordText
unquoted w l = if w.quoted then Err (fault w.place reason.Quoted) else Ok (w, l)

abbrev pub next_word : Left → Reading WordText
next_word l = next_any_word l >>= λ w. unquoted w.0 w.1

-- the next word, read by itself; a word that isn't of the form that is read is a fault at its place
abbrev pub or_fault : {X : Type 0} → Option X → Reason → Left → Reading X
or_fault None why l = Err (fault l.place why)
or_fault (Some x) why l = Ok (x, l)

abbrev pub next : {X : Type 0} → (List ℕ → Option X) → Reason → Left → Reading X
next read why l = next_word l >>= λ w. or_fault (read w.0.octets) why w.1

-- the same of a word in quotes or not
abbrev pub next_any : {X : Type 0} → (List ℕ → Option X) → Reason → Left → Reading X
next_any read why l = next_any_word l >>= λ w. or_fault (read w.0.octets) why w.1

abbrev pub next_u8 : Left → Reading ℕ
next_u8 = next (number_within 10 255) reason.Number8

abbrev pub next_u16 : Left → Reading ℕ
next_u16 = next (number_within 10 65535) reason.Number16

abbrev pub next_u32 : Left → Reading ℕ
next_u32 = next (number_within 10 4294967295) reason.Number32

abbrev pub next_moment : Left → Reading ℕ
next_moment = next moment_of_word reason.Moment

abbrev pub next_ttl : Left → Reading ℕ
next_ttl = next ttl_of_word reason.Ttl

-- the seconds of a timer, which are written as a TTL is
abbrev pub next_timer : Left → Reading ℕ
next_timer = next timer_of_word reason.Timer

abbrev pub next_algorithm : Left → Reading ℕ
next_algorithm = next algorithm_named reason.Algorithm

-- a type that records have: 0, OPT, and those from 128 to 255, which are in messages alone, are none (RFC 6895 section
-- 3.1, RFC 6891 section 6.1.1)
abbrev pub is_of_messages : ℕ → Bool
is_of_messages t = t == 0 || (t == 41 || (nat_le 128 t && nat_le t 255))

abbrev pub if_of_records : Option RecordType → Option RecordType
if_of_records None = None
if_of_records (Some t) = if is_of_messages t.0 then None else Some t

abbrev pub record_type_named : List ℕ → Option RecordType
record_type_named w = if_of_records (type_named w)

abbrev pub next_type : Left → Reading RecordType
next_type = next record_type_named reason.Type

-- a name under an origin, or why the word at this place is none
abbrev pub named_at : Place → Result Name ProtoError → Result Name Fault
named_at p (Ok n) = Ok n
named_at p (Err e) = Err (fault p (reason.Name e))

abbrev pub next_name : Name → Left → Reading Name
next_name origin l =
    next_word l >>= λ w. (named_at w.1.place (name_under origin w.0.octets) >>= λ n. Ok (n, w.1))
