-- Type bit maps (RFC 4034 section 4.1.2), printed
use Rattle.std.specs.Prelude.{ℕ, ◌+◌, ◌&&◌, not, nat_le, nat_lt, List, [], ◌∷◌, map, Bool, true, false, Option, Some, None, if◌then◌else◌}
use Rattle.zone_proto.specs.declared.record_type.RecordType.{RecordType}
use Rattle.zone_proto.specs.Data.{same_octets}
use Rattle.message_reading.specs.Octets.{◌>>=◌}
use Rattle.message_reading.specs.TypeMaps.{types_of}
use Rattle.message_writing.specs.DataText as maps
use Rattle.record_fields.specs.Fields.{is_of_messages}
use Rattle.zone_file_writer.specs.Words.{PrintedWord, Bare, type_word}

-- types of records in ascending order, from this number on, each once
abbrev pub is_next : ℕ → ℕ → Bool
is_next least t = nat_le least t && (nat_lt t 65536 && not (is_of_messages t))

abbrev pub ascend_from : ℕ → List RecordType → Bool
ascend_from least [] = true
ascend_from least (t ∷ ts) = if is_next least t.0 then ascend_from (t.0 + 1) ts else false

-- The types of a map, each by its word. A map that lists a type that no records have is none of words, and so is one with a block that
-- isn't written so.
abbrev pub is_map_of : List ℕ → List RecordType → Bool
is_map_of os ts = ascend_from 0 ts && same_octets (maps.types_text ts) os

abbrev pub if_map_of : List ℕ → List RecordType → Option (List PrintedWord)
if_map_of os ts = if is_map_of os ts then Some (map (λ t. Bare (type_word t.0)) ts) else None

abbrev pub types_words : List ℕ → Option (List PrintedWord)
types_words os = types_of os >>= if_map_of os
