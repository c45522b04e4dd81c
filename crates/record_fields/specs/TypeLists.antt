-- Types to the end of an entry, and their bit map
use Rattle.std.specs.Prelude.{ℕ, List, [], ◌∷◌, Result, Ok}
use Rattle.std.specs.Ordering.{match_ordering, nat_cmp}
use Rattle.zone_proto.specs.declared.record_type.RecordType.{RecordType}
use Rattle.message_writing.specs.DataText.{types_text}
use Rattle.zone_scanner.specs.declared.place.Place.{Place}
use Rattle.zone_scanner.specs.Entries.{WordText}
use Rattle.record_fields.specs.declared.fault.Reason.TheVariants as reason
use Rattle.record_fields.specs.declared.fault.Fault.{Fault}
use Rattle.record_fields.specs.Readings.{fault, or_else_fault, ◌>>=◌}
use Rattle.record_fields.specs.Fields.{Left, Reading, left_at, record_type_named}
use Rattle.record_fields.specs.Parts.{as_octets}

-- the types that words name, in their order
abbrev pub types_named : List WordText → Result (List RecordType) Fault
types_named [] = Ok []
types_named (w ∷ ws) =
    or_else_fault (record_type_named w.octets) (fault w.place reason.Type) >>= λ t. (types_named ws >>= λ ts. Ok (t ∷ ts))

-- a type at its place among others, which ascend, unless it is there
abbrev pub with_type : RecordType → List RecordType → List RecordType
with_type t [] = t ∷ []
with_type t (u ∷ us) = match_ordering (nat_cmp t.0 u.0) (t ∷ u ∷ us) (u ∷ us) (u ∷ with_type t us)

-- types in ascending order, each once, as data have them (RFC 4034 section 4.1.2)
abbrev pub ascending : List RecordType → List RecordType
ascending [] = []
ascending (t ∷ ts) = with_type t (ascending ts)

-- the types to the end of the entry
abbrev pub types_at : Place → List WordText → Reading (List RecordType)
types_at p ws = types_named ws >>= λ ts. Ok (ascending ts, left_at p [])

abbrev pub next_types : Left → Reading (List RecordType)
next_types l = types_at l.place l.words

-- their type bit map (RFC 4034 section 4.1.2, RFC 7477 section 2.1.1.3)
abbrev pub next_type_map : Left → Reading (List ℕ)
next_type_map l = as_octets types_text (next_types l)
