-- Records: how they are read and printed, and which are read as they are printed
use Rattle.std.specs.Prelude.{◌≡◌, ◌<◌, ℕ, List, [], ◌∷◌, Some}
use Rattle.std.specs.Fmt.{decimal}
use Rattle.zone_proto.specs.declared.record.Record.{Record}
use Rattle.zone_proto.specs.Data.{type_of}
use Rattle.zone_proto.specs.Names.{IsName}
use Rattle.zone_proto.specs.Text.{name_text}
use Rattle.zone_proto.specs.TypeText.{type_text, class_text}
use Rattle.zone_proto.specs.Types.{IN}
use Rattle.line_text.specs.Data.{data_text, next_data, IsReadableData}
use Rattle.line_text.specs.Reading.{WordList, Reading, then_read, next_name, next_type, next_u32}
use Rattle.line_text.specs.Words.{spaced}

-- a record of class IN: its owner, its TTL, its type and its data
abbrev pub next_record : WordList → Reading Record
next_record ws =
    then_read (next_name ws) (λ owner a. then_read (next_u32 a) (λ ttl b. then_read (next_type b) (λ t c.
    then_read (next_data t.0 c) (λ d e.
    Some (record { name = owner; dns_class = record { 0 = IN }; ttl = ttl; rdata = d }, e)))))

-- a record: its owner, TTL, class, type and data
abbrev pub record_text : Record → List ℕ
record_text r = spaced (
    name_text r.name ∷ decimal r.ttl ∷ class_text r.dns_class.0 ∷ type_text (type_of r.rdata) ∷ data_text r.rdata ∷ [])

-- a printed record without the word of its class, which is not read
abbrev pub without_class : List (List ℕ) → List (List ℕ)
without_class (owner ∷ ttl ∷ c ∷ ws) = owner ∷ ttl ∷ ws
without_class ws = ws

-- a record of class IN whose data are of a form that is read
pub record IsReadable (r : Record) : Type 0 where
  pub owner : IsName r.name
  pub ttl : r.ttl < 4294967296
  pub class : r.dns_class.0 ≡ IN
  pub rdata : IsReadableData r.rdata
