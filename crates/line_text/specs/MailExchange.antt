-- The data of an MX record (RFC 1035 section 3.3.9): how they are read and printed
use Rattle.std.specs.Prelude.{◌<◌, ℕ, List, [], ◌∷◌, Some}
use Rattle.std.specs.Fmt.{decimal}
use Rattle.zone_proto.specs.declared.rdata.mail_exchange.MX.{MX as MxData}
use Rattle.zone_proto.specs.Names.{IsName}
use Rattle.zone_proto.specs.Text.{name_text}
use Rattle.line_text.specs.Reading.{WordList, Reading, then_read, next_name, next_u16}
use Rattle.line_text.specs.Words.{spaced}

-- the parts in their order
abbrev pub next_mx : WordList → Reading MxData
next_mx ws =
    then_read (next_u16 ws) (λ preference a. then_read (next_name a) (λ exchange b.
    Some (record { preference = preference; exchange = exchange }, b)))

abbrev pub mx_text : MxData → List ℕ
mx_text d = spaced (decimal d.preference ∷ name_text d.exchange ∷ [])

-- an MX whose parts are in the range of their types
pub record IsReadableMx (d : MxData) : Type 0 where
  pub preference : d.preference < 65536
  pub exchange : IsName d.exchange
