-- The data of an SRV record (RFC 2782): how they are read and printed
use Rattle.std.specs.Prelude.{◌<◌, ℕ, List, [], ◌∷◌, Some}
use Rattle.std.specs.Fmt.{decimal}
use Rattle.zone_proto.specs.declared.rdata.service.SRV.{SRV as SrvData}
use Rattle.zone_proto.specs.Names.{IsName}
use Rattle.zone_proto.specs.Text.{name_text}
use Rattle.line_text.specs.Reading.{WordList, Reading, then_read, next_name, next_u16}
use Rattle.line_text.specs.Words.{spaced}

-- the parts in their order
abbrev pub next_srv : WordList → Reading SrvData
next_srv ws =
    then_read (next_u16 ws) (λ priority a. then_read (next_u16 a) (λ weight b.
    then_read (next_u16 b) (λ port c. then_read (next_name c) (λ target d.
    Some (record { priority = priority; weight = weight; port = port; target = target }, d)))))

abbrev pub srv_text : SrvData → List ℕ
srv_text d = spaced (decimal d.priority ∷ decimal d.weight ∷ decimal d.port ∷ name_text d.target ∷ [])

-- an SRV whose parts are in the range of their types
pub record IsReadableSrv (d : SrvData) : Type 0 where
  pub priority : d.priority < 65536
  pub weight : d.weight < 65536
  pub port : d.port < 65536
  pub target : IsName d.target
