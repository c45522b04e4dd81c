-- Records each by itself, and the first of them in a message
use Rattle.std.specs.Prelude.{◌≡◌, ◌⊎◌, List, [], ◌∷◌, length}
use Rattle.std.specs.List.{AllByRecursion}
use Rattle.message_reading.specs.declared.query.Query.{Query}
use Rattle.message_writing.specs.Fronts.{HasNoRoomFor}
use Rattle.message_writing.specs.Outcomes.{HasUnwritable}
use Rattle.message_writing.specs.Responses.{all_records, records_of}
use Rattle.message_writing.specs.declared.response.Group.{Group}
use Rattle.message_series.specs.declared.fault.SeriesFault.{SeriesFault}
use Rattle.message_series.specs.declared.fault.SeriesFault.TheVariants.{Unwritable, Memory}

-- each group has one record
abbrev pub AreSingle : List Group → Type 0
AreSingle = AllByRecursion (λ (g : Group). length (records_of g) ≡ 1)

-- a message of 65,535 octets has no room for the first of some groups
pub record FirstIsTooLong (q : Query) (gs : List Group) : Type 0 where
  pub first : Group
  pub rest : List Group
  pub stands : gs ≡ first ∷ rest
  pub is : HasNoRoomFor 65535 q [] (records_of first)

-- why no message of the first of some groups was written
abbrev pub IsPushFault : Query → List Group → SeriesFault → Type 0
IsPushFault q gs Unwritable = HasUnwritable (all_records gs) ⊎ FirstIsTooLong q gs
IsPushFault q gs Memory = Unit {0}
