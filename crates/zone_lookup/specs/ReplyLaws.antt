-- What a reply that denies says
use Rattle.std.specs.Prelude.{◌≡◌, ℕ, Bool, List, None}
use Rattle.zone_proto.specs.declared.record.Record.{Record}
use Rattle.zone_proto.specs.Names.{Name}
use Rattle.zone_proto.specs.Sets.{RRset}
use Rattle.zone_map.specs.AnyTypes.{searched_type}
use Rattle.zone_map.specs.Wildcards.{found}
use Rattle.zone_map.specs.Zones.{Sets}
use Rattle.zone_lookup.specs.Replies.{NegativeAnswer, negative, negative_answer, IsReply}

-- a query gets a negative answer only where nothing is found for it
abbrev pub NegativeIsNotFound : Type 0
NegativeIsNotFound = (sign : RRset → List Record) (origin : Name) (m : Sets) (signed : Bool) (n : Name) (t : ℕ) (d : NegativeAnswer) → IsReply sign origin m signed n t (negative d) → found m signed n (searched_type m n t) ≡ None

-- and it is that of the name
abbrev pub NegativeByName : Type 0
NegativeByName = (sign : RRset → List Record) (origin : Name) (m : Sets) (signed : Bool) (n : Name) (t : ℕ) (d : NegativeAnswer) → IsReply sign origin m signed n t (negative d) → negative_answer origin m n ≡ d
