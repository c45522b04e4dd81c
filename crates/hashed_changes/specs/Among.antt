-- Whether a name is one of some
use Rattle.std.specs.Prelude.{Bool, List}
use Rattle.std.specs.List.{list_any}
use Rattle.zone_proto.specs.Names.{Name, name_eq}

abbrev pub is_among : List Name → Name → Bool
is_among names n = list_any (name_eq n) names
