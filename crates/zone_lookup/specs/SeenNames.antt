-- Names that were seen, in whatever order they are kept
use Rattle.std.specs.Prelude.{◌≡◌, List}
use Rattle.std.specs.List.{list_any}
use Rattle.zone_proto.specs.Names.{Name, name_eq}

-- the same names are in two lists
abbrev pub AreSameNames : List Name → List Name → Type 0
AreSameNames ns ms = (n : Name) → list_any (name_eq n) ns ≡ list_any (name_eq n) ms
