-- The sets that are kept in a map or in a list
use Rattle.zone_frozen.specs.declared.set_map.Kept.{Kept}
use Rattle.zone_frozen.specs.declared.set_map.Kept.TheVariants.{InMap, InList}
use Rattle.zone_frozen.specs.Sets.{Sets}

-- in a map, or in a list
abbrev pub sets_kept : Kept → Sets
sets_kept (InMap map) = map.entries
sets_kept (InList frozen) = frozen
