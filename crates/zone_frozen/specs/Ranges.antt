-- What an iterator over sets has left
use Rattle.zone_frozen.specs.declared.set_range.Left.{Left}
use Rattle.zone_frozen.specs.declared.set_range.Left.TheVariants.{Tree, Row}
use Rattle.zone_frozen.specs.Sets.{Sets}

-- of a map, or of a list
abbrev pub sets_left : Left → Sets
sets_left (Tree range) = range
sets_left (Row rows) = rows.now
