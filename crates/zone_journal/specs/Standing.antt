-- The groups of records as the program keeps them
use Rattle.zone_journal.specs.Grouping.{Grouped}
use Rattle.zone_journal.specs.declared.grouping.Groups.{Groups}

abbrev pub grouped_of : Groups → Grouped
grouped_of g = (g.done.items, g.current)
