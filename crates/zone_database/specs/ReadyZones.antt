-- The answers that are kept of a zone
use Rattle.std.specs.Prelude.{Option, Some, None}
use Rattle.std.specs.Arc.{arc_value}
use Rattle.std.specs.declared.alloc.Global.{Global}
use Rattle.std.specs.declared.sync.Arc.{Arc}
use Rattle.zone_response.specs.Queries.{Zone}
use Rattle.ready_table.specs.declared.table.ReadyTable.{ReadyTable}
use Rattle.ready_table.specs.Ready.{AreReady, DeniesFor, RefersFor}

-- what is kept, if anything is, are answers of a zone
abbrev pub AreReadyIfAny : Zone → Option (Arc ReadyTable Global) → Type 0
AreReadyIfAny z (Some table) = AreReady z (arc_value table) × DeniesFor z (arc_value table) × RefersFor z (arc_value table)
AreReadyIfAny z None = Unit {0}
