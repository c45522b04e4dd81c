use Rattle.std.proofs.Common.{◌≡◌, [], ◌∷◌}
use Rattle.zone_response.specs.Queries.{Zone}
use Rattle.ready_table.specs.Ready.{AreReady}
use Rattle.ready_table.proofs.filling.keep_all.Given as goal

-- what the table has is the zone's so far
abbrev pub invariant-loop-key : goal.invariant-loop-key
invariant-loop-key g l = (z : Zone) → g.Z.ServedZones.zones l.zones ≡ z ∷ [] → z.origin ≡ l.origin → AreReady z l.fn.table → AreReady z l.table
