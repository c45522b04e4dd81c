use Rattle.std.proofs.Common.{refl}
use Rattle.zone_handler.proofs.control_flow.LookupControlFlow+AuthLookup+E.map.Goals as goal

pub returns-in-Continue : goal.returns-in-Continue
returns-in-Continue g c = rw c.in-Continue.is (c.map.result, c.map.ensures.cases, refl)

pub returns-in-Break : goal.returns-in-Break
returns-in-Break g c = rw c.in-Break.is (c.map-in-Break.result, c.map-in-Break.ensures.cases, refl)
