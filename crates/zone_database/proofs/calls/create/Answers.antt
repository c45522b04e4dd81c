use Rattle.std.proofs.Common.{◌∙◌, ap}
use Rattle.zone_database.specs.Databases.{zones_in}
use Rattle.zone_database.proofs.calls.create.Goals as goal

pub returns-in-Ok : goal.returns-in-Ok
returns-in-Ok c = (c.in-Ok.database.value, ap zones_in c.in-Ok.ensures.ok ∙ c.new.ensures, c.put.ensures)
