use Rattle.std.proofs.Common.{◌∙◌, ap}
use Rattle.zone_database.specs.Databases.{zones_in}
use Rattle.zone_database.proofs.calls.put_copy.Goals as goal

pub returns-in-Ok-new : goal.returns-in-Ok-new
returns-in-Ok-new c = (c.in-Ok-new.copy.value, ap zones_in c.in-Ok-new.ensures.ok ∙ c.in-Ok.ensures, c.put.ensures)
