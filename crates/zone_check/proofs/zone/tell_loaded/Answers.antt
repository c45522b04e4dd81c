use Rattle.zone_check.specs.Denials.{served}
use Rattle.zone_check.proofs.zone.tell_loaded.Goals as goal

pub returns-in-Ok-clause-served : goal.returns-in-Ok-clause-served
returns-in-Ok-clause-served g c = λ none. c.status_of.ensures.closed (served c.args.loaded.now) none c.in-Some.ensures
