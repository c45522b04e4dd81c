use Rattle.std.proofs.Common.{sym, ap}
use Rattle.std.specs.Map.{keys_of}
use Rattle.zone_map.proofs.keys_ahead.next_key.Goals as goal

pub returns-in-Some : goal.returns-in-Some
returns-in-Some c = sym (ap keys_of c.in-Some.ensures.steps)

pub returns-in-None : goal.returns-in-None
returns-in-None c = sym (ap keys_of c.in-None.ensures.steps.0)
