use Rattle.notify_calls.proofs.calls.notify_for.Goals as goal

pub returns-in-Ok-clause-octets : goal.returns-in-Ok-clause-octets
returns-in-Ok-clause-octets c = (c.in_ok-name.name, c.in_ok-name.ensures.name, c.in-Ok.ensures)
