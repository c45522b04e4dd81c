use Rattle.update_calls.proofs.CallFacts.{read_put}
use Rattle.update_calls.proofs.access.read_held.Goals as goal

-- what was read is put
pub returns-in-Ok : goal.returns-in-Ok
returns-in-Ok c = read_put _ c.in-Ok.read _ _ _ c.in-Ok.ensures.keys c.in-Ok.ensures.tables c.put_access.ensures
