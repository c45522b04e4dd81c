use Rattle.message_writing.proofs.whole_response.write_response.Goals as goal

pub returns-in-Ok-clause-written : goal.returns-in-Ok-clause-written
returns-in-Ok-clause-written c = (c.in-Ok.ensures.code, c.in-Ok.ensures.ok)

pub returns-in-Err-clause-written : goal.returns-in-Err-clause-written
returns-in-Err-clause-written c = (c.clear.ensures.items, c.in-Err.ensures.err)
