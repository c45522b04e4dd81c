use Rattle.message_reading.proofs.Queries.{message_none, message_is}
use Rattle.message_reading.proofs.message_reader.read_message.Goals as goal

pub returns-in_default : goal.returns-in_default
returns-in_default c = message_none c.args.message.now c.in_default.ensures

pub returns-in-None : goal.returns-in-None
returns-in-None c =
    message_is c.args.message.now c.in-Some.header c.in-Some.rest.now _ c.in-Some.ensures (rw c.in-None.is at c.in_ok-sections_of.ensures)

pub returns-in-Some-2 : goal.returns-in-Some-2
returns-in-Some-2 c =
    message_is c.args.message.now c.in-Some.header c.in-Some.rest.now _ c.in-Some.ensures (rw c.in-Some-2.is at c.in_ok-sections_of.ensures)
