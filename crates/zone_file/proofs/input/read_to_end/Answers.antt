use Rattle.zone_file.proofs.InputFacts.{ends_later}
use Rattle.zone_file.proofs.input.read_to_end.Goals as goal

pub returns-in-Err-clause-fault : goal.returns-in-Err-clause-fault
returns-in-Err-clause-fault g c = λ f e.
    ends_later (g.R.Read.remaining c.args.input.now) (g.R.Read.remaining c.loop.input) c.args.records.now.items c.loop.records.items c.args.reader.now c.loop.reader f c.loop.invariant
    (c.in-Err.ensures.fault f e)
