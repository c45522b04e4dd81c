use Rattle.std.proofs.Common.{rules}
use Rattle.zone_database.specs.Databases.{zones_in}
use Rattle.signed_calls.specs.Preparing.{rooms}
use Rattle.signed_calls.proofs.PrepareFacts.{by_access}
use Rattle.signed_calls.proofs.preparing.prepare_in.Goals as goal

pub returns-in-Some-clause-prepared : goal.returns-in-Some-clause-prepared
returns-in-Some-clause-prepared c =
    by_access
    (rooms c.prepare_by-outcome.new.written c.args.buffer.now c.prepare_by-outcome.new.buffer c.prepare_by-outcome.new.frame_written c.args.frame.now c.prepare_by-outcome.new.frame)
    c.prepare_by-outcome.new.update.held c.prepare_by-outcome.new.plan.held c.args.message.now c.args.zone.now c.args.how.now c.prepare_by-outcome.result
    c.args.updates.now.held c.deref.result.now (zones_in c.args.database.now) (search (rules, c.in-Some.ensures.taken, c.deref.ensures)) c.prepare_by-outcome.ensures.prepared
