use Rattle.zone_database.specs.Databases.{zones_in}
use Rattle.signed_calls.specs.Preparing.{rooms}
use Rattle.signed_calls.proofs.PrepareFacts.{by_given}
use Rattle.signed_calls.proofs.preparing.prepare_by.Goals as goal

pub returns-in-Ok-clause-prepared : goal.returns-in-Ok-clause-prepared
returns-in-Ok-clause-prepared c =
    by_given
    (rooms c.prepare_given.new.written c.args.buffer.now c.prepare_given.new.buffer c.prepare_given.new.frame_written c.args.frame.now c.prepare_given.new.frame)
    c.prepare_given.new.update.held c.prepare_given.new.plan.held c.args.message.now c.args.zone.now c.args.how.now c.prepare_given.result c.args.access.now
    (zones_in c.args.database.now) c.in-Ok.given.origin c.in-Ok.given.signing c.in-Ok.ensures.given c.prepare_given.ensures.prepared
