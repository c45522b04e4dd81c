use Rattle.std.proofs.Common.{rules}
use Rattle.zone_database.specs.Databases.{zones_in}
use Rattle.signed_calls.specs.Preparing.{rooms}
use Rattle.signed_calls.proofs.PrepareFacts.{was_asked}
use Rattle.signed_calls.proofs.preparing.prepare_given.Goals as goal

pub returns-in-Ok-Some-clause-prepared : goal.returns-in-Ok-Some-clause-prepared
returns-in-Ok-Some-clause-prepared c =
    was_asked
    (rooms c.hold_version.new.written c.args.buffer.now c.hold_version.new.buffer c.hold_version.new.frame_written c.args.frame.now c.hold_version.new.frame)
    c.hold_version.new.update.held c.hold_version.new.plan.held c.args.access.now c.args.given.origin c.args.given.signing c.args.message.now
    (zones_in c.args.database.now) c.hold_version.result c.in-Ok-Some.version c.asked_version.new.out.items (search (rules, c.in-Ok-Some.ensures.asked))
    (search (rules, c.hold_version.ensures, c.as_slice.ensures.value))
