use Rattle.std.proofs.Common.{rules}
use Rattle.zone_database.specs.Databases.{zones_in}
use Rattle.journal_calls.specs.Plans.{room}
use Rattle.signed_calls.proofs.HeldFacts.{of_version, of_whole}
use Rattle.signed_calls.proofs.SignFacts.{whole_at}
use Rattle.signed_calls.proofs.signing.sign_in.Goals as goal

pub returns-in-Whole : goal.returns-in-Whole
returns-in-Whole c =
    of_whole (room c.sign_whole.new.frame_written c.args.frame.now c.sign_whole.new.frame) c.sign_whole.new.update.held c.sign_whole.new.plan.held
    c.args.held.value.zone c.args.held.value.plan (zones_in c.args.database.now) c.sign_whole.result
    (search (rules, c.in-Whole.is, c.replace.ensures.value, c.deref_mut.ensures.value))
    (whole_at c.args.held.value.plan _ (zones_in c.args.database.now) c.sign_whole.result
    (room c.sign_whole.new.frame_written c.args.frame.now c.sign_whole.new.frame) c.sign_whole.new.update.held c.sign_whole.new.plan.held c.sign_whole.ensures
    (search (rules, c.deref_mut.ensures.value)))

pub returns-in-Version : goal.returns-in-Version
returns-in-Version c =
    of_version (room c.sign_version.new.frame_written c.args.frame.now c.sign_version.new.frame) c.sign_version.new.update.held c.sign_version.new.plan.held
    c.args.held.value.zone c.args.held.value.plan (zones_in c.args.database.now) c.sign_version.result c.in-Version.version
    (search (rules, c.in-Version.is, c.replace.ensures.value, c.deref_mut.ensures.value))
    (search (rules, c.sign_version.ensures, c.deref_mut.ensures.value, c.deref_mut.ensures.writes_back))
