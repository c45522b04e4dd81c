use Rattle.hashed_changes.proofs.EntriesMade.{stored_behind}
use Rattle.hashed_changes.proofs.entries.push_entry.Goals as goal

pub returns-in_ok-push-in-Some-clause-stored : goal.returns-in_ok-push-in-Some-clause-stored
returns-in_ok-push-in-Some-clause-stored c =
    stored_behind c.args.entries.now.items c.push.new.self.items c.in_ok-entry-in-Some.entry c.in_ok-push-in-Some.ensures.items c.in_ok-entry-in-Some.ensures.stored
