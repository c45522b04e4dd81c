use Rattle.std.specs.Prelude.{filter_map}
use Rattle.hashed_changes.specs.Renewals.{entry_of}
use Rattle.hashed_changes.proofs.EntriesMade.{one_more_entry}
use Rattle.hashed_changes.proofs.entries.entries_of.Goals as goal

pub loop-renewal-preserved : goal.loop-renewal-preserved
loop-renewal-preserved c = record {
  made =
      one_more_entry (entry_of c.args.parameters.now c.args.ttl c.args.serial) c.args.made.now c.loop-renewal.renewal-index c.renewal-item.result c.loop-renewal.entries.items c.push_entry.new.entries.items
      (filter_map (entry_of c.args.parameters.now c.args.ttl c.args.serial) c.args.made.now) c.loop-renewal-test.true c.renewal-item.is c.in_ok-push_entry.ensures.ok c.loop-renewal.invariant.made;
  stored = c.in_ok-push_entry.ensures.stored c.loop-renewal.invariant.stored;
}
