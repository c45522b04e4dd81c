use Rattle.std.proofs.Common.{◌≡◌, ◌++◌, drop}
use Rattle.std.specs.Prelude.{filter_map}
use Rattle.chain_changes.specs.Renewal.{nsec_entry_of}
use Rattle.chain_changes.proofs.renewing.nsec_entries.Given as goal

-- those so far, and those of the names that are left, are all
abbrev pub invariant-loop-name : goal.invariant-loop-name
invariant-loop-name l =
    l.entries.items ++ filter_map (nsec_entry_of l.origin l.zone l.ttl l.serial) (drop l.name-index l.names)
    ≡ filter_map (nsec_entry_of l.origin l.zone l.ttl l.serial) l.names
