use Rattle.std.proofs.Common.{◌≡◌, ◌++◌, map}
use Rattle.std.specs.Vec.Iter.{into_iter_items}
use Rattle.held_transfers.specs.Accesses.{key_of}
use Rattle.held_transfers.proofs.access.access_keys.Given as goal

-- those so far, with those that are left, are all
abbrev pub invariant-loop-entry : goal.invariant-loop-entry
invariant-loop-entry l = l.keys.items ++ map key_of (into_iter_items l.entry-iterator) ≡ map key_of l.fn.entries.items
