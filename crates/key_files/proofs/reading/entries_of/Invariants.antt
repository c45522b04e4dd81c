use Rattle.std.proofs.Common.{◌≡◌, length}
use Rattle.key_files.specs.Entries.{entries_of}
use Rattle.key_files.proofs.Entries.{behind_these}
use Rattle.key_files.proofs.reading.entries_of.Given as goal

abbrev pub invariant-loop-entries : goal.invariant-loop-entries
invariant-loop-entries l = behind_these l.entries.items (entries_of l.text l.rest) ≡ entries_of l.text l.words

abbrev pub decreases-loop-entries : goal.decreases-loop-entries
decreases-loop-entries l = length l.rest
