use Rattle.std.proofs.Common.{length}
use Rattle.zone_journal.specs.Shortening.{leads_to}
use Rattle.zone_journal.proofs.Shortened.{IsRead}
use Rattle.zone_journal.proofs.shortening.journal_from.Given as goal

abbrev pub invariant-loop-text : goal.invariant-loop-text
invariant-loop-text l = IsRead (leads_to l.soa) l.journal l.rest l.kept

abbrev pub decreases-loop-text : goal.decreases-loop-text
decreases-loop-text l = length l.rest
