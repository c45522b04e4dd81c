use Rattle.std.proofs.Common.{◌≡◌, length, map}
use Rattle.journal_frames.specs.Journals.{frames_in}
use Rattle.shown_zones.specs.Steps.{step_of}
use Rattle.zone_journal.specs.Replays.{steps_of}
use Rattle.zone_journal.proofs.EntriesRead.{with_front}
use Rattle.zone_journal.proofs.replaying.steps_of.Given as goal

abbrev pub invariant-loop-text : goal.invariant-loop-text
invariant-loop-text l = with_front (map step_of l.steps.items) (steps_of (frames_in l.rest)) ≡ steps_of (frames_in l.journal)

abbrev pub decreases-loop-text : goal.decreases-loop-text
decreases-loop-text l = length l.rest
