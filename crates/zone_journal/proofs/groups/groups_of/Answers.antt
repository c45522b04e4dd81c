use Rattle.std.proofs.Common.{subst}
use Rattle.std.specs.List.{All}
use Rattle.shown_zones.specs.Steps.{step_of}
use Rattle.zone_journal.specs.Writing.{IsSound}
use Rattle.zone_journal.proofs.Sounds.{sound_step}
use Rattle.zone_journal.proofs.groups.groups_of.Goals as goal

pub returns-clause-sound : goal.returns-clause-sound
returns-clause-sound c =
    sound_step (step_of c.args.step.now) c.in_ok-push_set.ensures.sound (subst (All IsSound) c.as_slice.ensures.value c.in_ok-push_sets.ensures.sound)
    c.in_ok-push_set-2.ensures.sound (subst (All IsSound) c.as_slice-2.ensures.value c.in_ok-push_sets-2.ensures.sound)
