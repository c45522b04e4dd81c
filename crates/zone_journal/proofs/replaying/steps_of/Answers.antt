use Rattle.std.proofs.Common.{List, [], ◌∷◌, map, sym, ap, ◌∙◌, arith}
use Rattle.std.proofs.lemmas.List.{map-append}
use Rattle.journal_frames.specs.Journals.{frames_in}
use Rattle.journal_frames.proofs.OneFrame.{behind_shorter}
use Rattle.shown_zones.specs.Steps.{Step, step_of}
use Rattle.zone_journal.specs.Replays.{steps_of}
use Rattle.zone_journal.proofs.EntriesRead.{all_stepped_over, no_entry, one_entry, with_front}
use Rattle.zone_journal.proofs.replaying.steps_of.Goals as goal

pub returns-in_default-2 : goal.returns-in_default-2
returns-in_default-2 c =
    no_entry c.loop-text.rest.now c.in-Some.text.now c.in-Some.behind.now (map step_of c.loop-text.steps.items) (steps_of (frames_in c.args.journal.now)) c.in-Some.ensures
    (rw c.in_default-2.is at c.in_ok-step.ensures) c.loop-text.invariant

pub loop-text-smaller : goal.loop-text-smaller
loop-text-smaller c =
    let less = behind_shorter c.loop-text.rest.now c.in-Some.text.now c.in-Some.behind.now (sym c.in-Some.ensures) in
    omega (arith, less)

pub loop-text-preserved : goal.loop-text-preserved
loop-text-preserved c =
    ap (λ (ss : List Step). with_front ss (steps_of (frames_in c.in-Some.behind.now)))
    (ap (map step_of) c.in_ok-push.ensures.items ∙ map-append step_of c.loop-text.steps.items (c.in-Some-2.step ∷ []))
    ∙ one_entry c.loop-text.rest.now c.in-Some.text.now c.in-Some.behind.now (map step_of c.loop-text.steps.items) (step_of c.in-Some-2.step) (steps_of (frames_in c.args.journal.now))
    c.in-Some.ensures (rw c.in-Some-2.is at c.in_ok-step.ensures) c.loop-text.invariant

pub returns : goal.returns
returns c =
    all_stepped_over c.loop-text.rest.now (map step_of c.loop-text.steps.items) (steps_of (frames_in c.args.journal.now)) (rw c.in_default.is at c.next_frame.ensures) c.loop-text.invariant
