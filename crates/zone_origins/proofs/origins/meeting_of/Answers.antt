use Rattle.std.proofs.Common.{◌<◌, length, sym, subst, ◌∙◌, true≢false}
use Rattle.zone_origins.specs.Nearest.{IsMeetingBelow}
use Rattle.zone_origins.proofs.Meetings.{begins, ends, goes_up, not_root}
use Rattle.zone_origins.proofs.origins.meeting_of.Goals as goal

pub loop-meeting-init : goal.loop-meeting-init
loop-meeting-init c = subst (IsMeetingBelow c.args.left.now c.args.right.now) (sym c.in_ok-meeting.ensures.copy.ok) (begins c.args.left.now c.args.right.now)

pub loop-meeting-smaller : goal.loop-meeting-smaller
loop-meeting-smaller c =
    subst (λ n. length n < length c.loop-meeting.meeting) (sym c.shorten.ensures)
    (not_root c.loop-meeting.meeting c.args.right.now (λ w. true≢false (sym (c.zone_of.ensures.1 w) ∙ c.loop-meeting-test.true)))

pub loop-meeting-preserved : goal.loop-meeting-preserved
loop-meeting-preserved c =
    subst (IsMeetingBelow c.args.left.now c.args.right.now) (sym c.shorten.ensures)
    (goes_up c.args.left.now c.args.right.now c.loop-meeting.meeting c.loop-meeting.invariant (λ w. true≢false (sym (c.zone_of.ensures.1 w) ∙ c.loop-meeting-test.true)))

pub returns : goal.returns
returns c = ends c.args.left.now c.args.right.now c.loop-meeting.meeting c.loop-meeting.invariant (c.zone_of.ensures.0 c.loop-meeting-test.false)
