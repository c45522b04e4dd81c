use Rattle.std.proofs.Common.{◌++◌, List, ap, ◌∙◌}
use Rattle.std.specs.List.{flat_map}
use Rattle.std.proofs.lemmas.List.{take_all}
use Rattle.zone_proto.specs.declared.record.Record.{Record}
use Rattle.message_writing.specs.Responses.{all_records}
use Rattle.shown_zones.specs.Sending.{sent_step}
use Rattle.shown_zones.specs.Steps.{step_of}
use Rattle.shown_zones.specs.declared.step.ZoneStep.{ZoneStep}
use Rattle.difference_messages.proofs.Pushed.{mapped, one_more}
use Rattle.difference_messages.proofs.groups.push_steps.Goals as goal

pub loop-step-preserved : goal.loop-step-preserved
loop-step-preserved c =
    one_more (λ (s : ZoneStep). sent_step (step_of s)) c.args.steps.now c.loop-step.step-index c.step-item.result (all_records c.args.groups.now.items) (all_records c.loop-step.groups.items)
    (all_records c.push_step.new.groups.items) c.loop-step-test.true c.step-item.is c.loop-step.invariant c.in_ok-push_step.ensures

pub returns : goal.returns
returns c =
    c.loop-step.invariant
    ∙ ap (λ (ss : List ZoneStep). all_records c.args.groups.now.items ++ flat_map (λ (s : ZoneStep). sent_step (step_of s)) ss) (take_all c.loop-step.step-index c.args.steps.now c.loop-step-test.false)
    ∙ ap (λ (rs : List Record). all_records c.args.groups.now.items ++ rs) (mapped c.args.steps.now)
