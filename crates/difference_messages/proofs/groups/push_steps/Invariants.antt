use Rattle.std.proofs.Common.{◌≡◌, ◌++◌, take}
use Rattle.std.specs.List.{flat_map}
use Rattle.message_writing.specs.Responses.{all_records}
use Rattle.shown_zones.specs.Sending.{sent_step}
use Rattle.shown_zones.specs.Steps.{step_of}
use Rattle.shown_zones.specs.declared.step.ZoneStep.{ZoneStep}
use Rattle.difference_messages.proofs.groups.push_steps.Given as goal

abbrev pub invariant-loop-step : goal.invariant-loop-step
invariant-loop-step l =
    all_records l.groups.items ≡ all_records l.initial.groups.items ++ flat_map (λ (s : ZoneStep). sent_step (step_of s)) (take l.step-index l.steps)
