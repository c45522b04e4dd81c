use Rattle.std.proofs.Common.{◌≡◌, [], ◌∷◌, ◌++◌, List, map, sym, ap, ◌∙◌}
use Rattle.zone_map.specs.Zones.{Sets}
use Rattle.shown_zones.specs.Steps.{step_of}
use Rattle.shown_zones.specs.declared.step.ZoneStep.{ZoneStep}
use Rattle.condensed_steps.specs.Condensing.{back, before_all, behind}
use Rattle.condensed_steps.proofs.Walking.{before_last}
use Rattle.condensed_steps.proofs.condensing.known_before.Goals as goal

pub loop-step-preserved : goal.loop-step-preserved
loop-step-preserved c =
    let front = c.in-Some.front.now in
    let s = c.in-Some.step.now in
    let is : c.loop-step.rest.now ≡ front ++ s ∷ [] = c.in-Some.ensures.cases.0 in
    let passed : c.pass.new.sets ≡ behind c.loop-step.sets (back (step_of s)) =
    c.in_ok-pass.ensures.behind
    ∙ (λ i. behind c.loop-step.sets (record { old_soa = s.new_soa; deleted = c.as_slice.ensures.value i; new_soa = s.old_soa; added = c.as_slice-in-Some.ensures.value i })) in
    ap (λ (m : Sets). before_all m (map step_of front)) passed
    ∙ sym (before_last c.loop-step.sets front s)
    ∙ sym (ap (λ (ss : List ZoneStep). before_all c.loop-step.sets (map step_of ss)) is)
    ∙ c.loop-step.invariant
