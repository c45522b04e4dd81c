-- Steps lead to the version that was noted
use Rattle.std.proofs.Common.{◌≡◌, ◌++◌, ◌∷◌, ℕ, Bool, true, false, List, [], drop, length, refl, sym, subst}
use Rattle.std.specs.Prelude.{if◌then◌else◌, Option, Some, None}
use Rattle.zone_proto.specs.Names.{Name, lower}
use Rattle.zone_map.specs.Zones.{Sets}
use Rattle.shown_zones.specs.Steps.{IsStepIfAny}
use Rattle.shown_zones.specs.declared.step.ZoneStep.{ZoneStep}
use Rattle.kept_steps.specs.Kept.{with_step, Kept}
use Rattle.kept_steps.specs.KeptLaws.{IsSent, KeptStepsLeadOn, LeadOn, Version}
use Rattle.step_answers.specs.Noting.{is_to_newer, kept_behind, none_kept, IsNoted}
use Rattle.step_answers.specs.NotedLaws.{NotedStepsLead}

-- behind so many as there are is none
none_left : (vs : List Version) → drop (length vs) vs ≡ []
none_left [] = refl
none_left (v ∷ vs) = none_left vs

module _ (lead_on : KeptStepsLeadOn) (o : Name) (vs : List Version) (z next : Version) (old new : Kept) (lead : LeadOn o vs old.steps z) (sent : IsSent o next) where
  -- none lead from no version to it
  by_none : new ≡ none_kept old → (k : ℕ) × LeadOn o (drop k (vs ++ z ∷ [])) new.steps next
  by_none is =
      let none : LeadOn o [] new.steps next = subst (λ (k : Kept). LeadOn o [] k.steps next) (sym is) sent in
      (length (vs ++ z ∷ []), subst (λ (ws : List Version). LeadOn o ws new.steps next) (sym (none_left (vs ++ z ∷ []))) none)

  by_step : (s : ZoneStep) (b : Bool) → IsStepIfAny (lower o) z.sets next.sets (Some s) → new ≡ (if b then with_step old s else none_kept old)
      → (k : ℕ) × LeadOn o (drop k (vs ++ z ∷ [])) new.steps next
  by_step s false step is = by_none is
  by_step s true step is =
      let more = lead_on o vs old.steps z next s old.most lead step sent in
      (more.0, subst (λ (k : Kept). LeadOn o (drop more.0 (vs ++ z ∷ [])) k.steps next) (sym is) more.1)

  by_any : (s : Option ZoneStep) → IsStepIfAny (lower o) z.sets next.sets s → new ≡ kept_behind s old
      → (k : ℕ) × LeadOn o (drop k (vs ++ z ∷ [])) new.steps next
  by_any None step is = by_none is
  by_any (Some s) step is = by_step s (is_to_newer s) step is

pub noted_steps_lead : KeptStepsLeadOn → NotedStepsLead
noted_steps_lead lead_on o vs z next old new lead sent noted = by_any lead_on o vs z next old new lead sent noted.step noted.leads noted.kept

-- ---- what is noted

pub noted_so : (origin : Name) (before after : Sets) (old new : Kept) (s : Option ZoneStep) → IsStepIfAny origin before after s → new ≡ kept_behind s old
    → IsNoted origin before after old new
noted_so origin before after old new s leads kept = record { step = s; leads = leads; kept = kept }
