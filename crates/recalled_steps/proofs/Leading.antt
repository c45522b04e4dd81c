-- What is recalled of a journal leads to its last version
use Rattle.std.proofs.Common.{◌≡◌, ℕ, zero, suc, List, [], ◌∷◌, ◌++◌, drop, refl, sym, ap, ◌∙◌, subst}
use Rattle.std.specs.Prelude.{map, Some}
use Rattle.std.specs.List.{AllByRecursion}
use Rattle.std.proofs.lemmas.List.{append_assoc, append-nil}
use Rattle.zone_proto.specs.Names.{Name, lower}
use Rattle.zone_map.specs.Zones.{Sets}
use Rattle.journal_frames.specs.Journals.{frames_in}
use Rattle.journal_frames.proofs.Cuts.{frames_are_messages}
use Rattle.shown_zones.specs.Shown.{shown}
use Rattle.shown_zones.specs.StepLaws.{AreSteps}
use Rattle.shown_zones.specs.Steps.{shown_step, step_of, Step, IsStep}
use Rattle.shown_zones.specs.declared.step.ZoneStep.{ZoneStep}
use Rattle.zone_journal.specs.Replays.{steps_of}
use Rattle.zone_journal.proofs.Leading.{steps_back}
use Rattle.kept_steps.specs.Kept.{Kept}
use Rattle.kept_steps.specs.KeptLaws.{IsSent, LeadOn, Version}
use Rattle.step_answers.specs.NotedLaws.{NotedStepsLead}
use Rattle.step_answers.specs.Noting.{kept_behind}
use Rattle.recalled_steps.specs.Recalling.{all_noted}
use Rattle.recalled_steps.specs.RecallLaws.{last_version, shown_version, versions_before, RecalledStepsLead}
use Rattle.recalled_steps.proofs.ShownSteps.{step_shown}
use Rattle.recalled_steps.proofs.ShownVersions.{version_shown}

abbrev sets_of : List Version → List Sets
sets_of vs = map (λ (w : Version). w.sets) vs

some_same : {A : Type 0} (x y : A) → Some x ≡ Some y → x ≡ y
some_same x y h = cc

-- what stands behind the last of some is the last of all of them
last_of_all : (k : ℕ) (us ws : List Version) → (n : ℕ) × (drop k us ++ ws ≡ drop n (us ++ ws))
last_of_all zero us ws = (zero, refl)
last_of_all (suc k) [] ws = (zero, refl)
last_of_all (suc k) (u ∷ us) ws = let more = last_of_all k us ws in (suc more.0, more.1)

last_of_last : (k n : ℕ) (us : List Version) → (m : ℕ) × (drop n (drop k us) ≡ drop m us)
last_of_last zero n us = (n, refl)
last_of_last (suc k) n [] = (n, refl)
last_of_last (suc k) n (u ∷ us) = let more = last_of_last k n us in (suc more.0, more.1)

-- so the last of those behind the last of some and one more are the last of all
joined : (i k : ℕ) (from : List Version) (v : Version) (ws : List Version) → (n : ℕ) × (drop i (drop k (from ++ v ∷ []) ++ ws) ≡ drop n (from ++ v ∷ ws))
joined i k from v ws =
    let all = last_of_all k (from ++ v ∷ []) ws in
    let last = last_of_last all.0 i ((from ++ v ∷ []) ++ ws) in
    (last.0, ap (drop i) all.1 ∙ (last.1 ∙ ap (drop last.0) (append_assoc from (v ∷ []) ws)))

module _ (noted : NotedStepsLead) (o : Name) where
  -- behind what leads to a version, the steps to the next ones lead to the last
  lead_all : (ss : List Step) (zs : List ZoneStep) (v : Version) (vs from : List Version) (k : Kept) → map step_of zs ≡ map shown_step ss
      → AreSteps (lower o) ss v.sets (sets_of vs) → IsSent o v → AllByRecursion (IsSent o) vs → LeadOn o from k.steps (shown_version v)
      → (n : ℕ) × LeadOn o (drop n (from ++ map shown_version (versions_before v vs))) (all_noted k zs).steps (shown_version (last_version v vs))
  lead_all [] [] v [] from k is steps sent all lead =
      (zero, subst (λ (ws : List Version). LeadOn o ws k.steps (shown_version v)) (sym (append-nil from)) lead)
  lead_all [] [] v (w ∷ vs) from k is steps sent all lead = absurd steps
  lead_all [] (z ∷ zs) v vs from k is steps sent all lead = absurd cc
  lead_all (s ∷ ss) [] v vs from k is steps sent all lead = absurd cc
  lead_all (s ∷ ss) (z ∷ zs) v [] from k is steps sent all lead = absurd steps
  lead_all (s ∷ ss) (z ∷ zs) v (w ∷ vs) from k is steps sent all lead =
      let same : step_of z ≡ shown_step s = cc in
      let rest : map step_of zs ≡ map shown_step ss = cc in
      let step : IsStep (lower o) (shown v.sets) (shown w.sets) (step_of z) =
      subst (IsStep (lower o) (shown v.sets) (shown w.sets)) (sym same) (step_shown (lower o) v.sets w.sets s steps.0) in
      let next = noted o from (shown_version v) (shown_version w) k (kept_behind (Some z) k) lead (version_shown o w.serial w.sets all.0)
      (record { step = Some z; leads = step; kept = refl }) in
      let more = lead_all ss zs w vs (drop next.0 (from ++ shown_version v ∷ [])) (kept_behind (Some z) k) rest steps.1 all.0 all.1 next.1 in
      let last = joined more.0 next.0 from (shown_version v) (map shown_version (versions_before w vs)) in
      (last.0, subst (λ (ws : List Version). LeadOn o ws (all_noted k (z ∷ zs)).steps (shown_version (last_version w vs))) last.1 more.1)

pub recalled_steps_lead : NotedStepsLead → RecalledStepsLead
recalled_steps_lead noted o v vs octets most r journal sent (zs, found, recalled) =
    let texts : frames_in octets ≡ journal.texts = ap frames_in journal.put ∙ frames_are_messages journal.texts journal.frames in
    let is : map step_of zs ≡ map shown_step journal.steps =
    some_same (map step_of zs) (map shown_step journal.steps) (sym found ∙ ap steps_of texts ∙ steps_back journal.texts journal.steps journal.entries) in
    let none : LeadOn o [] [] (shown_version v) = version_shown o v.serial v.sets sent.0 in
    let all = lead_all noted o journal.steps zs v vs [] (record { most = most; steps = [] }) is journal.lead sent.0 sent.1 none in (
      all.0,
      subst (λ (k : Kept). LeadOn o (drop all.0 (map shown_version (versions_before v vs))) k.steps (shown_version (last_version v vs)))
          (sym recalled.steps) all.1,
    )
