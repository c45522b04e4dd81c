-- The steps of a zone lead to the version that was noted last
use Rattle.std.proofs.Common.{◌≡◌, ℕ, List, [], ◌∷◌, ◌++◌, drop, sym, ap, subst}
use Rattle.std.specs.Prelude.{Option, Some, None}
use Rattle.std.specs.Arc.{arc_value}
use Rattle.zone_proto.specs.Names.{Name, lower}
use Rattle.zone_database.specs.declared.zone.Zone.{Zone}
use Rattle.kept_steps.specs.Kept.{Kept}
use Rattle.kept_steps.specs.KeptLaws.{IsSent, LeadOn, Version}
use Rattle.step_answers.specs.NotedLaws.{NotedStepsLead}
use Rattle.step_answers.specs.Noting.{IsNoted}
use Rattle.held_steps.specs.declared.history.ZoneHistory.{ZoneHistory}
use Rattle.held_steps.specs.Histories.{sets_in, IsBehind}
use Rattle.held_steps.specs.HistoryLaws.{version_of, HistoriesLead, Lead}

module _ (noted : NotedStepsLead) (o : Name) (z : Zone) (serial : ℕ) (sent : IsSent o (version_of serial z)) where
  -- to the version that is held
  at_version : (vs : List Version) (h : ZoneHistory) → arc_value h.newest ≡ z → LeadOn o vs h.steps.steps (version_of serial z) → Lead o h
  at_version vs h is lead = (vs, serial, subst (λ (y : Zone). LeadOn o vs h.steps.steps (version_of serial y)) (sym is) lead)

  first : (most : ℕ) (h : ZoneHistory) → IsBehind z most None h → Lead o h
  first most h behind = at_version [] h behind.newest (subst (λ (k : Kept). LeadOn o [] k.steps (version_of serial z)) (sym behind.steps) sent)

  next : (most : ℕ) (before h : ZoneHistory) → Lead o before → z.origin ≡ lower o → IsBehind z most (Some before) h → Lead o h
  next most before h lead named behind =
      let step : IsNoted (lower o) (sets_in (arc_value before.newest)) (sets_in z) before.steps h.steps =
      subst (λ (n : Name). IsNoted n (sets_in (arc_value before.newest)) (sets_in z) before.steps h.steps) named behind.steps in
      let on = noted o lead.0 (version_of lead.1 (arc_value before.newest)) (version_of serial z) before.steps h.steps lead.2 sent step in
      at_version (drop on.0 (lead.0 ++ version_of lead.1 (arc_value before.newest) ∷ [])) h behind.newest on.1

pub histories_lead : NotedStepsLead → HistoriesLead
histories_lead noted o z serial most None new lead sent named behind = first noted o z serial sent most new behind
histories_lead noted o z serial most (Some before) new lead sent named behind = next noted o z serial sent most before new lead named behind
