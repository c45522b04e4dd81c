-- The messages of the step in place of others are taken, and make the newest version of the one that is held
use Rattle.std.proofs.Common.{◌≡◌, ℕ, List, [], ◌∷◌, map, subst, ap, ◌∙◌}
use Rattle.std.specs.Prelude.{Ok, Option, Some, None}
use Rattle.std.specs.List.{AllByRecursion}
use Rattle.zone_proto.specs.Names.{Name, lower}
use Rattle.zone_proto.specs.Sets.{RRset}
use Rattle.zone_proto.specs.declared.record.Record.{Record}
use Rattle.zone_map.specs.Zones.{Sets}
use Rattle.message_reading.specs.declared.query.Query.{Query}
use Rattle.message_writing.specs.Responses as groups
use Rattle.shown_zones.specs.Sending.{sent_steps}
use Rattle.shown_zones.specs.Steps.{step_of, Step}
use Rattle.shown_zones.specs.declared.step.ZoneStep.{ZoneStep}
use Rattle.transfer_reading.specs.Differences.{held_of}
use Rattle.transfer_reading.specs.Stages.{behind_all}
use Rattle.transfer_reading.specs.Transfers.{begun, took_all}
use Rattle.transfer_reading.specs.declared.asked.Asked.{Asked}
use Rattle.transfer_reading.specs.declared.stage.Stage.TheVariants.{AllDifferences, Before}
use Rattle.incremental_laws.specs.Holding.{Holds}
use Rattle.incremental_laws.specs.IncrementalLaws.{IsSent, StepsAreTaken, StepsMakeTheNewest}
use Rattle.incremental_laws.specs.Versions.{Leads}
use Rattle.difference_messages.specs.AnswerLaws.{MessagesAreTaken}
use Rattle.difference_messages.specs.Messages.{Answer}
use Rattle.kept_steps.specs.KeptLaws.{GivenStepsLead, LeadFrom, Version}
use Rattle.step_answers.specs.Answers.{answer_by}
use Rattle.step_answers.specs.Arrivals.{Arrives, StepsArrive}
use Rattle.condensed_steps.specs.Condensing.{IsCondensed}
use Rattle.condensed_steps.specs.CondenseLaws.{CondensedStepsLead, IsLike}
use Rattle.condensed_answers.specs.Answers.{sent_for, IsInPlace}
use Rattle.condensed_answers.specs.Arrivals.{AnswerCondensed, CondensedStepsArrive}
use Rattle.condensed_answers.proofs.Holding.{holds_like, holds_version}
use Rattle.condensed_answers.proofs.Versions.{chain_of, version_first, version_last, version_like, Chain}

-- the one in place of steps condenses them
is_condensed : (origin : Name) (ss : List ZoneStep) (s : ZoneStep) → IsInPlace origin ss (Some s) → IsCondensed origin (map step_of ss) (step_of s)
is_condensed origin [] s h = absurd cc
is_condensed origin (t ∷ []) s h = absurd cc
is_condensed origin (t ∷ u ∷ ss) s h = h

module _ (given_lead : GivenStepsLead) (condensed_lead : CondensedStepsLead) (messages : MessagesAreTaken) (taken : StepsAreTaken) (make : StepsMakeTheNewest)
    (a : Asked) (held : ℕ) (vs : List Version) (kept given : List ZoneStep) (one : ZoneStep) (z : Version) (soa : RRset) (q : Query) (size limit : ℕ) (texts : List (List ℕ))
    (is : AnswerCondensed a held vs kept given (Some one) z soa q size limit texts) where
  abbrev steps : List Step
  steps = map step_of given

  abbrev sole : List Step
  sole = step_of one ∷ []

  from_version : (v : Version) → Leads a.origin held v.sets steps z.serial z.sets → (records : List Record) → Holds (held_of records) v.sets → Arrives a (one ∷ []) z soa texts records
  from_version v leads records holds =
      let first = version_first a.origin held v.sets steps z.serial z.sets leads in
      let chain : Chain a.origin v.sets steps z.sets = chain_of a.origin held v.sets steps z.serial z.sets leads in
      let all : List Sets = v.sets ∷ chain.versions in
      let lead = condensed_lead (lower a.origin) steps v.sets chain.versions (step_of one) chain.steps first.zone chain.zones (is_condensed (lower a.origin) given one is.in_place) in
      let m : Sets = lead.0 in
      let n : Sets = lead.1 in
      let last : IsLike (lower a.origin) all z.sets n = subst (λ (w : Sets). IsLike (lower a.origin) all w n) chain.last lead.3 in
      let sent : IsSent a held z.serial m n sole soa = record {
        question = is.question;
        newer = (given_lead a.origin vs kept given z held is.lead is.given_is).0;
        leads = (
          version_like a.origin held all v.sets m first chain.kept lead.2,
          version_like a.origin z.serial all z.sets n (version_last a.origin held v.sets steps z.serial z.sets leads) chain.kept last,
          lead.4,
        );
        soa_is = last.soa ∙ is.soa_is;
      } in
      let answer : Answer = answer_by q size limit is.messages.groups in
      let same : groups.all_records is.messages.groups ≡ sent_steps soa sole = is.messages.records in
      let behind : behind_all a Before (groups.all_records is.messages.groups) ≡ Ok AllDifferences =
      ap (behind_all a Before) same ∙ taken a held z.serial m n sole soa sent in
      let made = make a held z.serial m n sole soa records sent (holds_like (held_of records) m v.sets lead.2.alike holds) in
      record {
        took = subst (λ (rs : List Record). took_all (begun a) texts ≡ Ok (record { asked = a; stage = AllDifferences; records = rs })) same
            (messages a answer texts AllDifferences is.id is.asked is.messages.all behind);
        after = made.0;
        said = made.1;
        holds = holds_version made.0 n z.sets last.alike made.2;
      }

  from_each : (ws : List Version) → LeadFrom a.origin held given z ws
      → AllByRecursion (λ (v : Version). v.serial ≡ held → (records : List Record) → Holds (held_of records) v.sets → Arrives a (one ∷ []) z soa texts records) ws
  from_each [] lead = tt
  from_each (v ∷ ws) (lead, others) = ((λ same records holds. from_version v (lead same) records holds), from_each ws others)

  pub all_arrive : AllByRecursion (λ (v : Version). v.serial ≡ held → (records : List Record) → Holds (held_of records) v.sets → Arrives a (one ∷ []) z soa texts records) vs
  all_arrive = from_each vs (given_lead a.origin vs kept given z held is.lead is.given_is).2

pub condensed_steps_arrive : GivenStepsLead → CondensedStepsLead → MessagesAreTaken → StepsAreTaken → StepsMakeTheNewest → StepsArrive → CondensedStepsArrive
condensed_steps_arrive given_lead condensed_lead messages taken make arrive a held vs kept given None z soa q size limit texts is =
    arrive a held vs kept given z soa q size limit texts
    (record { question = is.question; id = is.id; asked = is.asked; lead = is.lead; given_is = is.given_is; soa_is = is.soa_is; messages = is.messages })
condensed_steps_arrive given_lead condensed_lead messages taken make arrive a held vs kept given (Some one) z soa q size limit texts is =
    all_arrive given_lead condensed_lead messages taken make a held vs kept given one z soa q size limit texts is
