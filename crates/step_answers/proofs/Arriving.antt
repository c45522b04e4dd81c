-- The messages of steps are taken, and make the newest version of the one that is held
use Rattle.std.proofs.Common.{◌≡◌, ℕ, List, [], ◌∷◌, map, subst, ap, ◌∙◌}
use Rattle.std.specs.Prelude.{Ok}
use Rattle.std.specs.List.{AllByRecursion}
use Rattle.zone_proto.specs.Sets.{RRset}
use Rattle.zone_proto.specs.declared.record.Record.{Record}
use Rattle.message_reading.specs.declared.query.Query.{Query}
use Rattle.message_writing.specs.Responses as groups
use Rattle.shown_zones.specs.Sending.{sent_steps}
use Rattle.shown_zones.specs.Steps.{step_of, Step}
use Rattle.shown_zones.specs.declared.step.ZoneStep.{ZoneStep}
use Rattle.transfer_reading.specs.Differences.{held_of}
use Rattle.transfer_reading.specs.Stages.{behind_all}
use Rattle.transfer_reading.specs.Transfers.{begun, took_all}
use Rattle.transfer_reading.specs.declared.asked.Asked.{Asked}
use Rattle.transfer_reading.specs.declared.stage.Stage.TheVariants.{AllDifferences, Before}
use Rattle.incremental_laws.specs.Holding.{Holds}
use Rattle.incremental_laws.specs.IncrementalLaws.{IsSent, StepsAreTaken, StepsMakeTheNewest}
use Rattle.incremental_laws.specs.Versions.{Leads}
use Rattle.difference_messages.specs.AnswerLaws.{MessagesAreTaken}
use Rattle.difference_messages.specs.Messages.{Answer}
use Rattle.kept_steps.specs.KeptLaws.{GivenStepsLead, LeadFrom, Version}
use Rattle.step_answers.specs.Answers.{answer_by}
use Rattle.step_answers.specs.Arrivals.{AnswerChanges, Arrives, StepsArrive}

module _ (given_lead : GivenStepsLead) (messages : MessagesAreTaken) (taken : StepsAreTaken) (make : StepsMakeTheNewest) (a : Asked) (held : ℕ) (vs : List Version)
    (kept given : List ZoneStep) (z : Version) (soa : RRset) (q : Query) (size limit : ℕ) (texts : List (List ℕ)) (is : AnswerChanges a held vs kept given z soa q size limit texts) where
  abbrev steps : List Step
  steps = map step_of given

  from_version : (v : Version) → Leads a.origin held v.sets steps z.serial z.sets → (records : List Record) → Holds (held_of records) v.sets → Arrives a given z soa texts records
  from_version v leads records holds =
      let sent : IsSent a held z.serial v.sets z.sets steps soa = record {
        question = is.question;
        newer = (given_lead a.origin vs kept given z held is.lead is.given_is).0;
        leads = leads;
        soa_is = is.soa_is;
      } in
      let answer : Answer = answer_by q size limit is.messages.groups in
      let same : groups.all_records is.messages.groups ≡ sent_steps soa steps = is.messages.records in
      let behind : behind_all a Before (groups.all_records is.messages.groups) ≡ Ok AllDifferences =
      ap (behind_all a Before) same ∙ taken a held z.serial v.sets z.sets steps soa sent in
      let made = make a held z.serial v.sets z.sets steps soa records sent holds in
      record {
        took = subst (λ (rs : List Record). took_all (begun a) texts ≡ Ok (record { asked = a; stage = AllDifferences; records = rs })) same
            (messages a answer texts AllDifferences is.id is.asked is.messages.all behind);
        after = made.0;
        said = made.1;
        holds = made.2;
      }

  from_each : (ws : List Version) → LeadFrom a.origin held given z ws
      → AllByRecursion (λ (v : Version). v.serial ≡ held → (records : List Record) → Holds (held_of records) v.sets → Arrives a given z soa texts records) ws
  from_each [] lead = tt
  from_each (v ∷ ws) (lead, others) = ((λ same records holds. from_version v (lead same) records holds), from_each ws others)

  all_arrive : AllByRecursion (λ (v : Version). v.serial ≡ held → (records : List Record) → Holds (held_of records) v.sets → Arrives a given z soa texts records) vs
  all_arrive = from_each vs (given_lead a.origin vs kept given z held is.lead is.given_is).2

pub steps_arrive : GivenStepsLead → MessagesAreTaken → StepsAreTaken → StepsMakeTheNewest → StepsArrive
steps_arrive = all_arrive
