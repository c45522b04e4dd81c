-- What a secondary makes of the messages of the steps that are kept, condensed into one
use Rattle.std.specs.Prelude.{◌≡◌, ℕ, true, List, Option, Some}
use Rattle.std.specs.List.{AllByRecursion}
use Rattle.zone_proto.specs.Names.{lower}
use Rattle.zone_proto.specs.Sets.{RRset}
use Rattle.zone_proto.specs.Types.{SOA}
use Rattle.zone_proto.specs.declared.record.Record.{Record}
use Rattle.zone_map.specs.Zones.{set_at}
use Rattle.message_reading.specs.declared.query.Query.{Query}
use Rattle.zone_secondary.specs.declared.secondary.Question.TheVariants.{Changes}
use Rattle.shown_zones.specs.declared.step.ZoneStep.{ZoneStep}
use Rattle.transfer_reading.specs.Answers.{is_asked}
use Rattle.transfer_reading.specs.Differences.{held_of}
use Rattle.transfer_reading.specs.declared.asked.Asked.{Asked}
use Rattle.incremental_laws.specs.Holding.{Holds}
use Rattle.kept_steps.specs.Giving.{steps_from}
use Rattle.kept_steps.specs.KeptLaws.{LeadOn, Version}
use Rattle.step_answers.specs.Answers.{AreMessages}
use Rattle.step_answers.specs.Arrivals.{Arrives}
use Rattle.condensed_answers.specs.Answers.{sent_for, IsInPlace}

-- Messages that answer a secondary which asks for what changed since a serial: those of the one step in place of the steps that are given, of steps that lead
-- from some versions to the newest, with the SOA of that one.
pub record AnswerCondensed (a : Asked) (held : ℕ) (vs : List Version) (kept given : List ZoneStep) (one : Option ZoneStep) (z : Version) (soa : RRset) (q : Query) (size limit : ℕ) (texts : List (List ℕ)) : Type 0 where
  pub question : a.question ≡ Changes held
  pub id : q.header.id ≡ a.id
  pub asked : is_asked a q.question ≡ true
  pub lead : LeadOn a.origin vs kept z
  pub given_is : steps_from held z.serial kept ≡ Some given
  pub soa_is : set_at z.sets (lower a.origin) SOA ≡ Some soa
  pub in_place : IsInPlace (lower a.origin) given one
  pub messages : AreMessages q soa (sent_for one given) size limit texts

-- If it holds the version of the serial that it asks about, it takes the messages, and has the newest version then.
abbrev pub CondensedStepsArrive : Type 0
CondensedStepsArrive = (a : Asked) (held : ℕ) (vs : List Version) (kept given : List ZoneStep) (one : Option ZoneStep) (z : Version) (soa : RRset) (q : Query) (size limit : ℕ) (texts : List (List ℕ))
    → AnswerCondensed a held vs kept given one z soa q size limit texts
    → AllByRecursion (λ (v : Version). v.serial ≡ held → (records : List Record) → Holds (held_of records) v.sets → Arrives a (sent_for one given) z soa texts records) vs
