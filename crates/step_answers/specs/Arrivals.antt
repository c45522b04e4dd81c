-- What a secondary makes of the messages of the steps that are kept
use Rattle.std.specs.Prelude.{◌≡◌, ℕ, true, List, map, Some, Ok}
use Rattle.std.specs.List.{AllByRecursion}
use Rattle.zone_proto.specs.Names.{lower}
use Rattle.zone_proto.specs.Sets.{RRset}
use Rattle.zone_proto.specs.Types.{SOA}
use Rattle.zone_proto.specs.declared.record.Record.{Record}
use Rattle.zone_map.specs.Zones.{set_at}
use Rattle.message_reading.specs.declared.query.Query.{Query}
use Rattle.zone_secondary.specs.declared.secondary.Question.TheVariants.{Changes}
use Rattle.shown_zones.specs.Sending.{sent_steps}
use Rattle.shown_zones.specs.Steps.{step_of}
use Rattle.shown_zones.specs.declared.step.ZoneStep.{ZoneStep}
use Rattle.transfer_reading.specs.Answers.{is_asked}
use Rattle.transfer_reading.specs.Differences.{Held, all_records, held_of}
use Rattle.transfer_reading.specs.Outcomes.{said_by, zone_of}
use Rattle.transfer_reading.specs.Transfers.{begun, took_all}
use Rattle.transfer_reading.specs.declared.asked.Asked.{Asked}
use Rattle.transfer_reading.specs.declared.stage.Stage.TheVariants.{AllDifferences}
use Rattle.incremental_laws.specs.Holding.{Holds}
use Rattle.kept_steps.specs.Giving.{steps_from}
use Rattle.kept_steps.specs.KeptLaws.{LeadOn, Version}
use Rattle.step_answers.specs.Answers.{AreMessages}

-- Messages that answer a secondary which asks for what changed since a serial: those of the steps that are given, of steps that lead from some
-- versions to the newest, with the SOA of that one.
pub record AnswerChanges (a : Asked) (held : ℕ) (vs : List Version) (kept given : List ZoneStep) (z : Version) (soa : RRset) (q : Query) (size limit : ℕ) (texts : List (List ℕ)) : Type 0 where
  pub question : a.question ≡ Changes held
  pub id : q.header.id ≡ a.id
  pub asked : is_asked a q.question ≡ true
  pub lead : LeadOn a.origin vs kept z
  pub given_is : steps_from held z.serial kept ≡ Some given
  pub soa_is : set_at z.sets (lower a.origin) SOA ≡ Some soa
  pub messages : AreMessages q soa given size limit texts

-- A secondary that has these records takes the messages, and has the newest version then.
pub record Arrives (a : Asked) (given : List ZoneStep) (z : Version) (soa : RRset) (texts : List (List ℕ)) (records : List Record) : Type 0 where
  pub took : took_all (begun a) texts ≡ Ok (record { asked = a; stage = AllDifferences; records = sent_steps soa (map step_of given) })
  pub after : Held
  pub said : said_by AllDifferences a.origin (sent_steps soa (map step_of given)) records ≡ Ok (zone_of (all_records after))
  pub holds : Holds after z.sets

-- It does if it holds the version of the serial that it asks about.
abbrev pub StepsArrive : Type 0
StepsArrive = (a : Asked) (held : ℕ) (vs : List Version) (kept given : List ZoneStep) (z : Version) (soa : RRset) (q : Query) (size limit : ℕ) (texts : List (List ℕ))
    → AnswerChanges a held vs kept given z soa q size limit texts
    → AllByRecursion (λ (v : Version). v.serial ≡ held → (records : List Record) → Holds (held_of records) v.sets → Arrives a given z soa texts records) vs
