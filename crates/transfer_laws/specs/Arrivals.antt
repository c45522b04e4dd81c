-- What a secondary makes of the messages of a zone that is sent (RFC 5936 section 2.2)
use Rattle.std.specs.Prelude.{◌≡◌, ℕ, true, List, [], ◌∷◌, Ok}
use Rattle.zone_proto.specs.declared.record.Record.{Record}
use Rattle.transfer_reading.specs.Answers.{is_asked}
use Rattle.transfer_reading.specs.Differences.{held_of}
use Rattle.transfer_reading.specs.Outcomes.{said_by, zone_of}
use Rattle.transfer_reading.specs.Transfers.{begun, took_all}
use Rattle.transfer_reading.specs.declared.asked.Asked.{Asked}
use Rattle.transfer_reading.specs.declared.stage.Stage.TheVariants.{WholeZone}
use Rattle.incremental_laws.specs.Holding.{Holds}
use Rattle.incremental_laws.specs.WholeZones.{IsSentWhole}
use Rattle.transfer_messages.specs.Messages.{left_of, IsNext, Transfer}
use Rattle.transfer_messages.specs.Transfers.{zone_records}
use Rattle.transfer_messages.specs.declared.place.Place.{Place}
use Rattle.transfer_messages.specs.declared.place.Place.TheVariants.{Opening}

-- messages that are written one after the other from a place on, to the end
abbrev pub AreAll : Transfer → Place → List (List ℕ) → Type 0
AreAll t place [] = left_of t place ≡ []
AreAll t place (text ∷ texts) = (next : Place) × IsNext t place next text × AreAll t next texts

-- all messages of a zone, for the query of a secondary
pub record IsSent (a : Asked) (serial : ℕ) (t : Transfer) (texts : List (List ℕ)) : Type 0 where
  pub id : t.query.header.id ≡ a.id
  pub question : is_asked a t.query.question ≡ true
  pub version : IsSentWhole a serial t.sets t.soa
  pub messages : AreAll t (Opening 0) texts

-- A secondary takes all messages, and what it has then is the version, whatever it held.
pub record Arrives (a : Asked) (t : Transfer) (texts : List (List ℕ)) (held : List Record) : Type 0 where
  pub took : took_all (begun a) texts ≡ Ok (record { asked = a; stage = WholeZone; records = zone_records t.soa t.sets })
  pub records : List Record
  pub said : said_by WholeZone a.origin (zone_records t.soa t.sets) held ≡ Ok (zone_of records)
  pub holds : Holds (held_of records) t.sets

abbrev pub ZonesArrive : Type 0
ZonesArrive = (a : Asked) (serial : ℕ) (t : Transfer) (texts : List (List ℕ)) (held : List Record) → IsSent a serial t texts → Arrives a t texts held
