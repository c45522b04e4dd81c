-- The messages of a zone are taken one after the other, and are the zone
use Rattle.std.proofs.Common.{◌≡◌, ℕ, ◌&&◌, Bool, true, List, [], ◌∷◌, ◌++◌, refl, ap, ◌∙◌, eq-eqb}
use Rattle.std.specs.Prelude.{map}
use Rattle.std.proofs.lemmas.List.{append-nil}
use Rattle.zone_proto.specs.Sets.{RRset}
use Rattle.zone_proto.specs.declared.record.Record.{Record}
use Rattle.zone_map.specs.Zones.{Sets}
use Rattle.message_writing.specs.Responses.{with_ttl}
use Rattle.transfer_reading.specs.Answers.{is_asked}
use Rattle.transfer_reading.specs.Laws.{has_none, AreMessages, IsMessage, TakesMessages}
use Rattle.transfer_reading.specs.Outcomes.{said_by}
use Rattle.transfer_reading.specs.Stages.{behind_all}
use Rattle.transfer_reading.specs.declared.asked.Asked.{Asked}
use Rattle.transfer_reading.specs.declared.stage.Stage.TheVariants.{Before, WholeZone}
use Rattle.incremental_laws.specs.WholeZones.{sent_zone, ZonesAreTaken, ZonesMakeTheVersion}
use Rattle.transfer_messages.specs.Messages.{left_of, transfer_parts, Transfer}
use Rattle.transfer_messages.specs.Transfers.{sets_records, zone_records}
use Rattle.transfer_messages.specs.declared.place.Place.{Place}
use Rattle.transfer_messages.specs.declared.place.Place.TheVariants.{Opening}
use Rattle.transfer_laws.specs.Arrivals.{AreAll, ZonesArrive}

module _ (a : Asked) (t : Transfer) (id : t.query.header.id ≡ a.id) (question : is_asked a t.query.question ≡ true) where
  one_message : (first : Bool) (rs : List Record) → IsMessage a first (transfer_parts t.size t.query rs)
  one_message first rs = record {
    answer = ap (λ (b : Bool). b && true) (eq-eqb t.query.header.id a.id id);
    code = refl;
    question = question;
    authority = refl;
    whole = refl;
  }

  are_messages : (first : Bool) (place : Place) (texts : List (List ℕ)) → AreAll t place texts → AreMessages a first texts (left_of t place)
  are_messages first place [] all = all
  are_messages first place (text ∷ texts) (next, is, all) = (
    transfer_parts t.size t.query is.records,
    left_of t next,
    is.message.reads,
    one_message first is.records,
    is.parts,
    are_messages (first && has_none is.records) next texts all,
  )

-- the records that a primary sends are those that the law of versions is about
same_records : (soa : RRset) (m : Sets) → zone_records soa m ≡ sent_zone soa m
same_records soa m =
    let alone : soa.records ++ [] ≡ soa.records = append-nil soa.records in
    λ i. map (with_ttl soa.ttl) (alone i) ++ (sets_records m ++ map (with_ttl soa.ttl) (alone i))

pub zones_arrive : TakesMessages → ZonesAreTaken → ZonesMakeTheVersion → ZonesArrive
zones_arrive takes taken made a serial t texts held is =
    let same : zone_records t.soa t.sets ≡ sent_zone t.soa t.sets = same_records t.soa t.sets in
    let version = made a serial t.sets t.soa held is.version in
    record {
      took = takes a texts (zone_records t.soa t.sets) WholeZone (are_messages a t is.id is.question true (Opening 0) texts is.messages)
          (ap (behind_all a Before) same ∙ taken a serial t.sets t.soa is.version);
      records = version.0;
      said = ap (λ (rs : List Record). said_by WholeZone a.origin rs held) same ∙ version.1;
      holds = version.2;
    }
