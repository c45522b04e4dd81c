-- What the call does that writes a zone as a zone file
use Rattle.std.specs.Prelude.{◌≡◌, ℕ, List, Option, Some, None}
use Rattle.std.specs.List.{find}
use Rattle.call_handles.specs.Rooms.{IsUntouched}
use Rattle.zone_proto.specs.Keys.{key}
use Rattle.zone_proto.specs.Names.{lower}
use Rattle.zone_proto.specs.Types.{SOA}
use Rattle.zone_file_writer.specs.Printing.{lines_text}
use Rattle.zone_printing.specs.ZoneRecords.{zone_records}
use Rattle.zone_database.specs.declared.outcome.Outcome.{Outcome}
use Rattle.zone_database.specs.declared.outcome.Outcome.TheVariants.{NoMemory, NoZone}
use Rattle.zone_database.specs.declared.zone.Zone.{Zone}
use Rattle.zone_database.specs.Calls.{origin_of, IsGiven, WithName}
use Rattle.zone_database.specs.Databases.{begins_at}

-- the lines of the records of a zone, those of the SOA at its origin first
abbrev pub zone_text : Zone → List ℕ
zone_text z = lines_text (zone_records (key z.origin SOA) z.inner.records)

-- they are in the room, or it is told how much room they need; or no memory was found, and nothing was written
abbrev pub WritesZone : Zone → Outcome → ℕ → List ℕ → List ℕ → Type 0
WritesZone z NoMemory written before after = IsUntouched written before after
WritesZone z outcome written before after = IsGiven (zone_text z) outcome written before after

-- the call ends so, and nothing was written
abbrev pub Ends : ℕ → List ℕ → List ℕ → Outcome → Outcome → Type 0
Ends written before after outcome end = (outcome ≡ end) × IsUntouched written before after

-- the same where there may be no zone
abbrev pub WritesAt : Option Zone → Outcome → ℕ → List ℕ → List ℕ → Type 0
WritesAt None outcome written before after = Ends written before after outcome NoZone
WritesAt (Some z) outcome written before after = WritesZone z outcome written before after

-- the same of the zone of an origin that is given as text
abbrev pub WritesNamed : List ℕ → List Zone → Outcome → ℕ → List ℕ → List ℕ → Type 0
WritesNamed text zs outcome written before after =
    WithName (origin_of text) (λ name. WritesAt (find (begins_at (lower name)) zs) outcome written before after) (Ends written before after outcome)
