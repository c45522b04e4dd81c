-- What is planned of an update that is carried out where it is permitted
use Rattle.std.specs.Prelude.{◌≡◌, List, Option, Some, None, Result, Ok, Err}
use Rattle.zone_proto.specs.Names.{Name}
use Rattle.zone_map.specs.Zones.{Sets}
use Rattle.zone_update.specs.Entries.{IsRefusal}
use Rattle.zone_update.specs.declared.refusal.Refusal.{Refusal}
use Rattle.update_in_place.specs.declared.in_place.Changed.{Changed}
use Rattle.update_in_place.specs.Parts.{AreChanged}

-- of an update that makes this of a zone: the sets of some names before it and after it; none where it changes nothing
abbrev pub IsPlan : List Name → Sets → Result (Option Sets) Refusal → Option Changed → Type 0
IsPlan names zone made None = made ≡ Ok None
IsPlan names zone made (Some changed) = (next : Sets) × (made ≡ Ok (Some next)) × AreChanged names zone next changed.before changed.after

-- or it is refused as is defined, unless memory ran out
abbrev pub GivesPlan : List Name → Sets → Result (Option Sets) Refusal → Result (Option Changed) Refusal → Type 0
GivesPlan names zone made (Ok plan) = IsPlan names zone made plan
GivesPlan names zone made (Err e) = IsRefusal e made
