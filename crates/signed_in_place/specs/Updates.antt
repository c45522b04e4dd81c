-- What comes of an update of a signed zone that is carried out in a version of it
use Rattle.std.specs.Prelude.{◌≡◌, ◌⊎◌, ◌==◌, Bool, true, false, List, Option, Some, None, Result, Ok}
use Rattle.std.specs.List.{list_all}
use Rattle.zone_proto.specs.Names.{Name}
use Rattle.zone_map.specs.Zones.{Sets}
use Rattle.zone_planning.specs.declared.fault.PlanFault.TheVariants as plan
use Rattle.zone_planner.specs.declared.keys.PlannedKey.{PlannedKey}
use Rattle.zone_planner.specs.declared.request.Request.{Request}
use Rattle.zone_planner.specs.Faults.{request_fault}
use Rattle.zone_update.specs.Entries.{IsRefusal}
use Rattle.zone_update.specs.declared.entry.Entry.{Entry}
use Rattle.zone_update.specs.declared.refusal.Refusal.{Refusal}
use Rattle.update_permission.specs.Permissions.{type_about}
use Rattle.update_in_place.specs.Parts.{sets_of, AreChanged}
use Rattle.signed_in_place.specs.InPlace.{IsBegun}
use Rattle.signed_in_place.specs.declared.beginning.Begun.{Begun}
use Rattle.signed_in_place.specs.declared.beginning.Begun.TheVariants.{NotLocal}
use Rattle.signed_in_place.specs.declared.updating.UpdateFault.{UpdateFault}
use Rattle.signed_in_place.specs.declared.updating.UpdateFault.TheVariants as fault

-- a record of an update has data of its type, if it has any: only so is it told whether it asks for a set that is made where a zone is signed (RFC 2136 section 3.3)
abbrev pub is_of_its_type : Entry → Bool
is_of_its_type r = type_about r == r.record_type.0

-- a change is begun, where each record of its update is so; else nothing changes
abbrev pub IsBegunIf : Bool → Name → List PlannedKey → Request → Sets → Sets → Sets → Sets → Begun → Type 0
IsBegunIf true origin keys request before after old new begun = IsBegun origin keys request before after old new begun
IsBegunIf false origin keys request before after old new begun = (new ≡ old) × (begun ≡ NotLocal)

-- Of an update that makes this of a zone: nothing changes; or the change is begun of the sets of these names, in which alone the zone that it makes is another.
abbrev pub IsBegunUpdate : Name → List PlannedKey → Request → List Name → List Entry → Sets → Sets → Result (Option Sets) Refusal → Option Begun → Type 0
IsBegunUpdate origin keys request names changes old new made None = (made ≡ Ok None) × (new ≡ old)
IsBegunUpdate origin keys request names changes old new made (Some begun) =
    (next : Sets) × (made ≡ Ok (Some next)) × AreChanged names old next (sets_of names old) (sets_of names next)
    × IsBegunIf (list_all is_of_its_type changes) origin keys request (sets_of names old) (sets_of names next) old new begun

-- the zone can't be signed so
abbrev pub IsUnsigned : List PlannedKey → Request → UpdateFault → Type 0
IsUnsigned keys request (fault.Refused r) = ⊥
IsUnsigned keys request (fault.Unsigned e) = (e ≡ plan.Memory) ⊎ (request_fault keys request ≡ Some e)

-- it is refused, and nothing changes, or it can't be signed; memory may run out in place of either
abbrev pub IsUnbegun : List PlannedKey → Request → Sets → Sets → Result (Option Sets) Refusal → UpdateFault → Type 0
IsUnbegun keys request old new made (fault.Refused r) = IsRefusal r made × (new ≡ old)
IsUnbegun keys request old new made (fault.Unsigned e) = (e ≡ plan.Memory) ⊎ (request_fault keys request ≡ Some e)
