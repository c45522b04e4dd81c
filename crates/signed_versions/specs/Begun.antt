-- What comes of an update of a signed zone of a database that is made in the version that is to take its place
use Rattle.std.specs.Prelude.{◌≡◌, Bool, List, Option, Some, None, Result, Ok}
use Rattle.zone_proto.specs.Names.{Name}
use Rattle.zone_map.specs.Zones.{Sets}
use Rattle.zone_planning.specs.declared.fault.PlanFault.TheVariants as plan
use Rattle.zone_planner.specs.declared.keys.PlannedKey.{PlannedKey}
use Rattle.zone_planner.specs.declared.request.Request.{Request}
use Rattle.zone_update.specs.declared.entry.Entry.{Entry}
use Rattle.zone_update.specs.declared.refusal.Refusal.{Refusal}
use Rattle.update_in_place.specs.declared.in_place.Changed.{Changed}
use Rattle.signed_in_place.specs.Updates.{IsBegunIf, IsBegunUpdate, IsUnbegun}
use Rattle.signed_in_place.specs.declared.beginning.Begun.TheVariants as change
use Rattle.signed_in_place.specs.declared.updating.UpdateFault.{UpdateFault}
use Rattle.signed_in_place.specs.declared.updating.UpdateFault.TheVariants as fault
use Rattle.zone_database.specs.declared.zone.Zone.{Zone}
use Rattle.signed_versions.specs.Versions.{VersionState}
use Rattle.signed_versions.specs.declared.beginning.BegunVersion.{BegunVersion}
use Rattle.signed_versions.specs.declared.beginning.BegunVersion.TheVariants as begun

module _ (origin : Name) (keys : List PlannedKey) (request : Request) where
  -- a version is that of a zone
  abbrev pub IsVersionOf : Zone → VersionState → Type 0
  IsVersionOf z v = (v.origin ≡ origin) × (v.before ≡ z)

  -- of a change of a zone, by records that are of their types or not: it is made in a version, or not local
  abbrev pub IsBegunChange : Bool → Changed → Zone → BegunVersion → Type 0
  IsBegunChange are_typed changed z (begun.Waiting v) =
      IsVersionOf z v × IsBegunIf are_typed origin keys request changed.before changed.after z.inner.records v.next (change.Changed v.change)
  IsBegunChange are_typed changed z begun.NotLocal =
      IsBegunIf are_typed origin keys request changed.before changed.after z.inner.records z.inner.records change.NotLocal
  IsBegunChange are_typed changed z begun.Unchanged = ⊥
  IsBegunChange are_typed changed z begun.NoZone = ⊥

  -- of an update that is about these names by these changes, and makes this of the zone
  abbrev pub IsBegunOf : List Name → List Entry → Result (Option Sets) Refusal → Zone → BegunVersion → Type 0
  IsBegunOf names changes made z (begun.Waiting v) =
      IsVersionOf z v × IsBegunUpdate origin keys request names changes z.inner.records v.next made (Some (change.Changed v.change))
  IsBegunOf names changes made z begun.NotLocal =
      IsBegunUpdate origin keys request names changes z.inner.records z.inner.records made (Some change.NotLocal)
  IsBegunOf names changes made z begun.Unchanged = made ≡ Ok None
  IsBegunOf names changes made z begun.NoZone = ⊥

  -- of the zone that is found, if any is
  abbrev pub IsBegunIn : List Name → List Entry → (Sets → Result (Option Sets) Refusal) → Option Zone → BegunVersion → Type 0
  IsBegunIn names changes update None b = b ≡ begun.NoZone
  IsBegunIn names changes update (Some z) b = IsBegunOf names changes (update z.inner.records) z b

-- why an update isn't begun: it is refused, or the zone can't be signed so; without a zone for want of memory alone
abbrev pub IsUnbegunIn : List PlannedKey → Request → (Sets → Result (Option Sets) Refusal) → Option Zone → UpdateFault → Type 0
IsUnbegunIn keys request update None e = e ≡ fault.Unsigned plan.Memory
IsUnbegunIn keys request update (Some z) e = IsUnbegun keys request z.inner.records z.inner.records (update z.inner.records) e
