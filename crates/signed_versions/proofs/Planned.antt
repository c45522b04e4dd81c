-- An update that is planned and whose change is begun in a version is begun in it
use Rattle.std.proofs.Common.{◌≡◌, Bool, List, inl, refl, subst, Result, Ok, Err}
use Rattle.std.specs.List.{list_all}
use Rattle.std.specs.Prelude.{IfErr, Option, Some, None}
use Rattle.zone_proto.specs.Names.{Name}
use Rattle.zone_map.specs.Zones.{Sets}
use Rattle.zone_planning.specs.declared.fault.PlanFault.TheVariants as plan
use Rattle.zone_planner.specs.declared.keys.PlannedKey.{PlannedKey}
use Rattle.zone_planner.specs.declared.request.Request.{Request}
use Rattle.zone_update.specs.declared.entry.Entry.{Entry}
use Rattle.zone_update.specs.declared.refusal.Refusal.{Refusal}
use Rattle.update_in_place.specs.declared.in_place.Changed.{Changed}
use Rattle.update_in_place.specs.Parts.{sets_of, AreChanged}
use Rattle.update_in_place.specs.Plans.{IsPlan}
use Rattle.signed_in_place.specs.Updates.{is_of_its_type, IsBegunIf, IsBegunUpdate, IsUnbegun, IsUnsigned}
use Rattle.signed_in_place.specs.declared.beginning.Begun.{Begun}
use Rattle.signed_in_place.specs.declared.beginning.Begun.TheVariants as change
use Rattle.signed_in_place.specs.declared.updating.UpdateFault.{UpdateFault}
use Rattle.signed_in_place.specs.declared.updating.UpdateFault.TheVariants as fault
use Rattle.zone_database.specs.declared.zone.Zone.{Zone}
use Rattle.signed_versions.specs.Begun.{IsBegunChange, IsBegunOf, IsUnbegunIn}
use Rattle.signed_versions.specs.declared.beginning.BegunVersion.{BegunVersion}
use Rattle.signed_versions.specs.declared.beginning.BegunVersion.TheVariants as begun

module _ (origin : Name) (keys : List PlannedKey) (request : Request) (names : List Name) (changes : List Entry) (made : Result (Option Sets) Refusal) (changed : Changed)
    (are_typed : Bool) (typed : are_typed ≡ list_all is_of_its_type changes) where
  carried : (old new : Sets) (b : Begun) → IsPlan names old made (Some changed) → IsBegunIf are_typed origin keys request changed.before changed.after old new b
      → IsBegunUpdate origin keys request names changes old new made (Some b)
  carried old new b (next, is, are) h =
      let Both : Sets → Sets → Type 0 = λ x y. AreChanged names old next x y × IsBegunIf (list_all is_of_its_type changes) origin keys request x y old new b in
      let begun : Both changed.before changed.after = (are, subst (λ (t : Bool). IsBegunIf t origin keys request changed.before changed.after old new b) typed h) in
      let both : Both (sets_of names old) (sets_of names next) =
      subst (λ (y : Sets). Both (sets_of names old) y) are.after_is (subst (λ (x : Sets). Both x changed.after) are.before_is begun) in
      (next, is, both.0, both.1)

  pub of_planned : (z : Zone) (b : BegunVersion) → IsPlan names z.inner.records made (Some changed) → IsBegunChange origin keys request are_typed changed z b
      → IsBegunOf origin keys request names changes made z b
  of_planned z (begun.Waiting v) plan (version, h) = (version, carried z.inner.records v.next (change.Changed v.change) plan h)
  of_planned z begun.NotLocal plan h = carried z.inner.records z.inner.records change.NotLocal plan h
  of_planned z begun.Unchanged plan h = absurd h
  of_planned z begun.NoZone plan h = absurd h

-- memory may run out whatever zone is found
pub without_memory : (keys : List PlannedKey) (request : Request) (update : Sets → Result (Option Sets) Refusal) (found : Option Zone)
    → IsUnbegunIn keys request update found (fault.Unsigned plan.Memory)
without_memory keys request update None = refl
without_memory keys request update (Some z) = inl refl

-- why a change isn't begun is why its update isn't
pub of_unsigned : {A : Type 0} (keys : List PlannedKey) (request : Request) (m : Sets) (made : Result (Option Sets) Refusal) (r : Result A UpdateFault) → IfErr r (IsUnsigned keys request)
    → IfErr r (IsUnbegun keys request m m made)
of_unsigned keys request m made (Ok a) h = tt
of_unsigned keys request m made (Err (fault.Refused e)) h = absurd h
of_unsigned keys request m made (Err (fault.Unsigned e)) h = h
