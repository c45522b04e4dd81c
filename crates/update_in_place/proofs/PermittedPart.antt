-- An update that is carried out where it is permitted makes of the sets of its names what it makes of them alone
use Rattle.std.proofs.Common.{◌≡◌, Bool, true, false, ◌&&◌, List, [], ◌∷◌, refl, sym, ap, ◌∙◌, subst, Result, Ok, Err}
use Rattle.std.specs.Prelude.{ℕ, Option, Some, None, if◌then◌else◌}
use Rattle.std.specs.List.{list_all, AllByRecursion}
use Rattle.zone_proto.specs.Keys.{key as key_at}
use Rattle.zone_proto.specs.Names.{Name, lower}
use Rattle.zone_map.specs.Zones.{Sets}
use Rattle.zone_difference.proofs.Found.{InOrder}
use Rattle.update_policy.specs.Policies.{permits}
use Rattle.update_policy.specs.declared.rule.Rule.{Rule}
use Rattle.zone_update.specs.Changes.{changes_of}
use Rattle.zone_update.specs.Demands.{are_met, demands_of}
use Rattle.zone_update.specs.Entries.{◌>>=◌, Gives, IsRefusal}
use Rattle.zone_update.specs.Updates.{finished, Course}
use Rattle.zone_update.specs.declared.change.Change.{Change}
use Rattle.zone_update.specs.declared.entry.Entry.{Entry}
use Rattle.zone_update.specs.declared.refusal.Refusal.{Refusal}
use Rattle.zone_update.specs.declared.refusal.Refusal.TheVariants.{Refused}
use Rattle.update_permission.specs.Permissions.{changed_alone, deletes_name, if_changed, is_each_permitted, is_permitted, may_go, type_about, updated_if_permitted}
use Rattle.update_in_place.specs.declared.in_place.Changed.{Changed}
use Rattle.update_in_place.specs.Locality.{PermissionsAreLocal}
use Rattle.update_in_place.specs.Parts.{is_among, names_about, sets_of, AreChanged}
use Rattle.update_in_place.specs.Plans.{GivesPlan, IsPlan}
use Rattle.update_in_place.proofs.About.{all_among, origin_among, passes}
use Rattle.update_in_place.proofs.Kept.{kept, types_kept}
use Rattle.update_in_place.proofs.Local.{begun, begun_kept, of_finished, AreLocal, IsPartAfter, Pass}
use Rattle.update_in_place.proofs.Named.{each_passes}

-- ---- who may make changes

module _ (p : Name → Bool) (rules : List Rule) (key origin : Name) (m : Sets) where
  one_kept : (r : Entry) → p (lower r.name) ≡ true → is_permitted rules key origin (kept p m) r ≡ is_permitted rules key origin m r
  one_kept r h =
      ap (λ (ts : List ℕ). if deletes_name r then list_all (may_go rules key origin (lower r.name)) ts else permits rules key (lower r.name) (type_about r))
      (types_kept p m (lower r.name) h)

  pub permitted_kept : (rs : List Entry) → Pass p rs → is_each_permitted rules key origin (kept p m) rs ≡ is_each_permitted rules key origin m rs
  permitted_kept [] h = refl
  permitted_kept (r ∷ rs) h =
      ap (λ b. b && is_each_permitted rules key origin (kept p m) rs) (one_kept r h.0)
      ∙ ap (λ b. is_permitted rules key origin m r && b) (permitted_kept rs h.1)

pub permissions_are_local : PermissionsAreLocal
permissions_are_local rules key origin m changes = permitted_kept (is_among (names_about origin changes)) rules key origin m changes (all_among origin changes)

-- ---- what they make

module _ (p : Name → Bool) (origin : Name) (at_origin : p origin ≡ true) (m : Sets) (ordered : InOrder m) where
  -- what is made of the part is a part of what is made of the whole; and what is refused of it is refused of the whole
  abbrev pub IsOfWhole : Result (Option Sets) Refusal → Result (Option Sets) Refusal → Type 0
  IsOfWhole (Ok (Some part)) made = (whole : Sets) × (made ≡ Ok (Some whole)) × IsPartAfter p m whole part
  IsOfWhole (Ok None) made = made ≡ Ok None
  IsOfWhole (Err e) made = made ≡ Err e

  of_course : (cs : List Change) → AreLocal p m (begun origin m cs) (begun origin (kept p m) cs)
      → IsOfWhole (Ok (if_changed origin (kept p m) (begun origin (kept p m) cs))) (Ok (if_changed origin m (begun origin m cs)))
  of_course cs local =
      subst (λ (c : Course). IsOfWhole (Ok (if_changed origin (kept p m) c)) (Ok (if_changed origin m whole))) (sym local.same) (by whole.changed)
    where
      whole : Course
      whole = begun origin m cs

      part : Course
      part = record { sets = kept p whole.sets; changed = whole.changed }

      by : (b : Bool) → IsOfWhole (Ok (if b then Some (finished origin (kept p m) part) else None)) (Ok (if b then Some (finished origin m whole) else None))
      by true = (finished origin m whole, refl, of_finished p origin at_origin m whole local.ordered local.others)
      by false = refl

  of_changes : (rs : List Entry) → Pass p rs → IsOfWhole (changed_alone origin (kept p m) rs) (changed_alone origin m rs)
  unfolding demands_of
  of_changes rs h = by (changes_of origin rs) refl
    where
      by : (x : Result (List Change) Refusal) → changes_of origin rs ≡ x
          → IsOfWhole ((x >>= λ cs. Ok (begun origin (kept p m) cs)) >>= λ c. Ok (if_changed origin (kept p m) c)) ((x >>= λ cs. Ok (begun origin m cs)) >>= λ c. Ok (if_changed origin m c))
      by (Err e) k = refl
      by (Ok cs) k = of_course cs (begun_kept p origin at_origin m cs ordered (each_passes p origin rs cs h k))

  pub of_permitted : (rules : List Rule) (key : Name) (rs : List Entry) → Pass p rs
      → IsOfWhole (updated_if_permitted rules (Some key) origin (kept p m) [] rs) (updated_if_permitted rules (Some key) origin m [] rs)
  unfolding demands_of
  of_permitted rules key rs h =
      subst (λ (b : Bool). IsOfWhole (if b then changed_alone origin (kept p m) rs else Err Refused) (if is_each_permitted rules key origin m rs then changed_alone origin m rs else Err Refused))
      (sym (permitted_kept p rules key origin m rs h)) (by (is_each_permitted rules key origin m rs))
    where
      by : (b : Bool) → IsOfWhole (if b then changed_alone origin (kept p m) rs else Err Refused) (if b then changed_alone origin m rs else Err Refused)
      by true = of_changes rs h
      by false = refl

-- ---- plans

module _ (rules : List Rule) (key origin : Name) (changes : List Entry) (zone before : Sets) (ordered : InOrder zone)
    (is_before : before ≡ sets_of (names_about origin changes) zone) where
  abbrev made_of : Sets → Result (Option Sets) Refusal
  made_of m = updated_if_permitted rules (Some key) origin m [] changes

  abbrev Whole : Result (Option Sets) Refusal → Type 0
  Whole part = IsOfWhole (is_among (names_about origin changes)) origin (origin_among origin changes) zone ordered part (made_of zone)

  whole : Whole (made_of before)
  whole =
      subst (λ (x : Sets). Whole (made_of x)) (sym is_before)
      (of_permitted (is_among (names_about origin changes)) origin (origin_among origin changes) zone ordered rules key changes (all_among origin changes))

  pub planned_some : (changed : Changed) (after : Sets) → changed.before ≡ before → changed.after ≡ after → made_of before ≡ Ok (Some after)
      → IsPlan (names_about origin changes) zone (made_of zone) (Some changed)
  planned_some changed after b a made =
      let part = subst Whole made whole in
      (part.0, part.1, record { before_is = b ∙ is_before; after_is = a ∙ part.2.same; ordered = part.2.ordered; others = λ n t g. part.2.others (key_at n t) g })

  pub planned_none : made_of before ≡ Ok None → made_of zone ≡ Ok None
  planned_none made = subst Whole made whole

  pub planned_refused : (e : Refusal) → IsRefusal e (made_of before) → IsRefusal e (made_of zone)
  planned_refused e refused = passes e (made_of before) (made_of zone) refused (λ made. subst Whole made whole)

-- ---- prerequisites

module _ (rules : List Rule) (key origin : Name) (m : Sets) (ps rs : List Entry) where
  pub permitted_once_met : (u : Unit {0}) → are_met origin m ps ≡ Ok u → updated_if_permitted rules (Some key) origin m ps rs ≡ updated_if_permitted rules (Some key) origin m [] rs
  unfolding demands_of
  permitted_once_met u h =
      ap (λ (o : Result (Unit {0}) Refusal). o >>= λ _. if is_each_permitted rules key origin m rs then changed_alone origin m rs else Err Refused) h

  pub permitted_once_unmet : (e : Refusal) → IsRefusal e (are_met origin m ps) → IsRefusal e (updated_if_permitted rules (Some key) origin m ps rs)
  permitted_once_unmet e refused =
      passes e (are_met origin m ps) (updated_if_permitted rules (Some key) origin m ps rs) refused
      (λ h. ap (λ (o : Result (Unit {0}) Refusal). o >>= λ _. if is_each_permitted rules key origin m rs then changed_alone origin m rs else Err Refused) h)
