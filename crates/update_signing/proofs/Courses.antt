-- The course of an update that is permitted is that of the update; it changes what the owner of the key may change, and is refused alike for each zone
use Rattle.std.proofs.Common.{◌≡◌, ◌⊎◌, Bool, true, false, List, [], refl, subst, inl, Result, Ok, Err}
use Rattle.std.specs.Prelude.{Option, Some, None, if◌then◌else◌, IsTrue}
use Rattle.zone_map.specs.Zones.{Sets, set_at}
use Rattle.zone_proto.specs.Names.{Name}
use Rattle.zone_update.specs.Changes.{changes_of}
use Rattle.zone_update.specs.Demands.{are_met, demands_of, met}
use Rattle.zone_update.specs.Entries.{◌>>=◌}
use Rattle.zone_update.specs.Updates.{course_of, run, serial_before, Course}
use Rattle.zone_update.specs.declared.change.Change.{Change}
use Rattle.zone_update.specs.declared.demand.Demand.{Demand}
use Rattle.zone_update.specs.declared.entry.Entry.{Entry}
use Rattle.zone_update.specs.declared.refusal.Refusal.{Refusal}
use Rattle.zone_update.specs.declared.refusal.Refusal.TheVariants.{Refused}
use Rattle.update_policy.specs.Policies.{permits}
use Rattle.update_policy.specs.declared.rule.Rule.{Rule}
use Rattle.update_permission.specs.Permissions.{changed_alone, if_changed, is_each_permitted}
use Rattle.update_permission.proofs.Stays.{run_stays, Stays}
use Rattle.update_signing.specs.Laws.{PermittedIsPrepared, PermittedSetsAloneAreChanged, RefusedAlike}
use Rattle.update_signing.specs.Outcomes.{course_if_permitted}

-- that demands are met, without the demands
abbrev without_demands : Result (List Demand) Refusal → Result (Unit {0}) Refusal
without_demands o = o >>= λ _. Ok tt

abbrev let_go : Bool → Result (Unit {0}) Refusal
let_go may = if may then Ok tt else Err Refused

abbrev changed_to : Sets → Course
changed_to after = record { sets = after; changed = true }

module _ (origin : Name) (m : Sets) (changes : List Entry) where
  -- sets that are changed so
  abbrev begun : List Change → Course
  begun cs = run origin (serial_before origin m) (record { sets = m; changed = false }) cs

  abbrev alone : Result Course Refusal
  alone = course_of origin m [] changes

  -- without prerequisites the changes are all
  alone_is : alone ≡ (changes_of origin changes >>= λ cs. Ok (begun cs))
  unfolding demands_of
  alone_is = refl

  -- where it is permitted it takes the course of the update
  pub course_is : (rules : List Rule) (key : Option Name) (prerequisites : List Entry) (c : Course) → course_if_permitted rules key origin m prerequisites changes ≡ Ok c
      → course_of origin m prerequisites changes ≡ Ok c
  unfolding demands_of
  course_is rules None prerequisites c h = absurd cc
  course_is rules (Some key) prerequisites c h = of (met origin m prerequisites) h
    where
      by : (may : Bool) → (let_go may >>= λ _. alone) ≡ Ok c → alone ≡ Ok c
      by true g = g
      by false g = absurd cc

      of : (o : Result (List Demand) Refusal) → ((without_demands o >>= λ _. let_go (is_each_permitted rules key origin m changes)) >>= λ _. alone) ≡ Ok c
          → (o >>= λ _. changes_of origin changes >>= λ cs. Ok (begun cs)) ≡ Ok c
      of (Err e) g = absurd cc
      of (Ok ds) g = by (is_each_permitted rules key origin m changes) g

pub permitted_is_prepared : PermittedIsPrepared
permitted_is_prepared rules key origin m prerequisites changes signing p (after, changed, made, stood) =
    record { after = after; updated = course_is origin m changes rules key prerequisites (record { sets = after; changed = true }) changed; made = made }

pub permitted_sets_alone_are_changed : PermittedSetsAloneAreChanged
permitted_sets_alone_are_changed rules requestor origin m after prerequisites changes h n t =
    of (are_met origin m prerequisites) h
  where
    start : Stays rules requestor origin m m
    start n t = inl refl

    made : is_each_permitted rules requestor origin m changes ≡ true → (o : Result (List Change) Refusal) → changes_of origin changes ≡ o → (o >>= λ cs. Ok (begun origin m changes cs)) ≡ Ok (changed_to after)
        → (set_at after n t ≡ set_at m n t) ⊎ IsTrue (permits rules requestor n t)
    made may (Err e) p g = absurd cc
    made may (Ok cs) p g =
        let is : begun origin m changes cs ≡ changed_to after = cc in
        subst (λ (c : Course). Stays rules requestor origin m c.sets) is
        (run_stays rules requestor origin m (serial_before origin m) changes cs (record { sets = m; changed = false }) p may start) n t

    by : (b : Bool) → is_each_permitted rules requestor origin m changes ≡ b → (let_go b >>= λ _. alone origin m changes) ≡ Ok (changed_to after)
        → (set_at after n t ≡ set_at m n t) ⊎ IsTrue (permits rules requestor n t)
    by true may g = made may (changes_of origin changes) refl (subst (λ (o : Result Course Refusal). o ≡ Ok (changed_to after)) (alone_is origin m changes) g)
    by false may g = absurd cc

    of : (o : Result (Unit {0}) Refusal) → ((o >>= λ _. let_go (is_each_permitted rules requestor origin m changes)) >>= λ _. alone origin m changes) ≡ Ok (changed_to after)
        → (set_at after n t ≡ set_at m n t) ⊎ IsTrue (permits rules requestor n t)
    of (Err e) g = absurd cc
    of (Ok x) g = by (is_each_permitted rules requestor origin m changes) refl g

pub refused_alike : RefusedAlike
refused_alike rules None origin m prerequisites changes = refl
refused_alike rules (Some key) origin m prerequisites changes =
    of (are_met origin m prerequisites)
  where
    by : (b : Bool) → (if b then changed_alone origin m changes else Err Refused) ≡ ((let_go b >>= λ _. alone origin m changes) >>= λ c. Ok (if_changed origin m c))
    by true = refl
    by false = refl

    of : (o : Result (Unit {0}) Refusal) → (o >>= λ _. if is_each_permitted rules key origin m changes then changed_alone origin m changes else Err Refused)
        ≡ (((o >>= λ _. let_go (is_each_permitted rules key origin m changes)) >>= λ _. alone origin m changes) >>= λ c. Ok (if_changed origin m c))
    of (Err e) = refl
    of (Ok x) = by (is_each_permitted rules key origin m changes)
