-- How changes end, from what the steps of the way say
use Rattle.std.proofs.Common.{◌≡◌, ◌∙◌, true, false, sym, ap, Result, Ok}
use Rattle.std.specs.Prelude.{Option, Some, None}
use Rattle.zone_proto.specs.Names.{Name}
use Rattle.zone_map.specs.Zones.{Sets}
use Rattle.zone_update.specs.Entries.{◌>>=◌, IsRefusal}
use Rattle.zone_update.specs.Updates.{finished, Course}
use Rattle.zone_update.specs.declared.refusal.Refusal.{Refusal}
use Rattle.zone_update.specs.declared.refusal.Refusal.TheVariants.{FormErr, NXDomain, Refused, YXDomain, YXRRSet, NXRRSet, NotAuth, NotZone, Memory}
use Rattle.update_permission.specs.Permissions.{if_changed}

module _ (origin : Name) (m : Sets) (made : Result Course Refusal) where
  abbrev ended : Result Course Refusal → Result (Option Sets) Refusal
  ended o = o >>= λ c. Ok (if_changed origin m c)

  pub ends_changed : (after last : Sets) → made ≡ Ok (record { sets = after; changed = true }) → last ≡ finished origin m (record { sets = after; changed = true })
      → (made >>= λ c. Ok (if_changed origin m c)) ≡ Ok (Some last)
  ends_changed after last h is = ap ended h ∙ ap (λ (x : Sets). Ok (Some x)) (sym is)

  pub ends_same : (s : Sets) → made ≡ Ok (record { sets = s; changed = false }) → (made >>= λ c. Ok (if_changed origin m c)) ≡ Ok None
  ends_same s h = ap ended h

  pub ends_refused : (e : Refusal) → IsRefusal e made → IsRefusal e (made >>= λ c. Ok (if_changed origin m c))
  ends_refused Memory h = tt
  ends_refused FormErr h = ap ended h
  ends_refused NXDomain h = ap ended h
  ends_refused Refused h = ap ended h
  ends_refused YXDomain h = ap ended h
  ends_refused YXRRSet h = ap ended h
  ends_refused NXRRSet h = ap ended h
  ends_refused NotAuth h = ap ended h
  ends_refused NotZone h = ap ended h
