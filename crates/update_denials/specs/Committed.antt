-- Why an update that was prepared isn't committed
use Rattle.std.specs.Prelude.{◌≡◌, ◌≢◌, ◌⊎◌, ℕ, List, Some}
use Rattle.zone_proto.specs.Names.{Name}
use Rattle.zone_lookup.specs.StartOfAuthority.{serial}
use Rattle.zone_map.specs.Zones.{Sets}
use Rattle.zone_planning.specs.declared.fault.FinishFault.{FinishFault}
use Rattle.zone_planning.specs.declared.fault.FinishFault.TheVariants as finishing
use Rattle.zone_planning.specs.Filling.{finish_fault}
use Rattle.update_denials.specs.declared.committing.CommitFault.{CommitFault}
use Rattle.update_denials.specs.declared.committing.CommitFault.TheVariants as fault
use Rattle.update_denials.specs.declared.preparing.Prepared.{Prepared}

-- the zone that is served has another serial than the one that was updated, or the signatures don't fit; memory may run out in place of either
abbrev pub IsUncommitted : Name → Sets → Prepared → List (List ℕ) → CommitFault → Type 0
IsUncommitted origin zone prepared signatures fault.Overtaken = serial zone origin ≢ prepared.serial
IsUncommitted origin zone prepared signatures (fault.Signatures e) =
    (serial zone origin ≡ prepared.serial)
    × ((e ≡ finishing.Memory) ⊎ (finish_fault prepared.plan.keys.items prepared.plan.records signatures ≡ Some e))
IsUncommitted origin zone prepared signatures fault.Memory = Unit {0}
