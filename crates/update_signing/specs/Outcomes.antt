-- What comes of an update of a signed zone by those who may make it (RFC 2136 section 3)
use Rattle.std.specs.Prelude.{◌≡◌, true, if◌then◌else◌, List, [], Option, Some, None, Result, Ok, Err}
use Rattle.zone_lookup.specs.StartOfAuthority.{serial}
use Rattle.zone_map.specs.Zones.{Sets}
use Rattle.zone_proto.specs.Names.{Name}
use Rattle.zone_update.specs.Demands.{are_met}
use Rattle.zone_update.specs.Entries.{◌>>=◌, IsRefusal}
use Rattle.zone_update.specs.Updates.{course_of, Course}
use Rattle.zone_update.specs.declared.entry.Entry.{Entry}
use Rattle.zone_update.specs.declared.refusal.Refusal.{Refusal}
use Rattle.zone_update.specs.declared.refusal.Refusal.TheVariants.{Refused}
use Rattle.update_policy.specs.declared.rule.Rule.{Rule}
use Rattle.update_permission.specs.Permissions.{is_each_permitted}
use Rattle.update_denials.specs.Prepared.{IsPreparedOf, IsUnchanged, IsUnpreparedOf}
use Rattle.update_denials.specs.declared.preparing.PrepareFault.{PrepareFault}
use Rattle.update_denials.specs.declared.preparing.PrepareFault.TheVariants as why
use Rattle.update_denials.specs.declared.preparing.Prepared.{Prepared}
use Rattle.update_denials.specs.declared.preparing.Signing.{Signing}

-- Whether an update may go on: its prerequisites are met (section 3.2), and then the owner of the key may make each of its changes (section
-- 3.3). Who has no key is refused before, as who has a wrong one is (RFC 8945 section 5.2).
abbrev pub permission : List Rule → Option Name → Name → Sets → List Entry → List Entry → Result (Unit {0}) Refusal
permission rules None origin m prerequisites changes = Err Refused
permission rules (Some key) origin m prerequisites changes =
    are_met origin m prerequisites >>= λ _. if is_each_permitted rules key origin m changes then Ok tt else Err Refused

-- Then its changes are made (section 3.4): the sets after them, and whether they were changed. The serial goes on where they are signed.
abbrev pub course_if_permitted : List Rule → Option Name → Name → Sets → List Entry → List Entry → Result Course Refusal
course_if_permitted rules key origin m prerequisites changes = permission rules key origin m prerequisites changes >>= λ _. course_of origin m [] changes

-- an update that took this course changed the sets to these
abbrev pub IsChangedTo : Sets → Result Course Refusal → Type 0
IsChangedTo after course = course ≡ Ok (record { sets = after; changed = true })

-- What comes of it: nothing, where it changes nothing; or the sets that it changed, prepared to be signed, with the serial of the zone before; or
-- it is refused, or they can't be signed. Memory may run out in place of each cause.
abbrev pub IsOutcome : Name → Sets → Signing → Result Course Refusal → Result (Option Prepared) PrepareFault → Type 0
IsOutcome origin old signing course (Ok None) = IsUnchanged course
IsOutcome origin old signing course (Ok (Some p)) =
    (after : Sets) × IsChangedTo after course × IsPreparedOf origin old after signing p.plan × (p.serial ≡ serial old origin)
IsOutcome origin old signing course (Err (why.Refused r)) = IsRefusal r course
IsOutcome origin old signing course (Err (why.Unsigned e)) = (after : Sets) × IsChangedTo after course × IsUnpreparedOf origin old after signing (why.Unsigned e)
IsOutcome origin old signing course (Err why.Memory) = Unit {0}
