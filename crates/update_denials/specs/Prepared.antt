-- An update of a signed zone, prepared to be signed
use Rattle.std.specs.Prelude.{◌≡◌, ℕ, Bool, true, false, ◌⊎◌, cond, List, map, Option, Some, None, Result, Ok}
use Rattle.zone_proto.specs.declared.rdata.signing.DNSKEY.{DNSKEY}
use Rattle.zone_proto.specs.declared.rr_key.RrKey.{RrKey}
use Rattle.zone_proto.specs.Names.{Name}
use Rattle.zone_proto.specs.Types.{DNSKEY as dnskey_type, is_derived}
use Rattle.zone_map.specs.Zones.{Sets, IsZone, set_at}
use Rattle.zone_keeping.specs.Faults.{AllComparable}
use Rattle.zone_keeping.specs.Keeping.{kept}
use Rattle.zone_keeping.specs.Usable.{usable_keys}
use Rattle.zone_planner.specs.declared.keys.PlannedKey.{PlannedKey}
use Rattle.zone_planner.specs.declared.request.Request.{Request}
use Rattle.zone_planner.specs.Faults.{plan_fault}
use Rattle.zone_planner.specs.Plans.{IsPlanned}
use Rattle.zone_planning.specs.declared.fault.PlanFault.{PlanFault}
use Rattle.zone_planning.specs.declared.fault.PlanFault.TheVariants as fault
use Rattle.zone_planning.specs.declared.plans.Plan.{Plan}
use Rattle.zone_planning.specs.Faults.{IsUnwritableUnless}
use Rattle.zone_update.specs.Entries.{IsRefusal}
use Rattle.zone_update.specs.Updates.{Course, course_of}
use Rattle.zone_update.specs.declared.entry.Entry.{Entry}
use Rattle.zone_update.specs.declared.refusal.Refusal.{Refusal}
use Rattle.update_denials.specs.declared.preparing.PrepareFault.{PrepareFault}
use Rattle.update_denials.specs.declared.preparing.PrepareFault.TheVariants as why
use Rattle.update_denials.specs.declared.preparing.Signing.{Signing}

-- a key is that of a set that is made where a zone is signed: RRSIG, NSEC, NSEC3 or NSEC3PARAM
abbrev pub is_made : RrKey → Bool
is_made k = is_derived k.record_type.0

-- a zone without these sets
pub record IsUnsecured (m bare : Sets) : Type 0 where
  pub zone : IsZone bare
  pub each : (n : Name) (t : ℕ) → set_at bare n t ≡ cond (is_derived t) None (set_at m n t)

-- the keys by which a zone is signed, as they stand in it
abbrev pub keys_of : Signing → List DNSKEY
keys_of signing = map (λ (k : PlannedKey). k.key) signing.keys.items

-- The plan of a zone without denials, as is asked for; and in the places of its blank signatures those of the old zone that fit
pub record IsKeptPlan (origin : Name) (old bare : Sets) (signing : Signing) (plan : Plan) : Type 0 where
  pub blank : Sets
  pub is_planned : IsPlanned origin signing.keys.items signing.request bare blank
  pub faultless : plan_fault origin bare signing.keys.items signing.request ≡ None
  pub zone : IsZone blank
  pub keys : plan.keys.items ≡ keys_of signing
  pub kept : plan.records ≡ kept signing.span (usable_keys (keys_of signing) (set_at old origin dnskey_type)) old blank

-- sets that were changed, without what is made where a zone is signed, are planned so
pub record IsPreparedOf (origin : Name) (old after : Sets) (signing : Signing) (plan : Plan) : Type 0 where
  pub bare : Sets
  pub unsecured : IsUnsecured after bare
  pub planned : IsKeptPlan origin old bare signing plan

-- so are the sets of a zone once an update is made
pub record IsPrepared (origin : Name) (old : Sets) (prerequisites changes : List Entry) (signing : Signing) (plan : Plan) : Type 0 where
  pub after : Sets
  pub updated : course_of origin old prerequisites changes ≡ Ok (record { sets = after; changed = true })
  pub made : IsPreparedOf origin old after signing plan

-- an update changes nothing
abbrev pub IsUnchanged : Result Course Refusal → Type 0
IsUnchanged made = (s : Sets) × (made ≡ Ok (record { sets = s; changed = false }))

-- sets that an update changed, or none where it changes nothing
abbrev pub IsFound : Option Sets → Result Course Refusal → Type 0
IsFound (Some after) made = made ≡ Ok (record { sets = after; changed = true })
IsFound None made = IsUnchanged made

-- ---- why it isn't prepared; memory may run out in place of each cause

-- an update is refused
abbrev pub IsRefused : Result Course Refusal → PrepareFault → Type 0
IsRefused made (why.Refused r) = IsRefusal r made
IsRefused made (why.Unsigned e) = ⊥
IsRefused made why.Memory = Unit {0}

-- a zone can't be planned
abbrev pub IsUnmade : Name → Sets → List PlannedKey → Request → PrepareFault → Type 0
IsUnmade origin bare keys request (why.Refused r) = ⊥
IsUnmade origin bare keys request (why.Unsigned e) = (e ≡ fault.Memory) ⊎ (plan_fault origin bare keys request ≡ Some e)
IsUnmade origin bare keys request why.Memory = Unit {0}

-- a plan or the old zone has data that no octets are
abbrev pub IsUnkept : Sets → Sets → PrepareFault → Type 0
IsUnkept old blank (why.Refused r) = ⊥
IsUnkept old blank (why.Unsigned e) = IsUnwritableUnless e (AllComparable old blank)
IsUnkept old blank why.Memory = Unit {0}

-- one or the other
abbrev pub IsUnsigned : Name → Sets → Sets → Signing → PlanFault → Type 0
IsUnsigned origin old bare signing e =
    ((e ≡ fault.Memory) ⊎ (plan_fault origin bare signing.keys.items signing.request ≡ Some e))
    ⊎ ((blank : Sets) × IsPlanned origin signing.keys.items signing.request bare blank × IsUnwritableUnless e (AllComparable old blank))

abbrev pub IsUnplanned : Name → Sets → Sets → Signing → PrepareFault → Type 0
IsUnplanned origin old bare signing (why.Refused r) = ⊥
IsUnplanned origin old bare signing (why.Unsigned e) = IsUnsigned origin old bare signing e
IsUnplanned origin old bare signing why.Memory = Unit {0}

-- the same of sets that were changed
abbrev pub IsUnpreparedOf : Name → Sets → Sets → Signing → PrepareFault → Type 0
IsUnpreparedOf origin old after signing (why.Refused r) = ⊥
IsUnpreparedOf origin old after signing (why.Unsigned e) = (bare : Sets) × IsUnsecured after bare × IsUnsigned origin old bare signing e
IsUnpreparedOf origin old after signing why.Memory = Unit {0}

-- and of an update: it is refused, or it is made and the zone after it can't be signed
abbrev pub IsUnprepared : Name → Sets → List Entry → List Entry → Signing → PrepareFault → Type 0
IsUnprepared origin old prerequisites changes signing (why.Refused r) = IsRefusal r (course_of origin old prerequisites changes)
IsUnprepared origin old prerequisites changes signing (why.Unsigned e) =
    (after : Sets) × (course_of origin old prerequisites changes ≡ Ok (record { sets = after; changed = true })) × IsUnpreparedOf origin old after signing (why.Unsigned e)
IsUnprepared origin old prerequisites changes signing why.Memory = Unit {0}
