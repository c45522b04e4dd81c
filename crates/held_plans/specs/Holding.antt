-- A plan that is held: how it begins, and the zone that it ends with
use Rattle.std.specs.Prelude.{◌≡◌, ◌⊎◌, ℕ, List, [], map, Option, Some}
use Rattle.zone_proto.specs.declared.rdata.signing.DNSKEY.{DNSKEY}
use Rattle.zone_proto.specs.Names.{Name}
use Rattle.zone_map.specs.Renewals.{with_signatures}
use Rattle.zone_map.specs.Zones.{Sets, IsZone}
use Rattle.zone_lookup.specs.StartOfAuthority as authority
use Rattle.zone_planning.specs.declared.fault.FinishFault.{FinishFault}
use Rattle.zone_planning.specs.declared.fault.PlanFault.{PlanFault}
use Rattle.zone_planning.specs.declared.fault.PlanFault.TheVariants as fault
use Rattle.zone_planning.specs.Filling.{filled, finish_fault}
use Rattle.zone_planning.specs.Frames as frames
use Rattle.zone_planner.specs.declared.keys.PlannedKey.{PlannedKey}
use Rattle.zone_planner.specs.declared.request.Request.{Request}
use Rattle.zone_planner.specs.Faults.{plan_fault}
use Rattle.zone_planner.specs.Plans.{IsPlanned}
use Rattle.held_plans.specs.Asking.{AreSignable}
use Rattle.held_plans.specs.Copies.{unsigned}
use Rattle.held_plans.specs.PlanStates.{PlanState}

-- ---- its beginning

-- a plan of the zone of an origin: its sets without signatures, denials and keys, as they are planned to be signed; nothing was handed out, and no signature given
pub record IsBegun (apex : Name) (m : Sets) (ks : List PlannedKey) (request : Request) (p : PlanState) : Type 0 where
  pub origin : p.origin ≡ apex
  pub serial : p.serial ≡ authority.serial m apex
  pub planned : IsPlanned apex ks request (unsigned m) p.records
  pub zone : IsZone p.records
  pub keys : p.keys ≡ map (λ (k : PlannedKey). k.key) ks
  pub asked : p.asked ≡ frames.asked p.records
  pub signatures : p.signatures ≡ []

-- a plan that was made, of the zone of an origin that had a serial: nothing was handed out, and no signature given
abbrev pub made_plan : Name → ℕ → Sets → List DNSKEY → PlanState
made_plan apex number m keys = record { origin = apex; serial = number; records = m; keys = keys; asked = frames.asked m; signatures = [] }

-- the planned sets have data that no octets are
abbrev pub IsUnwritable : Name → Sets → List PlannedKey → Request → Type 0
IsUnwritable origin m keys request = (planned : Sets) × IsPlanned origin keys request (unsigned m) planned × (AreSignable planned → ⊥)

-- why there is none
abbrev pub IsUnplanned : Name → Sets → List PlannedKey → Request → PlanFault → Type 0
IsUnplanned origin m keys request e = (plan_fault origin (unsigned m) keys request ≡ Some e) ⊎ ((e ≡ fault.Unwritable) × IsUnwritable origin m keys request)

-- ---- its end

-- the planned sets with the signatures that were given in the places of the blank ones, in order
abbrev pub finished_sets : PlanState → Sets
finished_sets p = with_signatures p.records (filled p.records p.signatures)

-- why they aren't made: there are fewer signatures than blank ones, or more, or one isn't as long as those of its key
abbrev pub unfinished_fault : PlanState → Option FinishFault
unfinished_fault p = finish_fault p.keys p.records p.signatures
