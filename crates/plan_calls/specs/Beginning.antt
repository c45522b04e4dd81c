-- A plan of a zone, or why there is none
use Rattle.std.specs.Prelude.{◌≡◌, ℕ, List, map, Some, None, Ok, IsErr}
use Rattle.std.specs.List.{find}
use Rattle.zone_proto.specs.declared.nx_proof_kind.NxProofKind.{NxProofKind}
use Rattle.zone_proto.specs.declared.rdata.signing.DNSKEY.{DNSKEY}
use Rattle.zone_proto.specs.Names.{Name, lower}
use Rattle.zone_planner.specs.declared.keys.PlannedKey.{PlannedKey}
use Rattle.zone_planner.specs.Keys.{by_flags}
use Rattle.zone_database.specs.declared.zone.Zone.{Zone}
use Rattle.zone_database.specs.Calls.{origin_of}
use Rattle.zone_database.specs.Databases.{begins_at}
use Rattle.held_plans.specs.Holding as held
use Rattle.held_plans.specs.Keys.{AreKeys, AreNoKeys}
use Rattle.held_plans.specs.PlanStates.{PlanState}
use Rattle.plan_calls.specs.declared.outcome.PlanOutcome.{PlanOutcome}
use Rattle.plan_calls.specs.declared.outcome.PlanOutcome.TheVariants.{BadName, NoMemory, NoZone, BadKeys, BadDenial, Unplanned}
use Rattle.plan_calls.specs.declared.signing.Signing.{Signing}
use Rattle.plan_calls.specs.Signings.{asks_parent, kind_of, request_of}

-- ---- what the caller gives

-- octets name the origin of a zone that is there, and that of none
abbrev pub HasZone : List Zone → List ℕ → Zone → Type 0
HasZone zs origin z = (name : Name) × (origin_of origin ≡ Ok name) × (find (begins_at (lower name)) zs ≡ Some z)

abbrev pub HasNoZone : List Zone → List ℕ → Type 0
HasNoZone zs origin = (name : Name) × (origin_of origin ≡ Ok name) × (find (begins_at (lower name)) zs ≡ None)

-- what is given is a zone, keys, and denials
pub record AreGiven (zs : List Zone) (origin keys : List ℕ) (how : Signing) (salt : List ℕ) (z : Zone) (ks : List DNSKEY) (kind : NxProofKind) : Type 0 where
  pub has_zone : HasZone zs origin z
  pub has_keys : AreKeys keys ks
  pub has_denial : kind_of how salt ≡ Some kind

-- the keys, which are published and sign by their flags
abbrev pub planned_keys : Signing → List DNSKEY → List PlannedKey
planned_keys how ks = map (by_flags ks (asks_parent how)) ks

-- ---- the plan, or why there is none

abbrev pub IsPlanOf : Zone → List DNSKEY → Signing → NxProofKind → PlanState → Type 0
IsPlanOf z ks how kind p = held.IsBegun z.origin z.inner.records (planned_keys how ks) (request_of how kind) p

-- the zone isn't planned so; of memory nothing is said
abbrev pub IsUnplanned : Zone → List DNSKEY → Signing → NxProofKind → PlanOutcome → Type 0
IsUnplanned z ks how kind (Unplanned f) = held.IsUnplanned z.origin z.inner.records (planned_keys how ks) (request_of how kind) f
IsUnplanned z ks how kind NoMemory = Unit {0}
IsUnplanned z ks how kind outcome = ⊥

-- ---- the same of what is given

abbrev pub IsBegun : List Zone → List ℕ → List ℕ → Signing → List ℕ → PlanState → Type 0
IsBegun zs origin keys how salt p = (z : Zone) × (ks : List DNSKEY) × (kind : NxProofKind) × AreGiven zs origin keys how salt z ks kind × IsPlanOf z ks how kind p

abbrev pub IsUnplannedGiven : List Zone → List ℕ → List ℕ → Signing → List ℕ → PlanOutcome → Type 0
IsUnplannedGiven zs origin keys how salt outcome =
    (z : Zone) × (ks : List DNSKEY) × (kind : NxProofKind) × AreGiven zs origin keys how salt z ks kind × IsUnplanned z ks how kind outcome

-- for each refusal what is wrong; of memory nothing is said
abbrev pub IsRefused : List Zone → List ℕ → List ℕ → Signing → List ℕ → PlanOutcome → Type 0
IsRefused zs origin keys how salt BadName = IsErr (origin_of origin)
IsRefused zs origin keys how salt NoZone = HasNoZone zs origin
IsRefused zs origin keys how salt BadKeys = AreNoKeys keys
IsRefused zs origin keys how salt BadDenial = kind_of how salt ≡ None
IsRefused zs origin keys how salt (Unplanned f) = IsUnplannedGiven zs origin keys how salt (Unplanned f)
IsRefused zs origin keys how salt NoMemory = Unit {0}
IsRefused zs origin keys how salt outcome = ⊥
