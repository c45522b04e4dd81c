-- Versions of a zone that can be sent to a secondary and kept there, and steps from version to version
use Rattle.std.specs.Prelude.{◌≡◌, ℕ, ◌==◌, true, false, List, [], ◌∷◌, Some}
use Rattle.std.specs.List.{AllByRecursion}
use Rattle.std.specs.Map.{lookup}
use Rattle.zone_proto.specs.Keys.{key_eq}
use Rattle.zone_proto.specs.Names.{Name, lower, is_at_or_above}
use Rattle.zone_proto.specs.Sets.{RRset, AreSignatures, first_serial}
use Rattle.zone_proto.specs.Types.{IN, SOA}
use Rattle.zone_proto.specs.declared.record.Record.{Record}
use Rattle.zone_proto.specs.declared.rr_key.RrKey.{RrKey}
use Rattle.zone_map.specs.Zones.{Sets, set_at, IsZone}
use Rattle.shown_zones.specs.Sending.{sent}
use Rattle.shown_zones.specs.Steps.{Step, IsStep}
use Rattle.transfer_reading.specs.Differences.{has_record, set_key}

-- records of which no two are the same, TTLs aside
abbrev pub AreDifferent : List Record → Type 0
AreDifferent [] = Unit {0}
AreDifferent (r ∷ rs) = (has_record rs r ≡ false) × AreDifferent rs

-- Records that a secondary of a zone takes, and keeps under one key: each is of class IN, at or below the origin, and of the set of
-- that key or a signature of it; and no two are the same.
pub record AreKept (origin : Name) (k : RrKey) (rs : List Record) : Type 0 where
  pub class : AllByRecursion (λ (r : Record). (r.dns_class.0 == IN) ≡ true) rs
  pub inside : AllByRecursion (λ (r : Record). is_at_or_above (lower origin) (lower r.name) ≡ true) rs
  pub keyed : AllByRecursion (λ (r : Record). set_key r ≡ k) rs
  pub different : AreDifferent rs

-- a version of a zone with an SOA of this serial, whose sets a secondary takes and keeps
pub record IsVersion (origin : Name) (serial : ℕ) (m : Sets) : Type 0 where
  pub zone : IsZone m
  pub kept : (k : RrKey) (s : RRset) → lookup (key_eq k) m ≡ Some s → AreKept origin k (sent s)
  pub soa : RRset
  pub stands : set_at m (lower origin) SOA ≡ Some soa
  pub serial_is : first_serial soa.records ≡ Some serial
  pub signed : AreSignatures soa.signatures

-- Steps lead from a version to the newest, one after the other. No other version on the way has its serial.
abbrev pub Leads : Name → ℕ → Sets → List Step → ℕ → Sets → Type 0
Leads origin before a [] newest z = ⊥
Leads origin before a (s ∷ []) newest z = IsVersion origin before a × IsVersion origin newest z × IsStep (lower origin) a z s
Leads origin before a (s ∷ t ∷ steps) newest z =
    IsVersion origin before a × (after : ℕ) × (b : Sets) × IsStep (lower origin) a b s × ((after == newest) ≡ false)
    × Leads origin after b (t ∷ steps) newest z
