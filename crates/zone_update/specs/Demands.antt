-- The prerequisites of an update (RFC 2136 sections 2.4 and 3.2)
use Rattle.std.specs.Prelude.{ℕ, Bool, true, false, not, ◌==◌, ◌&&◌, if◌then◌else◌, List, [], ◌∷◌, Option, Some, None, Result, Ok, Err}
use Rattle.std.specs.List.{list_any, list_all}
use Rattle.zone_proto.specs.Data.{type_of}
use Rattle.zone_proto.specs.Keys.{key}
use Rattle.zone_proto.specs.Names.{Name, lower}
use Rattle.zone_proto.specs.Records.{same_record}
use Rattle.zone_proto.specs.Sets.{RRset, stores}
use Rattle.zone_proto.specs.Types.{ANY, IN}
use Rattle.zone_proto.specs.declared.record.Record.{Record}
use Rattle.zone_map.specs.Zones.{Sets, set_at, owns, types_at}
use Rattle.zone_map.specs.Upserts.{is_denial_type}
use Rattle.zone_update.specs.Entries.{◌>>=◌, class_any, class_none, if_data, if_empty, is_in_zone, record_of}
use Rattle.zone_update.specs.declared.demand.Demand.{Demand}
use Rattle.zone_update.specs.declared.demand.Demand.TheVariants.{NameInUse, NameNotInUse, SetExists, SetAbsent, SetHas}
use Rattle.zone_update.specs.declared.entry.Content.{Content}
use Rattle.zone_update.specs.declared.entry.Entry.{Entry}
use Rattle.zone_update.specs.declared.refusal.Refusal.{Refusal}
use Rattle.zone_update.specs.declared.refusal.Refusal.TheVariants.{FormErr, NXDomain, YXDomain, YXRRSet, NXRRSet, NotZone}

-- ---- what a record demands (section 2.4)

-- class ANY: the name is in use (2.4.4), or the set is there (2.4.1)
abbrev pub existence : Name → ℕ → Demand
existence n t = if t == ANY then NameInUse n else SetExists (key n t)

-- class NONE: the name isn't in use (2.4.5), or the set isn't there (2.4.3)
abbrev pub absence : Name → ℕ → Demand
absence n t = if t == ANY then NameNotInUse n else SetAbsent (key n t)

-- the zone's class: the record is one of the set (2.4.2)
abbrev pub content_demand : Name → ℕ → Content → Result Demand Refusal
content_demand n ttl content = if_data content (λ d. SetHas (record_of n ttl d))

-- by the class of a record whose name in lower case is n; any other class is FORMERR
abbrev pub demand_by_class : Name → Entry → Result Demand Refusal
demand_by_class n r =
    if r.dns_class.0 == class_any then if_empty r.content (existence n r.record_type.0)
    else (if r.dns_class.0 == class_none then if_empty r.content (absence n r.record_type.0)
    else (if r.dns_class.0 == IN then content_demand r.name r.ttl r.content
    else Err FormErr))

-- a TTL other than 0 is FORMERR, a name that isn't of the zone NOTZONE (section 3.2.5)
abbrev pub demand_of : Name → Entry → Result Demand Refusal
demand_of origin r =
    if not (r.ttl == 0) then Err FormErr
    else (if not (is_in_zone origin r.name) then Err NotZone
    else demand_by_class (lower r.name) r)

-- ---- whether the zone is so (section 3.2)

-- A name is in use where it owns a record. An empty name isn't (section 2.4.5), nor is one that owns denials alone.
abbrev pub is_in_use : Sets → Name → Bool
is_in_use m n = list_any (λ t. not (is_denial_type t)) (types_at m n)

-- a refusal, unless something holds
abbrev pub unless : Bool → Refusal → Option Refusal
unless holds e = if holds then None else Some e

-- why a demand isn't met, as far as its record says all by itself: records of a set are looked at when all are there
abbrev pub demand_fault : Sets → Demand → Option Refusal
demand_fault m (NameInUse n) = unless (is_in_use m n) NXDomain
demand_fault m (NameNotInUse n) = unless (not (is_in_use m n)) YXDomain
demand_fault m (SetExists k) = unless (owns m k.name k.record_type.0) NXRRSet
demand_fault m (SetAbsent k) = unless (not (owns m k.name k.record_type.0)) YXRRSet
demand_fault m (SetHas r) = None

abbrev pub if_faultless : Option Refusal → Demand → Result Demand Refusal
if_faultless None d = Ok d
if_faultless (Some e) d = Err e

abbrev pub checked : Sets → Demand → Result Demand Refusal
checked m d = if_faultless (demand_fault m d) d

-- what a record demands, looked at so
abbrev pub looked_at : Name → Sets → Entry → Result Demand Refusal
looked_at origin m r = demand_of origin r >>= checked m

-- the demands of all records, or the first refusal (section 3.2.5)
unfoldable pub demands_of : Name → Sets → List Entry → Result (List Demand) Refusal
demands_of origin m [] = Ok []
demands_of origin m (r ∷ rs) = looked_at origin m r >>= λ d. demands_of origin m rs >>= λ ds. Ok (d ∷ ds)

-- a demand names a record
abbrev pub names_record : Record → Demand → Bool
names_record x (SetHas r) = same_record r x
names_record x _ = false

-- a set has the record, and each of its records is named by some demand (section 2.4.2: the sets are the same, TTLs aside)
abbrev pub has_exactly : List Demand → Record → Option RRset → Bool
has_exactly ds r None = false
has_exactly ds r (Some s) = stores s.records r.rdata && list_all (λ x. list_any (names_record x) ds) s.records

abbrev pub is_met : Sets → List Demand → Demand → Bool
is_met m ds (SetHas r) = has_exactly ds r (set_at m (lower r.name) (type_of r.rdata))
is_met m ds _ = true

-- the prerequisites are met, or why they aren't
abbrev pub met : Name → Sets → List Entry → Result (List Demand) Refusal
met origin m rs = demands_of origin m rs >>= λ ds. if list_all (is_met m ds) ds then Ok ds else Err NXRRSet

-- the same without what they demand
abbrev pub are_met : Name → Sets → List Entry → Result (Unit {0}) Refusal
are_met origin m rs = met origin m rs >>= λ _. Ok tt
