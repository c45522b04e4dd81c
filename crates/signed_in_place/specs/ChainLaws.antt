-- What is true of the chain of a signed zone that is changed in place, update after update
use Rattle.std.specs.Prelude.{◌≡◌, List, option_map, IsTrue, ℕ, Ok, true}
use Rattle.std.specs.List.{AllByRecursion}
use Rattle.zone_proto.specs.Names.{Name, lower}
use Rattle.zone_proto.specs.Sets.{RRset}
use Rattle.zone_proto.specs.Types.{SOA, NSEC, is_derived}
use Rattle.zone_lookup.specs.StartOfAuthority.{serial}
use Rattle.zone_map.specs.Zones.{Sets, IsZone, owns, set_at}
use Rattle.zone_denial.specs.Chains.{IsNsecChain}
use Rattle.zone_denial.specs.NsecSets.{nsec_set_at}
use Rattle.zone_trimming.specs.Trimming.{trimmed_at}
use Rattle.zone_planner.specs.declared.keys.PlannedKey.{PlannedKey}
use Rattle.zone_planner.specs.declared.request.Request.{Request}
use Rattle.zone_planner.specs.Plans.{denial_ttl}
use Rattle.zone_update.specs.Updates.{updated}
use Rattle.zone_update.specs.declared.entry.Entry.{Entry}
use Rattle.update_permission.specs.Permissions.{type_about}
use Rattle.update_in_place.specs.Parts.{AreChanged}
use Rattle.chain_changes.specs.Renewal.{nsec_records}
use Rattle.signed_in_place.specs.declared.beginning.PreparedChange.{PreparedChange}
use Rattle.signed_in_place.specs.InPlace.{IsRenewedChange}

-- the NSEC sets of a zone are those that it is to have, with trimmed lists and the TTL of denials (RFC 9077 section 3)
abbrev pub HasOwnChain : Name → Sets → Type 0
HasOwnChain origin m =
    (n : Name) → nsec_records m n ≡ option_map (λ (s : RRset). s.records) (trimmed_at (nsec_set_at origin m (denial_ttl m origin) (serial m origin)) n NSEC)

-- Where a zone has these, an update leaves them as they are and the TTL of denials too, the zone that is changed in place has its own; and they are a chain.
abbrev pub OwnChainStays : Type 0
OwnChainStays = (origin : Name) (keys : List PlannedKey) (request : Request) (names : List Name) (old next new before after : Sets) (prepared : PreparedChange)
    → IsZone next → IsZone new → lower origin ≡ origin → IsTrue (owns next origin SOA) → AreChanged names old next before after
    → ((n : Name) → set_at next n NSEC ≡ set_at old n NSEC) → denial_ttl old origin ≡ denial_ttl next origin → HasOwnChain origin old
    → IsRenewedChange origin keys request before after next new prepared → HasOwnChain origin new × IsNsecChain origin new

-- a record of an update has data of its type, if it has any
abbrev pub IsOfItsType : Entry → Type 0
IsOfItsType r = type_about r ≡ r.record_type.0

-- An update whose records are so changes no set of a type that is made where a zone is signed: RRSIG, NSEC, NSEC3 and NSEC3PARAM.
abbrev pub DerivedSetsStay : Type 0
DerivedSetsStay = (origin : Name) (m after : Sets) (prerequisites changes : List Entry) → AllByRecursion IsOfItsType changes → updated origin m prerequisites changes ≡ Ok after
    → (n : Name) (t : ℕ) → is_derived t ≡ true → set_at after n t ≡ set_at m n t
