-- What is true of the chain of NSEC sets of a signed zone that is changed in place, whoever signed it
use Rattle.std.specs.Prelude.{◌≡◌, ℕ, List, IsTrue}
use Rattle.std.specs.Option.{option_or}
use Rattle.zone_proto.specs.declared.record.Record.{Record}
use Rattle.zone_proto.specs.Names.{Name, lower}
use Rattle.zone_proto.specs.Types.{SOA, NSEC}
use Rattle.zone_map.specs.Renewals.{with_signatures}
use Rattle.zone_map.specs.Zones.{Sets, IsZone, owns, set_at}
use Rattle.zone_planner.specs.declared.keys.PlannedKey.{PlannedKey}
use Rattle.zone_planner.specs.declared.request.Request.{Request}
use Rattle.update_in_place.specs.Parts.{AreChanged}
use Rattle.chain_changes.specs.SignedChains.{IsSignedNsecChain}
use Rattle.signed_in_place.specs.declared.beginning.PreparedChange.{PreparedChange}
use Rattle.signed_in_place.specs.ChainLaws.{HasOwnChain}
use Rattle.signed_in_place.specs.InPlace.{IsRenewedChange}

-- A zone whose NSEC sets are those that it is to have has such a chain.
abbrev pub OwnChainIsSigned : Type 0
OwnChainIsSigned = (origin : Name) (m : Sets) → IsZone m → lower origin ≡ origin → IsTrue (owns m origin SOA) → HasOwnChain origin m → IsSignedNsecChain origin m

-- Where a zone has such a chain and an update leaves its NSEC sets as they are, the zone that is changed in place has one too, whatever TTL and serial the sets get that are made anew.
abbrev pub BegunChainStays : Type 0
BegunChainStays = (origin : Name) (keys : List PlannedKey) (request : Request) (names : List Name) (old next new before after : Sets) (prepared : PreparedChange)
    → IsZone next → IsZone new → lower origin ≡ origin → IsTrue (owns next origin SOA) → AreChanged names old next before after
    → ((n : Name) → set_at next n NSEC ≡ set_at old n NSEC) → IsSignedNsecChain origin old
    → IsRenewedChange origin keys request before after next new prepared → IsSignedNsecChain origin new

-- The sets of a prepared change, with signatures in their places, stand in place of those under their keys.
abbrev pub HasPrepared : PreparedChange → List (List Record) → Sets → Sets → Type 0
HasPrepared prepared made new finished =
    (n : Name) (t : ℕ) → set_at finished n t ≡ option_or (set_at (with_signatures prepared.plan.records made) n t) (set_at new n t)

-- And it has one once it has the signatures of the change, whichever they are.
abbrev pub FinishedChainStays : Type 0
FinishedChainStays = (origin : Name) (keys : List PlannedKey) (request : Request) (before after changed new finished : Sets) (prepared : PreparedChange) (made : List (List Record))
    → IsZone finished → lower origin ≡ origin → IsTrue (owns new origin SOA) → IsRenewedChange origin keys request before after changed new prepared
    → HasPrepared prepared made new finished → IsSignedNsecChain origin new → IsSignedNsecChain origin finished
