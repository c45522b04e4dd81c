-- The sets in which a zone's denials are looked up, where it has NSEC or NSEC3 sets of several chains, or those that are left of an old one
use Rattle.std.specs.Prelude.{Bool, not, cond, Option, Some, None}
use Rattle.std.specs.List.{list_any}
use Rattle.zone_proto.specs.declared.nx_proof_kind.NxProofKind.{NxProofKind}
use Rattle.zone_map.specs.Zones.{Sets}
use Rattle.zone_denial.specs.Chains.{stays, chain_sets}

-- a set of denial is in the zone that doesn't belong to its chain
abbrev pub has_others : Option NxProofKind → Sets → Bool
has_others kind m = list_any (λ e. not (stays kind e.0.record_type.0 e.1)) m

-- the sets without these, if there are any (RFC 5155 section 7.3)
abbrev pub chain_beside : Option NxProofKind → Sets → Option Sets
chain_beside kind m = cond (has_others kind m) (Some (chain_sets kind m)) None
