-- The sets of a chain of denials
use Rattle.std.specs.Prelude.{Option, Some, None, option_copied}
use Rattle.zone_proto.specs.declared.nx_proof_kind.NxProofKind.{NxProofKind}
use Rattle.zone_proto.specs.declared.nx_proof_kind.NxProofKind.TheVariants as kind
use Rattle.zone_proto.specs.declared.rdata.denial.NSEC3PARAM.{NSEC3PARAM as Nsec3Parameters}
use Rattle.zone_map.specs.Zones.{Sets}
use Rattle.zone_denial.specs.Chains.{chain_sets}
use Rattle.zone_verify.specs.declared.chain_sets.ChainSets.{ChainSets}

-- denial by NSEC3 with these parameters, without any by NSEC
abbrev pub kind_of : Option Nsec3Parameters → Option NxProofKind
kind_of None = Some kind.Nsec
kind_of (Some p) = Some (kind.Nsec3 p.algorithm p.salt p.iterations p.opt_out)

-- the sets of the chain
abbrev pub sets_of : ChainSets → Sets
sets_of c = chain_sets (kind_of (option_copied c.parameters)) c.records.now
