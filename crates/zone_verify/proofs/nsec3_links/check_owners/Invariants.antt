use Rattle.std.proofs.Common.{◌⊎◌}
use Rattle.std.specs.Prelude.{option_copied}
use Rattle.zone_proto.specs.declared.rr_key.RrKey.{RrKey}
use Rattle.zone_proto.specs.Sets.{RRset}
use Rattle.zone_proto.proofs.Members.{In}
use Rattle.zone_verify.proofs.Nsec3Links.{IsOwned}
use Rattle.zone_verify.specs.ChainSets.{kind_of}
use Rattle.zone_verify.proofs.nsec3_links.check_owners.Given as goal

-- each entry of NSEC3 of the chain that isn't left has one of the owners
abbrev pub invariant-loop-key : goal.invariant-loop-key
invariant-loop-key l = (e : RrKey × RRset) → In e l.sets.records.now → In e l.key-iterator ⊎ IsOwned (kind_of (option_copied l.sets.parameters)) l.names e
