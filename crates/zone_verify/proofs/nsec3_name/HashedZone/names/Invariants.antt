use Rattle.std.proofs.Common.{◌⊎◌, drop, map}
use Rattle.zone_proto.specs.declared.rr_key.RrKey.{RrKey}
use Rattle.zone_proto.proofs.Members.{In}
use Rattle.zone_denial.specs.Nsec3Zones.{hash_with}
use Rattle.zone_verify.specs.ChainSets.{sets_of}
use Rattle.zone_verify.specs.Nsec3Names.{AreChainNames, IsDeniedIn, IsNsec3Key}
use Rattle.zone_verify.proofs.nsec3_name.HashedZone.names.Given as goal

-- the names of the keys that aren't left are among the names, or left out
abbrev pub invariant-loop-key : goal.invariant-loop-key
invariant-loop-key g l =
    let m = sets_of l.self.sets in
    let hash = hash_with (g.H.Nsec3Hash.digest_of l.self.hash.now) l.self.parameters.now in
    record {
      are : AreChainNames l.self.origin.now l.self.sets.records.now m hash l.self.parameters.now.opt_out (map (λ k. k.now) l.keys) l.names.items;
      denied : IsDeniedIn l.self.origin.now m hash l.self.parameters.now.opt_out l.names.items l.denied;
      passed : (k : RrKey) → In k (map (λ k. k.now) l.keys) → In k (map (λ k. k.now) (drop l.key-index l.keys)) ⊎ IsNsec3Key l.self.origin.now m hash l.self.parameters.now.opt_out l.names.items k;
    }
