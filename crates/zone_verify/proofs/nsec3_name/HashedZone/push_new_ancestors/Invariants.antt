use Rattle.zone_denial.specs.Nsec3Zones.{hash_with}
use Rattle.zone_verify.specs.ChainSets.{sets_of}
use Rattle.zone_verify.proofs.Nsec3Chosen.{AreUpper}
use Rattle.zone_verify.proofs.nsec3_name.HashedZone.push_new_ancestors.Given as goal

-- the ancestors with at most so many labels are there
abbrev pub invariant-loop-upper : goal.invariant-loop-upper
invariant-loop-upper g l =
    AreUpper l.self.origin.now l.self.sets.records.now (sets_of l.self.sets) (hash_with (g.H.Nsec3Hash.digest_of l.self.hash.now) l.self.parameters.now) l.self.parameters.now.opt_out l.name
    l.initial.names.items l.names.items l.upper
