use Rattle.std.proofs.Common.{◌≡◌, length}
use Rattle.denial_validation.specs.Nsec3Proofs.{is_handed_on}
use Rattle.denial_validation.specs.Nsec3Responses.{hash_of}
use Rattle.denial_validation.proofs.nsec3_response.Nsec3Response.is_handed_on.Given as goal

-- what hands the name on is above the name that the walk is at
abbrev pub invariant-loop-rest : goal.invariant-loop-rest
invariant-loop-rest g l =
    is_handed_on l.self.apex (hash_of g.H.Nsec3Hash.digest_of l.self) l.self.records l.rest
    ≡ is_handed_on l.self.apex (hash_of g.H.Nsec3Hash.digest_of l.self) l.self.records l.self.name

abbrev pub decreases-loop-rest : goal.decreases-loop-rest
decreases-loop-rest g l = length l.rest
