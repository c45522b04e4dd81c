use Rattle.std.proofs.Common.{◌≡◌, length}
use Rattle.std.specs.Option.{option_or}
use Rattle.denial_validation.specs.Nsec3Proofs.{wildcard_answer}
use Rattle.denial_validation.specs.Nsec3Responses.{hash_of}
use Rattle.denial_validation.proofs.nsec3_response.Nsec3Response.wildcard_answer_above.Given as goal

-- the encloser is that of a shorter name, or else the last one found
abbrev pub invariant-loop-rest : goal.invariant-loop-rest
invariant-loop-rest g l =
    option_or (wildcard_answer l.self.apex (hash_of g.H.Nsec3Hash.digest_of l.self) l.self.records l.rest) l.answer
    ≡ option_or (wildcard_answer l.self.apex (hash_of g.H.Nsec3Hash.digest_of l.self) l.self.records l.fn.ancestor) l.fn.below

abbrev pub decreases-loop-rest : goal.decreases-loop-rest
decreases-loop-rest g l = length l.rest
