use Rattle.zone_response.specs.Queries.{zone_of}
use Rattle.ready_referrals.specs.Referrals.{AreReferrals}
use Rattle.ready_referrals.proofs.kept_cuts.ready_referrals.Given as goal

-- all that is kept so far
abbrev pub invariant-loop-key : goal.invariant-loop-key
invariant-loop-key g l = AreReferrals (zone_of g.S.Signer.signature_of g.H.Nsec3Hash.digest_of l.zone) l.kept
