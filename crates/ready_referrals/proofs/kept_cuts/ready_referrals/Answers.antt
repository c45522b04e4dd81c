use Rattle.zone_response.specs.Queries.{zone_of}
use Rattle.ready_referrals.proofs.KeptSets.{some_is}
use Rattle.ready_referrals.proofs.kept_cuts.ready_referrals.Goals as goal

pub loop-key-init : goal.loop-key-init
loop-key-init g c = c.new-kept.ensures (zone_of g.S.Signer.signature_of g.H.Nsec3Hash.digest_of c.args.zone.now)

pub loop-key-preserved-in_ok-keep : goal.loop-key-preserved-in_ok-keep
loop-key-preserved-in_ok-keep g c =
    c.in_ok-keep.ensures (zone_of g.S.Signer.signature_of g.H.Nsec3Hash.digest_of c.args.zone.now) (some_is _ _ _ c.in-Some-2.is c.in_ok-referral.ensures) c.loop-key.invariant
