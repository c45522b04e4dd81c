use Rattle.zone_proto.proofs.Names.NameTree.{is_at_or_above_complete}
use Rattle.ready_referrals.proofs.kept_cuts.ReadyReferrals.at.Goals as goal

pub returns-then-zone_of-clause-above : goal.returns-then-zone_of-clause-above
returns-then-zone_of-clause-above c =
    is_at_or_above_complete c.in_ok-referral.referral.now.cut c.args.name.now (c.zone_of.ensures.0 c.if-zone_of.true)
