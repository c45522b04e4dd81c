use Rattle.std.proofs.Common.{◌∙◌, eqb-true, sym}
use Rattle.zone_proto.specs.Types.{IN}
use Rattle.ready_referrals.proofs.KeptReferrals.{is_referred, not_false}
use Rattle.ready_referrals.proofs.referring.put_referral.Goals as goal

pub returns-in-Ok : goal.returns-in-Ok
returns-in-Ok c = λ t z are.
    let q = c.args.query.now in
    let h = c.in-Some.ensures.kept z are in
    is_referred z c.args.limit q c.args.name.now c.write_referral.new.out.items c.in-Some.referral.now h c.in-Some.ensures.above c.requires.name
    (eqb-true q.question.query_class.0 IN (not_false _ (sym c.ne.ensures ∙ c.if-ne.false))) (sym c.is_no_data.ensures ∙ c.if-is_no_data.false)
    (sym c.eq.ensures ∙ c.if-eq.false) (c.in-Ok.ensures t z h.0 h.1 h.2)
