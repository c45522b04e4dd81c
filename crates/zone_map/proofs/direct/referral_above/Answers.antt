use Rattle.std.proofs.Common.{sym, ap, ◌∙◌}
use Rattle.std.specs.Prelude.{Some, None}
use Rattle.zone_map.specs.Walks.{referral_above, referral_seen}
use Rattle.zone_map.proofs.Walks.{above_own, above_passed}
use Rattle.zone_map.proofs.direct.referral_above.Goals as goal

pub returns-in-Cut : goal.returns-in-Cut
returns-in-Cut c =
    let own = sym (c.own_referral.ensures c.args.records.now c.at_name-here.ensures.ns c.at_name-here.ensures.soa) ∙ ap referral_seen c.in-Cut.is in
    sym (above_own c.args.records.now c.loop-key.key.name (Some c.in-Cut.cut.now) own) ∙ c.loop-key.invariant.left

pub returns-in-Apex : goal.returns-in-Apex
returns-in-Apex c =
    let own = sym (c.own_referral.ensures c.args.records.now c.at_name-here.ensures.ns c.at_name-here.ensures.soa) ∙ ap referral_seen c.in-Apex.is in
    sym (above_own c.args.records.now c.loop-key.key.name None own) ∙ c.loop-key.invariant.left

pub loop-key-preserved : goal.loop-key-preserved
loop-key-preserved c =
    let none = sym (c.own_referral.ensures c.args.records.now c.at_name-here.ensures.ns c.at_name-here.ensures.soa) ∙ ap referral_seen c.in-Nothing.is in
    record {
      left =
          ap (referral_above c.args.records.now) c.shorten.ensures
          ∙ sym (above_passed c.args.records.now c.loop-key.key.name none)
          ∙ c.loop-key.invariant.left;
      type_zero = c.loop-key.invariant.type_zero;
    }
