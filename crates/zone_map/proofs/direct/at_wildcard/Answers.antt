use Rattle.std.proofs.Common.{sym, ap, ◌∙◌}
use Rattle.std.specs.Prelude.{Some, None, option_copied}
use Rattle.zone_map.specs.Walks.{referral_seen}
use Rattle.zone_map.proofs.Walks.{direct_above, direct_own}
use Rattle.zone_map.proofs.direct.at_wildcard.Goals as goal
use Rattle.zone_map.proofs.direct.at_wildcard.Goals.{in-Cut, in-Apex, in-Nothing}

pub returns-clause-set : goal.returns-clause-set
returns-clause-set c =
    let m = c.args.records.now in
    let n = c.args.least.now.name in
    let t = c.args.record_type.0 in
    let own = sym (c.own_referral.ensures m c.at_name-here.ensures.ns c.at_name-here.ensures.soa) in
    let exact = c.at_name-here.ensures.exact in
    elim c.match-own_referral.branch [
      | in-Cut w ↦ ap option_copied w.set-is ∙ sym (direct_own m n t (Some w.in-Cut.cut.now) (own ∙ ap referral_seen w.in-Cut.is))
      | in-Apex w ↦ ap option_copied w.set-is ∙ exact ∙ sym (direct_own m n t None (own ∙ ap referral_seen w.in-Apex.is))
      | in-Nothing w ↦ ap option_copied w.set-is ∙ exact ∙ sym (direct_above m n t None (own ∙ ap referral_seen w.in-Nothing.is) c.requires.unreferred)
    ]
