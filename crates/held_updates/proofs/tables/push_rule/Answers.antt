use Rattle.std.proofs.Common.{sym}
use Rattle.held_updates.specs.Tables.{AreSameRules}
use Rattle.held_updates.proofs.Rules.{pushed, unpushed, where_failed}
use Rattle.held_updates.proofs.tables.push_rule.Goals as goal

pub returns-in_err-push-in-Some-clause-same : goal.returns-in_err-push-in-Some-clause-same
returns-in_err-push-in-Some-clause-same c =
    where_failed c.from_residual.result (AreSameRules c.args.tables.now.entries (c.get_mut.follows.lender c.push.new.self).entries)
    (unpushed c.args.origin.now c.args.rule c.args.tables.now.entries (c.get_mut.follows.lender c.push.new.self).entries c.in-Some.rules.now c.push.new.self (sym c.in-Some.ensures.value)
    (c.get_mut.follows.holds c.push.new.self).0 c.in_err-push-in-Some.ensures.items)

pub returns-in_ok-push-in-Some-clause-added : goal.returns-in_ok-push-in-Some-clause-added
returns-in_ok-push-in-Some-clause-added c =
    pushed c.args.origin.now c.args.rule c.args.tables.now.entries (c.get_mut.follows.lender c.push.new.self).entries c.in-Some.rules.now c.push.new.self (sym c.in-Some.ensures.value)
    (c.get_mut.follows.holds c.push.new.self).0 c.in_ok-push-in-Some.ensures.items
