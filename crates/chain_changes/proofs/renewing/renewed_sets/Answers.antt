use Rattle.std.proofs.Common.{sym, ◌∙◌}
use Rattle.chain_changes.proofs.OthersStay.{others_stay}
use Rattle.chain_changes.proofs.renewing.renewed_sets.Goals as goal

pub returns-clause-others : goal.returns-clause-others
returns-clause-others c = λ old told held n t off.
    let off_all = sym (c.in_ok-names.ensures.ok n) ∙ off in
    others_stay c.args.origin.now old c.args.zone.now c.args.keys.now told held n off_all c.args.ttl c.args.serial t
