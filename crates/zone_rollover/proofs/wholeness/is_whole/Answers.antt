use Rattle.std.proofs.Common.{sym, ◌∙◌}
use Rattle.zone_rollover.proofs.WholeTests.{whole_said, whole_told}
use Rattle.zone_rollover.proofs.wholeness.is_whole.Goals as goal

pub returns : goal.returns
returns c =
    let keys = c.args.keys.now in
    (λ h. whole_said keys (sym c.is_chained.ensures ∙ h), λ w. c.is_chained.ensures ∙ whole_told keys w)
