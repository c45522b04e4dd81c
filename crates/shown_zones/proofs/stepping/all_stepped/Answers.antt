use Rattle.std.proofs.Common.{subst}
use Rattle.zone_difference.specs.Differences.{Gives}
use Rattle.shown_zones.proofs.Agreed.{replayed_is}
use Rattle.shown_zones.proofs.stepping.all_stepped.Goals as goal

pub returns : goal.returns
returns c =
    subst (Gives c.replayed.result) (replayed_is c.args.steps.items c.in_ok-differences.differences.items c.args.zone.now c.in_ok-differences.ensures) c.replayed.ensures
