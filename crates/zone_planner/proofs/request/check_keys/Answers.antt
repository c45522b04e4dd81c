use Rattle.std.proofs.Common.{arith, sym, ◌∙◌}
use Rattle.zone_planner.proofs.Fitting.{fit_keys}
use Rattle.zone_planner.proofs.request.check_keys.Goals as goal

pub returns-in-None-clause-fit : goal.returns-in-None-clause-fit
returns-in-None-clause-fit c = fit_keys c.args.keys.now (omega arith) (sym c.first_bad.ensures ∙ c.in_default.is)
