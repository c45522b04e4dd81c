use Rattle.std.proofs.Common.{◌≡◌, drop}
use Rattle.zone_verify.proofs.delegations.is_below_dname.Given as goal

-- the name is shorter by so many labels
abbrev pub invariant-loop-step : goal.invariant-loop-step
invariant-loop-step l = l.ancestor ≡ drop l._step l.name
