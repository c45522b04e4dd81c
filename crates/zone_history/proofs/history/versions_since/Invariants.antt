use Rattle.std.proofs.Common.{◌≡◌, length}
use Rattle.std.specs.Prelude.{option_map}
use Rattle.std.specs.Option.{option_or}
use Rattle.zone_history.specs.Histories.{since}
use Rattle.zone_history.proofs.history.versions_since.Given as goal

-- what is found from here on, or else what is found so far, is what is found of all
abbrev pub invariant-loop-version : goal.invariant-loop-version
invariant-loop-version l = option_or (since l.serial l.rest) (option_map (λ x. x.now) l.found) ≡ since l.serial l.versions

abbrev pub decreases-loop-version : goal.decreases-loop-version
decreases-loop-version l = length l.rest
