use Rattle.std.proofs.Common.{◌≡◌, drop}
use Rattle.zone_map.specs.Puts.{without_all}
use Rattle.update_in_place.proofs.exchange.remove_all.Given as goal

-- without those whose keys are left the sets are those without all
abbrev pub invariant-loop-key : goal.invariant-loop-key
invariant-loop-key l = without_all l.zone (drop l.key-index l.keys) ≡ without_all l.fn.zone l.keys
