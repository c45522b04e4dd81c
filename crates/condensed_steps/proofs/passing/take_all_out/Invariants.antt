use Rattle.std.proofs.Common.{◌≡◌, drop, map}
use Rattle.zone_map.specs.Puts.{without_all}
use Rattle.condensed_steps.specs.Condensing.{key_of}
use Rattle.condensed_steps.proofs.passing.take_all_out.Given as goal

-- without those under the keys of what is left they are those without all
abbrev pub invariant-loop-other : goal.invariant-loop-other
invariant-loop-other l = without_all l.sets (map key_of (drop l.other-index l.others)) ≡ without_all l.fn.sets (map key_of l.others)
