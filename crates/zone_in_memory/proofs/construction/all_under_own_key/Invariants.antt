use Rattle.std.proofs.Common.{◌≡◌}
use Rattle.std.specs.List.{list_all}
use Rattle.zone_in_memory.specs.Construction.{is_own_key}
use Rattle.zone_in_memory.proofs.construction.all_under_own_key.Given as goal

-- the entries that are left say what all say
abbrev pub invariant-loop-key : goal.invariant-loop-key
invariant-loop-key l = list_all is_own_key l.key-iterator ≡ list_all is_own_key l.sets.entries
