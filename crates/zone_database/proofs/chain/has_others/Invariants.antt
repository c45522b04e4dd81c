use Rattle.std.proofs.Common.{◌≡◌}
use Rattle.std.specs.Prelude.{option_copied}
use Rattle.zone_database.specs.ChainsBeside.{has_others}
use Rattle.zone_database.proofs.chain.has_others.Given as goal

-- the sets that were passed belong to the chain
abbrev pub invariant-loop-key : goal.invariant-loop-key
invariant-loop-key l = has_others (option_copied l.kind) l.key-iterator ≡ has_others (option_copied l.kind) l.records
