use Rattle.std.proofs.Common.{◌≡◌, ◌++◌}
use Rattle.std.specs.Prelude.{filter}
use Rattle.std.specs.Map.{keys_of}
use Rattle.update_denials.specs.Prepared.{is_made}
use Rattle.update_denials.proofs.unsecured.made_keys.Given as goal

-- the keys so far, and those of what is left, are all
abbrev pub invariant-loop-key : goal.invariant-loop-key
invariant-loop-key l = l.keys.items ++ filter is_made (keys_of l.key-iterator) ≡ filter is_made (keys_of l.records)
