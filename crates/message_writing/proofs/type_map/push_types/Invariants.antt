use Rattle.std.proofs.Common.{◌≡◌, ◌-◌, ◌++◌}
use Rattle.message_writing.specs.TypeMapText.{map_text, numbers}
use Rattle.message_writing.proofs.type_map.push_types.Given as goal

abbrev pub invariant-loop : goal.invariant-loop
invariant-loop l = l.out.items ++ map_text (256 - l.counter) (numbers l.left) ≡ l.fn.out.items ++ map_text 256 (numbers l.types)
