use Rattle.std.proofs.Common.{◌≡◌, ◌≤◌, ◌+◌, ◌-◌, ◌*◌, ◌++◌}
use Rattle.message_writing.specs.TypeMapText.{numbers, octets_taken, window_text}
use Rattle.message_writing.proofs.type_map.push_window.Given as goal

abbrev pub invariant-loop : goal.invariant-loop
invariant-loop l = record {
  written : l.out.items ++ (octets_taken (l.count - l.counter) l.number (numbers l.left)).0 ≡ l.fn.out.items ++ window_text l.lowest l.highest (numbers l.types);
  placed : l.number ≡ l.window * 256 + 8 * l.counter;
  within : l.window * 256 + 8 * l.count ≤ 65536;
}
