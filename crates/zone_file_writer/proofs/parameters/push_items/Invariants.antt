use Rattle.std.proofs.Common.{◌≡◌, ◌<◌, ◌-◌, ◌++◌, length, string_bytes}
use Rattle.zone_file_writer.specs.Parameters.{items_text}
use Rattle.zone_file_writer.proofs.parameters.push_items.Given as goal

abbrev pub invariant-loop : goal.invariant-loop
invariant-loop l = record {
  written : string_bytes l.text ++ items_text (length l.fn.value - l.counter) l.key l.sign l.rest ≡ string_bytes l.fn.text ++ items_text (length l.fn.value) l.key 61 l.fn.value;
  ascii : l.sign < 128;
}
