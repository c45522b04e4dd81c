use Rattle.std.proofs.Common.{◌≡◌, drop}
use Rattle.line_text.proofs.HexFacts.{after_octets}
use Rattle.service_parameters.specs.Items.{all_octets}
use Rattle.service_parameters.specs.Values.{item_octets}
use Rattle.service_parameters.proofs.values.read_items_of.Given as goal

abbrev pub invariant-loop-item : goal.invariant-loop-item
invariant-loop-item l = after_octets l.value.items (all_octets (item_octets l.key) (drop l.item-index l.items)) ≡ all_octets (item_octets l.key) l.items
