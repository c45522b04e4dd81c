use Rattle.std.proofs.Common.{◌≡◌, drop}
use Rattle.service_parameters.specs.Items.{items_from, items_of}
use Rattle.service_parameters.proofs.ItemFacts.{behind}
use Rattle.service_parameters.proofs.items.read_items.Given as goal

abbrev pub invariant-loop-octet : goal.invariant-loop-octet
invariant-loop-octet l = behind l.items.items l.item.items (items_from (drop l.octet-index l.octets) l.is_escaped) ≡ items_of l.octets
