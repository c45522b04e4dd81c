use Rattle.std.proofs.Common.{◌≡◌, ◌≤◌, ◌+◌, ◌*◌, drop}
use Rattle.std.specs.Prelude.{sum_by}
use Rattle.zone_tokens.specs.Addresses.{ipv4_width, width}
use Rattle.zone_tokens.proofs.addresses.ipv4_width.Given as goal

abbrev pub invariant-loop-number : goal.invariant-loop-number
invariant-loop-number l = record {
  counted : l.total + sum_by width (drop l.number-index l.address) ≡ ipv4_width l.address;
  small : l.total ≤ 3 + 3 * l.number-index;
}
