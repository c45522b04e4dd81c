use Rattle.std.proofs.Common.{◌≡◌, ◌+◌, ◌*◌, length, take}
use Rattle.line_text.specs.Parts.{parts, parts_left}
use Rattle.line_text.specs.Addresses.{octets_of_group}
use Rattle.line_text.proofs.PartFacts.{PartsRead}
use Rattle.line_text.proofs.addresses.read_ipv6.Given as goal

abbrev pub invariant-loop-i : goal.invariant-loop-i
invariant-loop-i l = record {
  room : length l.address ≡ 16;
  count : l.i + length (parts_left 58 l.rest) ≡ length (parts 58 l.word);
  reads : PartsRead octets_of_group (parts 58 l.word) (parts_left 58 l.rest) (take (2 * l.i) l.address);
}
