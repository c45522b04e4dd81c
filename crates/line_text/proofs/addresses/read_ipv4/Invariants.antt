use Rattle.std.proofs.Common.{◌≡◌, ◌+◌, length, take}
use Rattle.line_text.specs.Parts.{parts, parts_left}
use Rattle.line_text.specs.Addresses.{octet_of_text}
use Rattle.line_text.proofs.PartFacts.{PartsRead}
use Rattle.line_text.proofs.addresses.read_ipv4.Given as goal

abbrev pub invariant-loop-i : goal.invariant-loop-i
invariant-loop-i l = record {
  room : length l.address ≡ 4;
  count : l.i + length (parts_left 46 l.rest) ≡ length (parts 46 l.word);
  reads : PartsRead octet_of_text (parts 46 l.word) (parts_left 46 l.rest) (take l.i l.address);
}
