use Rattle.std.proofs.Common.{◌≡◌, ◌*◌, map, string_bytes}
use Rattle.std.specs.Char.{digit_char}
use Rattle.std.specs.List.{range_with_len}
use Rattle.zone_proto.specs.Base32.{five_bits}
use Rattle.zone_proto.proofs.base32.base32_dnssec.Given as goal

abbrev pub invariant-loop-i : goal.invariant-loop-i
invariant-loop-i l = string_bytes l.text ≡ map (λ k. digit_char (five_bits l.octets (k * 5))) (range_with_len 0 l.i)
