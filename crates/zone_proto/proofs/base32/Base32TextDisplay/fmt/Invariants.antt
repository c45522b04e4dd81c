use Rattle.std.proofs.Common.{◌*◌, map}
use Rattle.std.specs.Fmt.{HasWritten, IsPlainFormatter}
use Rattle.std.specs.Char.{digit_char}
use Rattle.std.specs.List.{range_with_len}
use Rattle.zone_proto.specs.Base32.{five_bits}
use Rattle.zone_proto.proofs.base32.Base32TextDisplay.fmt.Given as goal

abbrev pub invariant-loop-i : goal.invariant-loop-i
invariant-loop-i g l =
    IsPlainFormatter l.initial.f
    → HasWritten g.W.Write.write_str_gives l.initial.f (map (λ k. digit_char (five_bits l.self.0.now (k * 5))) (range_with_len 0 l.i)) l.f
