use Rattle.std.proofs.Common.{◌≡◌, arith, vec_len}
use Rattle.zonectl_commands.proofs.lines.Lines.new.Goals as goal

pub invariant_of-result : goal.invariant_of-result
invariant_of-result c =
    let chunk : vec_len c.in_ok-chunk.chunk ≡ 16384 = c.in_ok-chunk.ensures.len in
    record {
      some = omega arith;
      within = omega arith;
      behind = omega arith;
      short = omega (arith, c.in_ok-line.ensures.len);
      room = c.in_ok-line.ensures.capacity;
      begun = λ begun. absurd (cc);
    }
