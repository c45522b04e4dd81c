use Rattle.std.proofs.Common.{string_bytes}
use Rattle.zonectl_commands.proofs.ServedLines.{HasServed}
use Rattle.zonectl_commands.proofs.serving.serve_lines.Given as goal

abbrev pub invariant-loop-i : goal.invariant-loop-i
invariant-loop-i g l =
    HasServed g.S.Session.carries l.initial.session (g.R.Read.remaining l.initial.input) (g.W.Write.contents l.initial.output)
    l.session l.i l.good l.lines (g.R.Read.remaining l.input) (g.W.Write.contents l.output) (string_bytes l.answers)
