use Rattle.std.proofs.Common.{◌++◌, ℕ, List, string_bytes}
use Rattle.std.specs.Io.KnownBytes.{Consumes}
use Rattle.zonectl_commands.specs.InHand.{IsUntaken}
use Rattle.zonectl_commands.specs.Serving.{Moves}
use Rattle.zonectl_commands.proofs.serving.next_line.Given as goal

abbrev pub invariant-loop : goal.invariant-loop
invariant-loop g l = record {
  read : (octets : List ℕ) → IsUntaken l.initial.lines octets
      → ((read : List ℕ) × Consumes (g.R.Read.remaining l.initial.input) (g.R.Read.remaining l.input) read × IsUntaken l.lines (octets ++ read));
  moved : Moves (string_bytes l.initial.answers) (g.W.Write.contents l.initial.output) (g.W.Write.contents l.output) (string_bytes l.answers);
}
