-- What an answer of `Lines` tells of a line
use Rattle.std.specs.Prelude.{ℕ, List, Option, Some, None}
use Rattle.zonectl_commands.specs.declared.lines.Line.{Line as LineKind}
use Rattle.zonectl_commands.specs.declared.lines.Line.TheVariants as line

-- the line that an answer tells of: the octets in hand, or a bad line
abbrev pub answered_line : LineKind → List ℕ → Option (List ℕ)
answered_line line.Whole octets = Some octets
answered_line line.Bad octets = None
