use Rattle.std.proofs.Common.{◌≡◌, length}
use Rattle.record_fields.specs.Rows.{behind, fields_of, next_fields, next_row}
use Rattle.record_fields.proofs.rows.take_row.Given as goal

abbrev pub invariant-loop-field : goal.invariant-loop-field
invariant-loop-field l = behind l.octets.items (next_fields l.origin (fields_of l.left) l.row.2 l.words) ≡ next_row l.fn.origin l.fn.row l.fn.words

abbrev pub decreases-loop-field : goal.decreases-loop-field
decreases-loop-field l = length (fields_of l.left)
