use Rattle.std.proofs.Common.{◌≡◌, length, string_bytes}
use Rattle.std.specs.Prelude.{option_map}
use Rattle.record_fields.specs.Rows.{fields_of}
use Rattle.zone_file_writer.specs.Rows.{behind_spaces, ended, fields_words, row_words}
use Rattle.zone_file_writer.proofs.rows.row_text.Given as goal

abbrev pub invariant-loop-field : goal.invariant-loop-field
invariant-loop-field l =
    ended (string_bytes l.text) (fields_words (fields_of l.left) l.row.2 l.rest) ≡ option_map behind_spaces (row_words l.fn.row l.fn.octets)

abbrev pub decreases-loop-field : goal.decreases-loop-field
decreases-loop-field l = length (fields_of l.left)
