use Rattle.std.proofs.Common.{◌≡◌, ◌+◌, length}
use Rattle.std.specs.Prelude.{option_map}
use Rattle.zone_file_writer.specs.Rows.{name_length}
use Rattle.zone_file_writer.specs.Strings.{strings_of}
use Rattle.zone_file_writer.proofs.fronts.name_length.Given as goal

abbrev pub invariant-loop-label : goal.invariant-loop-label
invariant-loop-label l = record {
  counted : option_map (λ m. l.count + m) (name_length (strings_of l.rest).0) ≡ name_length (strings_of l.fn.octets).0;
  within : l.count + length l.rest ≡ length l.fn.octets;
}

abbrev pub decreases-loop-label : goal.decreases-loop-label
decreases-loop-label l = length l.rest
