use Rattle.std.proofs.Common.{◌≡◌, length, string_bytes}
use Rattle.zone_file_writer.specs.Prefixes.{prefixes_within}
use Rattle.zone_file_writer.specs.Rows.{ended}
use Rattle.zone_file_writer.proofs.prefixes.push_prefixes.Given as goal

abbrev pub invariant-loop-rest : goal.invariant-loop-rest
invariant-loop-rest l =
    ended (string_bytes l.text) (prefixes_within (length l.rest) l.rest) ≡ ended (string_bytes l.fn.text) (prefixes_within (length l.fn.octets) l.fn.octets)

abbrev pub decreases-loop-rest : goal.decreases-loop-rest
decreases-loop-rest l = length l.rest
