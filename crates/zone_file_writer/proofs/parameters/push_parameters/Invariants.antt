use Rattle.std.proofs.Common.{◌≡◌, ◌-◌, length, [], string_bytes}
use Rattle.zone_file_writer.proofs.ParameterTexts.{printed_from}
use Rattle.zone_file_writer.proofs.parameters.push_parameters.Given as goal

abbrev pub invariant-loop : goal.invariant-loop
invariant-loop l =
    printed_from l.fn.octets (length l.fn.octets - l.counter) l.parameters (string_bytes l.text) l.rest
    ≡ printed_from l.fn.octets (length l.fn.octets) [] (string_bytes l.fn.text) l.fn.octets
