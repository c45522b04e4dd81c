use Rattle.std.proofs.Common.{◌≡◌, ◌++◌}
use Rattle.zone_proto.specs.Vectors.{octets_of}
use Rattle.zone_tokens.proofs.names.push_labels.Given as goal

abbrev pub invariant-loop-label : goal.invariant-loop-label
invariant-loop-label l = octets_of l.out.items ++ l.label-iterator ≡ octets_of l.fn.out.items ++ l.fn.labels
