use Rattle.std.proofs.Common.{◌≡◌, ◌++◌, take}
use Rattle.zone_proto.specs.Vectors.{octets_of}
use Rattle.zone_response.proofs.dname.add_labels.Given as goal

-- the labels so far, with the first of those that are left, are all
abbrev pub invariant-loop-label : goal.invariant-loop-label
invariant-loop-label l = octets_of l.list.items ++ take l.left l.label-iterator ≡ octets_of l.fn.list.items ++ take l.fn.count l.fn.labels
