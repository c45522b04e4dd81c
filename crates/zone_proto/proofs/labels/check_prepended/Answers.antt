use Rattle.std.proofs.Common.{arith}
use Rattle.zone_proto.proofs.Names.LabelFaults.{no_fault, name_long_fault}
use Rattle.zone_proto.proofs.labels.check_prepended.Goals as goal

pub returns-then-label-wire_length-gt-LONGEST_NAME-clause-fault : goal.returns-then-label-wire_length-gt-LONGEST_NAME-clause-fault
returns-then-label-wire_length-gt-LONGEST_NAME-clause-fault c =
    let label = c.in_ok-check_label.ensures.valid in
    name_long_fault c.args.label.now c.args.labels label.some label.short c.requires.labels (omega arith)

pub returns-clause-fault : goal.returns-clause-fault
returns-clause-fault c =
    let label = c.in_ok-check_label.ensures.valid in
    no_fault c.args.label.now c.args.labels label.some label.short c.requires.labels (omega arith)
