use Rattle.zone_proto.specs.Vectors.{octets_of}
use Rattle.zone_proto.proofs.Texts.TextFaults.{labels_refused}
use Rattle.zone_proto.proofs.name.Name.read.Goals as goal

pub returns-clause-refusal : goal.returns-clause-refusal
returns-clause-refusal c =
    labels_refused c.args.text.now (octets_of c.in_ok-read_labels.field-0.items) c.from_labels.result c.in_ok-read_labels.ensures.ok c.from_labels.ensures.refusal
