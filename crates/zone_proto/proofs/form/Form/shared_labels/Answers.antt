use Rattle.std.proofs.Common.{◌≡◌, ◌∙◌}
use Rattle.zone_proto.specs.Forms.{labels_of}
use Rattle.zone_proto.specs.Packing.{order_octets, shared_ends}
use Rattle.zone_proto.proofs.Names.SharedEnds.{shares}
use Rattle.zone_proto.proofs.form.Form.shared_labels.Goals as goal

pub returns-in-Some-Some : goal.returns-in-Some-Some
returns-in-Some-Some c =
    let own : c.in-Some-Some.own.now ≡ order_octets (labels_of c.args.self.now) = c.in-Some-Some.ensures in
    let theirs : c.in-Some-Some.theirs.now ≡ order_octets (labels_of c.args.other.now) = c.in-Some-Some.ensures' in
    shares (labels_of c.args.self.now) (labels_of c.args.other.now) c.count_shared_ends.result
    (c.count_shared_ends.ensures ∙ λ i. shared_ends (own i) (theirs i))
