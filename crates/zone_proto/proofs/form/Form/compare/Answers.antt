use Rattle.std.proofs.Common.{◌≡◌, ◌∙◌}
use Rattle.std.specs.Cmp.Lexicographic.{slice_cmp}
use Rattle.std.specs.Ordering.{nat_cmp}
use Rattle.zone_proto.specs.Forms.{labels_of}
use Rattle.zone_proto.specs.Packing.{order_octets}
use Rattle.zone_proto.proofs.Names.Escapes.{order_cmp}
use Rattle.zone_proto.proofs.form.Form.compare.Goals as goal

pub returns-in-Some-Some : goal.returns-in-Some-Some
returns-in-Some-Some c =
    let own : c.in-Some-Some.own.now ≡ order_octets (labels_of c.args.self.now) = c.in-Some-Some.ensures in
    let theirs : c.in-Some-Some.theirs.now ≡ order_octets (labels_of c.args.other.now) = c.in-Some-Some.ensures' in
    c.compare_octets.ensures ∙ (λ i. slice_cmp nat_cmp (own i) (theirs i))
    ∙ order_cmp (labels_of c.args.self.now) (labels_of c.args.other.now)
