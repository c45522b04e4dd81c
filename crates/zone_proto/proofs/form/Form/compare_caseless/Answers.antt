use Rattle.std.proofs.Common.{◌≡◌, ◌∙◌, map}
use Rattle.std.specs.Char.{to_ascii_lowercase}
use Rattle.std.specs.Cmp.Lexicographic.{slice_cmp}
use Rattle.std.specs.Ordering.{nat_cmp}
use Rattle.zone_proto.specs.Forms.{labels_of}
use Rattle.zone_proto.specs.Packing.{order_octets}
use Rattle.zone_proto.proofs.Names.Escapes.{order_caseless}
use Rattle.zone_proto.proofs.form.Form.compare_caseless.Goals as goal

pub returns-in-Some-Some : goal.returns-in-Some-Some
returns-in-Some-Some c =
    let own : c.in-Some-Some.own.now ≡ order_octets (labels_of c.args.self.now) = c.in-Some-Some.ensures in
    let theirs : c.in-Some-Some.theirs.now ≡ order_octets (labels_of c.args.other.now) = c.in-Some-Some.ensures' in
    c.compare_label.ensures
    ∙ (λ i. slice_cmp nat_cmp (map to_ascii_lowercase (own i)) (map to_ascii_lowercase (theirs i)))
    ∙ order_caseless (labels_of c.args.self.now) (labels_of c.args.other.now)
