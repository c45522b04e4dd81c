use Rattle.std.proofs.Common.{◌≡◌, sym, ap, ◌∙◌}
use Rattle.zone_proto.specs.Forms.{labels_of}
use Rattle.zone_proto.specs.Packing.{order_octets}
use Rattle.zone_proto.proofs.Names.Escapes.{order_exact}
use Rattle.std.proofs.lemmas.Slice.Eq.{bytes_eq-Decides}
use Rattle.zone_proto.proofs.form.Form.is_same.Goals as goal

pub returns-in-Some-Some : goal.returns-in-Some-Some
returns-in-Some-Some c =
    let own : c.in-Some-Some.own.now ≡ order_octets (labels_of c.args.self.now) = c.in-Some-Some.ensures in
    let theirs : c.in-Some-Some.theirs.now ≡ order_octets (labels_of c.args.other.now) = c.in-Some-Some.ensures' in (
      λ t. order_exact (labels_of c.args.self.now) (labels_of c.args.other.now) (sym own ∙ (bytes_eq-Decides c.in-Some-Some.own.now c.in-Some-Some.theirs.now).0 (sym c.eq.ensures ∙ t) ∙ theirs),
      λ e. c.eq.ensures ∙ (bytes_eq-Decides c.in-Some-Some.own.now c.in-Some-Some.theirs.now).1 (own ∙ ap order_octets e ∙ sym theirs),
    )
