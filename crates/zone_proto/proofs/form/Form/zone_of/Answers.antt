use Rattle.std.proofs.Common.{◌≡◌, ◌∙◌, ◌++◌, map, ap, sym}
use Rattle.std.specs.Char.{to_ascii_lowercase}
use Rattle.zone_proto.specs.Names.{lower}
use Rattle.zone_proto.specs.Forms.{labels_of}
use Rattle.zone_proto.specs.Packing.{order_octets}
use Rattle.zone_proto.proofs.Names.Escapes.{order_above, order_front, order_lower}
use Rattle.zone_proto.proofs.form.Form.zone_of.Goals as goal

pub returns-in-Some-Some : goal.returns-in-Some-Some
returns-in-Some-Some c =
    let n = labels_of c.args.self.now in
    let m = labels_of c.args.other.now in
    let own : map to_ascii_lowercase c.in-Some-Some.own.now ≡ order_octets (lower n) =
    ap (map to_ascii_lowercase) c.in-Some-Some.ensures ∙ order_lower n in
    let theirs : map to_ascii_lowercase c.in-Some-Some.theirs.now ≡ order_octets (lower m) =
    ap (map to_ascii_lowercase) c.in-Some-Some.ensures' ∙ order_lower m in (
      λ t. let w = c.is_front_caseless.ensures.0 t in
          order_above (lower n) (lower m) w.0 (sym theirs ∙ w.1 ∙ ap (λ z. z ++ w.0) own),
      λ w. let up = order_front (lower n) (lower m) w in
          c.is_front_caseless.ensures.1 (up.0, theirs ∙ up.1 ∙ ap (λ z. z ++ up.0) (sym own)),
    )
