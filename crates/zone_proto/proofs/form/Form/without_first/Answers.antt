use Rattle.std.proofs.Common.{drop, ap, ◌∙◌}
use Rattle.std.proofs.lemmas.List.{drop-drop}
use Rattle.zone_proto.specs.Forms.{labels_of}
use Rattle.zone_proto.proofs.form.Form.without_first.Goals as goal

pub loop-taken-preserved : goal.loop-taken-preserved
loop-taken-preserved c =
    c.shorten.ensures ∙ ap (drop 1) c.loop-taken.invariant ∙ drop-drop 1 c.loop-taken._taken (labels_of c.args.self.now)
