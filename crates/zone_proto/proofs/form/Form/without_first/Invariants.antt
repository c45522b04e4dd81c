use Rattle.std.proofs.Common.{◌≡◌, drop}
use Rattle.zone_proto.specs.Forms.{labels_of}
use Rattle.zone_proto.proofs.form.Form.without_first.Given as goal

abbrev pub invariant-loop-taken : goal.invariant-loop-taken
invariant-loop-taken l = labels_of l.form ≡ drop l._taken (labels_of l.self)
