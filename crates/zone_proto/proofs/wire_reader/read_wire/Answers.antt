use Rattle.std.proofs.Common.{inr}
use Rattle.std.proofs.lemmas.Result.{err_from_is_err_and}
use Rattle.zone_proto.proofs.wire_reader.read_wire.Goals as goal

pub returns-in_err-labels-clause-refusal : goal.returns-in_err-labels-clause-refusal
returns-in_err-labels-clause-refusal c =
    let p = err_from_is_err_and c.from_residual.result c.from_residual.ensures.1 in rw (p.1, p.2) (inr (c.in_err-labels.ensures.refusal))
