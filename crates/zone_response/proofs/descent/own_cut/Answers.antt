use Rattle.std.proofs.Common.{cond, ap, ◌∙◌}
use Rattle.std.specs.Prelude.{Option, None}
use Rattle.zone_proto.specs.Names.{name_eq}
use Rattle.zone_proto.specs.Sets.{RRset}
use Rattle.zone_response.proofs.TurnWalk.{of_digest, of_other}
use Rattle.zone_response.proofs.descent.own_cut.Goals as goal

pub returns-then-eq : goal.returns-then-eq
returns-then-eq c = λ m h. of_digest c.args.origin.now m c.args.name.now c.args.record_type.0 c.if-eq.ensures

pub returns : goal.returns
returns c = λ m h.
    c.unless_origin.ensures
    ∙ ap (λ (o : Option RRset). cond (name_eq c.args.name.now c.args.origin.now) None o) h
    ∙ of_other c.args.origin.now m c.args.name.now c.args.record_type.0 c.if-eq.ensures
