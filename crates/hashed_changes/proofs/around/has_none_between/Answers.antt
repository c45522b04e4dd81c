use Rattle.std.proofs.Common.{sym, ◌∙◌}
use Rattle.hashed_changes.proofs.Passing.{none_read, one_read}
use Rattle.hashed_changes.proofs.around.has_none_between.Goals as goal

pub returns-in-Some : goal.returns-in-Some
returns-in-Some c = λ upto.
    one_read c.args.zone.now c.args.last.now c.args.owner.now c.denial_owners_before-earlier.result c.denial_owners_before-earlier.ensures.value (sym c.lt.ensures ∙ c.if-lt.false)
    c.denial_owners_before-earlier.ensures.zone c.read_last.new.self c.in-Some.nearest.now c.in-Some.ensures.last (sym c.le.ensures ∙ upto)

pub returns-in-None : goal.returns-in-None
returns-in-None c = λ upto.
    none_read c.args.zone.now c.args.last.now c.args.owner.now c.denial_owners_before-earlier.result c.denial_owners_before-earlier.ensures.value (sym c.lt.ensures ∙ c.if-lt.false) c.in-None.ensures.last.0
