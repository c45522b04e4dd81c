use Rattle.std.proofs.Common.{sym, ap, ◌∙◌, subst}
use Rattle.std.specs.Ordering.{is_ge}
use Rattle.std.specs.Prelude.{Option, IfSome}
use Rattle.zone_map.specs.Zones.{Sets}
use Rattle.zone_response.specs.NodeSets.{IsFromSome}
use Rattle.zone_response.proofs.NearSets.{less_from, rest_in_order, rest_has_all}
use Rattle.zone_response.proofs.cursor.sets_near.Goals as goal

pub passed_on-requires-clause-ordered : goal.passed_on-requires-clause-ordered
passed_on-requires-clause-ordered c =
    let m = c.args.sets.now in
    let from : IsFromSome m c.in-Some.near = subst (λ (o : Option Sets). IfSome o (IsFromSome m)) c.in-Some.is c.requires.near in
    rest_in_order m c.in-Some.near c.next.new.self (c.in-Some-next.key.now, c.in-Some-next.field-0-1.now) c.args.least.now c.requires.ordered from c.in-Some-next.ensures.steps

pub passed_on-requires-clause-all : goal.passed_on-requires-clause-all
passed_on-requires-clause-all c =
    let m = c.args.sets.now in
    let from : IsFromSome m c.in-Some.near = subst (λ (o : Option Sets). IfSome o (IsFromSome m)) c.in-Some.is c.requires.near in
    rest_has_all m c.in-Some.near c.next.new.self (c.in-Some-next.key.now, c.in-Some-next.field-0-1.now) c.args.least.now c.requires.ordered from c.in-Some-next.ensures.steps
    (less_from _ (sym (c.is_ge.ensures ∙ ap is_ge c.cmp.ensures) ∙ c.if-is_ge.false))
