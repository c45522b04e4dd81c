use Rattle.std.proofs.Common.{sym, ap, ◌∙◌}
use Rattle.std.specs.Ordering.{is_ge}
use Rattle.zone_response.proofs.NearSets.{in_order_on, passed_front, at_front}
use Rattle.zone_response.proofs.cursor.passed_on.Goals as goal

pub loop-count-preserved : goal.loop-count-preserved
loop-count-preserved c = record {
  ordered = in_order_on c.loop-count.rest c.next.new.self (c.in-Some.key.now, c.in-Some.field-0-1.now) c.args.least.now c.in-Some.ensures.steps c.loop-count.invariant.ordered;
  all =
      passed_front c.loop-count.rest c.next.new.self (c.in-Some.key.now, c.in-Some.field-0-1.now) c.args.least.now c.in-Some.ensures.steps _
      (sym (c.is_ge.ensures ∙ ap is_ge c.cmp.ensures) ∙ c.if-is_ge.false) c.loop-count.invariant.all;
}

pub returns-then-is_ge-clause-ok : goal.returns-then-is_ge-clause-ok
returns-then-is_ge-clause-ok c =
    c.in_ok-here.ensures.cases
    ∙ at_front c.loop-count.rest c.next.new.self (c.in-Some.key.now, c.in-Some.field-0-1.now) c.args.least.now c.in-Some.ensures.steps _
    c.loop-count.invariant.ordered (sym (c.is_ge.ensures ∙ ap is_ge c.cmp.ensures) ∙ c.if-is_ge.true) c.loop-count.invariant.all
