use Rattle.std.proofs.Common.{◌≡◌, List, [], sym, ◌∙◌, subst}
use Rattle.std.proofs.lemmas.List.{append-nil, nil_from_length}
use Rattle.std.specs.List.{AllZip}
use Rattle.std.specs.Vec.Iter.{into_iter_items, into_iter_deque}
use Rattle.shown_zones.specs.Agreeing.{IsOfStep}
use Rattle.shown_zones.specs.declared.step.ZoneStep.{ZoneStep}
use Rattle.shown_zones.proofs.Agreed.{one_more}
use Rattle.shown_zones.proofs.stepping.differences_of.Goals as goal

pub loop-step-preserved : goal.loop-step-preserved
loop-step-preserved c =
    one_more c.args.steps.items (into_iter_items c.loop-step.step-iterator) (into_iter_items c.next.new.self) c.loop-step.differences.items c.push.new.self.items c.in-Some.step
    c.in_ok-difference_of.field-0 c.in-Some.ensures.steps.0 c.in_ok-push.ensures.items c.in_ok-difference_of.ensures c.loop-step.invariant

pub returns : goal.returns
returns c =
    let left = c.loop-step.step-iterator in
    let none : into_iter_items left ≡ [] = nil_from_length (into_iter_items left) (sym (into_iter_deque left).ok.0 ∙ c.in-None.ensures.steps.0) in
    subst (AllZip IsOfStep c.args.steps.items) (append-nil c.loop-step.differences.items)
    (c.loop-step.invariant [] (subst (λ (b : List ZoneStep). AllZip IsOfStep b []) (sym none) tt))
