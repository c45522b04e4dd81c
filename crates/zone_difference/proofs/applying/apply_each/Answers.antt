use Rattle.std.proofs.Common.{◌≡◌, [], ◌∷◌, sym, ap, ◌∙◌, Result}
use Rattle.std.proofs.lemmas.List.{nil_from_length}
use Rattle.std.specs.Vec.Iter.{into_iter_items, into_iter_deque}
use Rattle.zone_map.specs.Zones.{Sets}
use Rattle.zone_difference.specs.Differences.{◌>>=◌, applied, replayed}
use Rattle.zone_difference.specs.declared.error.DifferenceError.{DifferenceError}
use Rattle.zone_difference.proofs.Steps.{passes}
use Rattle.zone_difference.proofs.applying.apply_each.Goals as goal

pub loop-difference-preserved : goal.loop-difference-preserved
unfolding replayed
loop-difference-preserved c =
    let left = into_iter_items c.next.new.self in
    let steps : into_iter_items c.loop-difference.difference-iterator ≡ c.in-Some.difference ∷ left = c.in-Some.ensures.steps.0 in
    sym (ap (λ (r : Result Sets DifferenceError). r >>= λ n. replayed n left) c.in-Ok.ensures)
    ∙ sym (ap (replayed c.loop-difference.records) steps)
    ∙ c.loop-difference.invariant

pub returns-in-Err : goal.returns-in-Err
unfolding replayed
returns-in-Err c =
    let left = into_iter_items c.next.new.self in
    let steps : into_iter_items c.loop-difference.difference-iterator ≡ c.in-Some.difference ∷ left = c.in-Some.ensures.steps.0 in
    passes c.in-Err.error (applied c.loop-difference.records c.in-Some.difference.taken.items c.in-Some.difference.given.items) (replayed c.args.records.now c.args.differences.items) c.in-Err.ensures
    (λ h. sym c.loop-difference.invariant
    ∙ ap (replayed c.loop-difference.records) steps
    ∙ ap (λ (r : Result Sets DifferenceError). r >>= λ n. replayed n left) h)

pub returns : goal.returns
unfolding replayed
returns c =
    let left = c.loop-difference.difference-iterator in
    let none : into_iter_items left ≡ [] = nil_from_length (into_iter_items left) (sym (into_iter_deque left).ok.0 ∙ c.in-None.ensures.steps.0) in
    sym c.loop-difference.invariant ∙ ap (replayed c.loop-difference.records) none
