use Rattle.std.proofs.Common.{◌≡◌, [], ◌∷◌, sym, ap, ◌∙◌, Result}
use Rattle.std.proofs.lemmas.List.{nil_from_length}
use Rattle.std.specs.Vec.Iter.{into_iter_items, into_iter_deque}
use Rattle.zone_map.specs.Zones.{Sets}
use Rattle.zone_difference.specs.Differences.{◌>>=◌, with_each, with_given}
use Rattle.zone_difference.specs.declared.error.DifferenceError.{DifferenceError}
use Rattle.zone_difference.proofs.Steps.{passes}
use Rattle.zone_difference.proofs.applying.give_all.Goals as goal

pub loop-set-preserved : goal.loop-set-preserved
unfolding with_each
loop-set-preserved c =
    let left = into_iter_items c.next.new.self in
    let steps : into_iter_items c.loop-set.set-iterator ≡ c.in-Some.set ∷ left = c.in-Some.ensures.steps.0 in
    sym (ap (λ (r : Result Sets DifferenceError). r >>= λ n. with_each with_given n left) c.in-Ok.ensures)
    ∙ sym (ap (with_each with_given c.loop-set.records) steps)
    ∙ c.loop-set.invariant

pub returns-in-Err : goal.returns-in-Err
unfolding with_each
returns-in-Err c =
    let left = into_iter_items c.next.new.self in
    let steps : into_iter_items c.loop-set.set-iterator ≡ c.in-Some.set ∷ left = c.in-Some.ensures.steps.0 in
    passes c.in-Err.error (with_given c.loop-set.records c.in-Some.set) (with_each with_given c.args.records.now c.args.given.items) c.in-Err.ensures
    (λ h. sym c.loop-set.invariant
    ∙ ap (with_each with_given c.loop-set.records) steps
    ∙ ap (λ (r : Result Sets DifferenceError). r >>= λ n. with_each with_given n left) h)

pub returns : goal.returns
unfolding with_each
returns c =
    let left = c.loop-set.set-iterator in
    let none : into_iter_items left ≡ [] = nil_from_length (into_iter_items left) (sym (into_iter_deque left).ok.0 ∙ c.in-None.ensures.steps.0) in
    sym c.loop-set.invariant ∙ ap (with_each with_given c.loop-set.records) none
