use Rattle.std.proofs.Common.{◌≡◌, [], ◌∷◌, sym, ap, ◌∙◌, Result, Bool, true}
use Rattle.std.proofs.lemmas.List.{nil_from_length}
use Rattle.std.specs.Vec.Iter.{into_iter_items, into_iter_deque}
use Rattle.transfer_reading.specs.Differences.{◌>>=◌, changed, is_given_from, with_record, Held}
use Rattle.transfer_reading.specs.declared.fault.OutcomeFault.{OutcomeFault}
use Rattle.transfer_reading.proofs.Steps.{passes}
use Rattle.transfer_reading.proofs.differences.change.Goals as goal

pub loop-given-preserved : goal.loop-given-preserved
unfolding changed
loop-given-preserved c =
    let o = c.args.origin.now in
    let left = into_iter_items c.next.new.self in
    let x = c.in-Some.given in
    let h = c.loop-given.held.entries in
    let from : c.is_given_from-is_given.result ≡ is_given_from o c.loop-given.is_given x = c.is_given_from-is_given.ensures in
    let steps : into_iter_items c.loop-given.given-iterator ≡ x ∷ left = c.in-Some.ensures.steps.0 in
    let step = ap (λ (f : Bool). with_record f h x) (sym from) ∙ c.in-Ok.ensures in
    ap (λ (f : Bool). changed o f c.apply.new.held.entries left) from
    ∙ sym (ap (λ (r : Result Held OutcomeFault). r >>= λ n. changed o (is_given_from o c.loop-given.is_given x) n left) step)
    ∙ sym (ap (changed o c.loop-given.is_given h) steps)
    ∙ c.loop-given.invariant

pub returns-in-Err : goal.returns-in-Err
unfolding changed
returns-in-Err c =
    let o = c.args.origin.now in
    let left = into_iter_items c.next.new.self in
    let x = c.in-Some.given in
    let h = c.loop-given.held.entries in
    let from : c.is_given_from-is_given.result ≡ is_given_from o c.loop-given.is_given x = c.is_given_from-is_given.ensures in
    let steps : into_iter_items c.loop-given.given-iterator ≡ x ∷ left = c.in-Some.ensures.steps.0 in
    passes c.in-Err.fault (with_record c.is_given_from-is_given.result h x) (changed o true c.args.held.now.entries c.args.records.items) c.in-Err.ensures
    (λ e. sym c.loop-given.invariant
    ∙ ap (changed o c.loop-given.is_given h) steps
    ∙ ap (λ (r : Result Held OutcomeFault). r >>= λ n. changed o (is_given_from o c.loop-given.is_given x) n left)
    (ap (λ (f : Bool). with_record f h x) (sym from) ∙ e))

pub returns : goal.returns
unfolding changed
returns c =
    let left = c.loop-given.given-iterator in
    let none : into_iter_items left ≡ [] = nil_from_length (into_iter_items left) (sym (into_iter_deque left).ok.0 ∙ c.in-None.ensures.steps.0) in
    sym c.loop-given.invariant ∙ ap (changed c.args.origin.now c.loop-given.is_given c.loop-given.held.entries) none
