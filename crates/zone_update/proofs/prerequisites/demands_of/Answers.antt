use Rattle.std.proofs.Common.{◌≡◌, [], ◌∷◌, sym, ap, ◌∙◌, Result, Ok}
use Rattle.std.proofs.lemmas.List.{nil_from_length, append-nil}
use Rattle.std.specs.Vec.Iter.{into_iter_items, into_iter_deque}
use Rattle.zone_update.specs.Entries.{◌>>=◌}
use Rattle.zone_update.specs.Demands.{looked_at, demands_of}
use Rattle.zone_update.specs.declared.demand.Demand.{Demand}
use Rattle.zone_update.specs.declared.refusal.Refusal.{Refusal}
use Rattle.zone_update.proofs.Steps.{front_taken, no_front, passes, with_front}
use Rattle.zone_update.proofs.prerequisites.demands_of.Goals as goal

pub loop-entry-init : goal.loop-entry-init
loop-entry-init c =
    ap (λ xs. with_front xs (demands_of c.args.origin.now c.args.sets.now (into_iter_items c.into_iter-entry-iterator.result))) c.new-demands.ensures.items
    ∙ no_front _
    ∙ ap (demands_of c.args.origin.now c.args.sets.now) c.into_iter-entry-iterator.ensures.into_iter_gives.0

pub loop-entry-preserved : goal.loop-entry-preserved
unfolding demands_of
loop-entry-preserved c =
    let o = c.args.origin.now in
    let m = c.args.sets.now in
    let xs = c.loop-entry.demands.items in
    let left = into_iter_items c.next.new.self in
    let steps : into_iter_items c.loop-entry.entry-iterator ≡ c.in-Some.entry ∷ left = c.in-Some.ensures.steps.0 in
    let asked : looked_at o m c.in-Some.entry ≡ Ok c.in-Ok.demand = c.in-Ok.ensures in
    ap (λ ys. with_front ys (demands_of o m left)) c.in_ok-push-in-Ok.ensures.items
    ∙ front_taken xs c.in-Ok.demand (demands_of o m left)
    ∙ ap (λ (a : Result Demand Refusal). with_front xs (a >>= λ x. demands_of o m left >>= λ cs. Ok (x ∷ cs))) (sym asked)
    ∙ sym (ap (λ es. with_front xs (demands_of o m es)) steps)
    ∙ c.loop-entry.invariant

pub returns-in-Err : goal.returns-in-Err
unfolding demands_of
returns-in-Err c =
    let o = c.args.origin.now in
    let m = c.args.sets.now in
    let xs = c.loop-entry.demands.items in
    let left = into_iter_items c.next.new.self in
    let steps : into_iter_items c.loop-entry.entry-iterator ≡ c.in-Some.entry ∷ left = c.in-Some.ensures.steps.0 in
    passes c.in-Err.refusal (looked_at o m c.in-Some.entry) (demands_of o m c.args.entries.items) c.in-Err.ensures
    (λ h. sym c.loop-entry.invariant
    ∙ ap (λ es. with_front xs (demands_of o m es)) steps
    ∙ ap (λ (a : Result Demand Refusal). with_front xs (a >>= λ x. demands_of o m left >>= λ cs. Ok (x ∷ cs))) h)

pub returns : goal.returns
unfolding demands_of
returns c =
    let xs = c.loop-entry.demands.items in
    let left = c.loop-entry.entry-iterator in
    let none : into_iter_items left ≡ [] = nil_from_length (into_iter_items left) (sym (into_iter_deque left).ok.0 ∙ c.in-None.ensures.steps.0) in
    sym c.loop-entry.invariant ∙ ap (λ es. with_front xs (demands_of c.args.origin.now c.args.sets.now es)) none ∙ ap Ok (append-nil xs)
