use Rattle.std.proofs.Common.{◌≡◌, [], ◌∷◌, sym, ap, ◌∙◌, Result, Ok}
use Rattle.std.proofs.lemmas.List.{nil_from_length, append-nil}
use Rattle.std.specs.Vec.Iter.{into_iter_items, into_iter_deque}
use Rattle.zone_update.specs.Entries.{◌>>=◌}
use Rattle.zone_update.specs.Changes.{change_of, changes_of}
use Rattle.zone_update.specs.declared.change.Change.{Change}
use Rattle.zone_update.specs.declared.refusal.Refusal.{Refusal}
use Rattle.zone_update.proofs.Steps.{front_taken, no_front, passes, with_front}
use Rattle.zone_update.proofs.updating.changes_of.Goals as goal

pub loop-entry-init : goal.loop-entry-init
loop-entry-init c =
    ap (λ xs. with_front xs (changes_of c.args.origin.now (into_iter_items c.into_iter-entry-iterator.result))) c.in_ok-changes.ensures.items
    ∙ no_front _
    ∙ ap (changes_of c.args.origin.now) c.into_iter-entry-iterator.ensures.into_iter_gives.0

pub loop-entry-preserved : goal.loop-entry-preserved
unfolding changes_of
loop-entry-preserved c =
    let o = c.args.origin.now in
    let xs = c.loop-entry.changes.items in
    let left = into_iter_items c.next.new.self in
    let steps : into_iter_items c.loop-entry.entry-iterator ≡ c.in-Some.entry ∷ left = c.in-Some.ensures.steps.0 in
    let asked : change_of o c.in-Some.entry ≡ Ok c.in-Ok.change = c.in-Ok.ensures in
    ap (λ ys. with_front ys (changes_of o left)) c.in_ok-push-in-Ok.ensures.items
    ∙ front_taken xs c.in-Ok.change (changes_of o left)
    ∙ ap (λ (a : Result Change Refusal). with_front xs (a >>= λ x. changes_of o left >>= λ cs. Ok (x ∷ cs))) (sym asked)
    ∙ sym (ap (λ es. with_front xs (changes_of o es)) steps)
    ∙ c.loop-entry.invariant

pub returns-in-Err : goal.returns-in-Err
unfolding changes_of
returns-in-Err c =
    let o = c.args.origin.now in
    let xs = c.loop-entry.changes.items in
    let left = into_iter_items c.next.new.self in
    let steps : into_iter_items c.loop-entry.entry-iterator ≡ c.in-Some.entry ∷ left = c.in-Some.ensures.steps.0 in
    passes c.in-Err.refusal (change_of o c.in-Some.entry) (changes_of o c.args.entries.items) c.in-Err.ensures
    (λ h. sym c.loop-entry.invariant
    ∙ ap (λ es. with_front xs (changes_of o es)) steps
    ∙ ap (λ (a : Result Change Refusal). with_front xs (a >>= λ x. changes_of o left >>= λ cs. Ok (x ∷ cs))) h)

pub returns : goal.returns
unfolding changes_of
returns c =
    let xs = c.loop-entry.changes.items in
    let left = c.loop-entry.entry-iterator in
    let none : into_iter_items left ≡ [] = nil_from_length (into_iter_items left) (sym (into_iter_deque left).ok.0 ∙ c.in-None.ensures.steps.0) in
    sym c.loop-entry.invariant ∙ ap (λ es. with_front xs (changes_of c.args.origin.now es)) none ∙ ap Ok (append-nil xs)
