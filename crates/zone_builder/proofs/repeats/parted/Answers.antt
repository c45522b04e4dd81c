use Rattle.std.proofs.Common.{◌≡◌, false, cond, [], ◌∷◌, ◌++◌, map, sym, ap, ◌∙◌, append_assoc, append-nil}
use Rattle.std.specs.Prelude.{unwrap_or}
use Rattle.std.proofs.lemmas.List.{nil_from_length}
use Rattle.std.specs.Vec.Iter.{into_iter_items, into_iter_deque}
use Rattle.zone_builder.specs.Repeats.{flagged, unflagged}
use Rattle.zone_builder.specs.Warnings.{repeated_warning}
use Rattle.zone_builder.proofs.Warned.{one_parted, run_out, IsParted}
use Rattle.zone_builder.proofs.repeats.parted.Goals as goal

pub loop-given-preserved : goal.loop-given-preserved
loop-given-preserved c =
    let g = c.in-Some.given in
    let rest = into_iter_items c.next.new.self in
    let flags = into_iter_items c.loop-given.repeats in
    let more = into_iter_items c.next-in-loop-given.new.self in
    let o = c.next-in-loop-given.result in
    let kept = c.loop-given.kept.items in
    let told = c.loop-given.warnings.items in
    let steps : into_iter_items c.loop-given.given-iterator ≡ g ∷ rest = c.in-Some.ensures.steps.0 in
    let parted : IsParted g rest flags more (unwrap_or o false) =
    one_parted g rest flags more o c.next-in-loop-given.ensures.items
    (λ none. nil_from_length more (sym (into_iter_deque c.next-in-loop-given.new.self).ok.0 ∙ run_out o _ _ c.next-in-loop-given.ensures.variant.1 c.next-in-loop-given.ensures.len none)) in
    let new : unwrap_or o false ≡ false = sym c.unwrap_or.ensures ∙ c.if-unwrap_or.false in
    record {
      kept =
          ap (λ ks. ks ++ unflagged rest more) c.in_ok-push-2.ensures.items ∙ append_assoc kept (g ∷ []) (unflagged rest more)
          ∙ ap (λ xs. kept ++ xs) (sym (parted.kept ∙ ap (λ b. cond b (unflagged rest more) (g ∷ unflagged rest more)) new))
          ∙ ap (λ gs. kept ++ unflagged gs flags) (sym steps) ∙ c.loop-given.invariant.kept;
      warned =
          ap (λ xs. told ++ map repeated_warning xs) (sym (parted.told ∙ ap (λ b. cond b (g ∷ flagged rest more) (flagged rest more)) new))
          ∙ ap (λ gs. told ++ map repeated_warning (flagged gs flags)) (sym steps) ∙ c.loop-given.invariant.warned;
    }

pub returns-clause-ok : goal.returns-clause-ok
returns-clause-ok c =
    let left = c.loop-given.given-iterator in
    let none : into_iter_items left ≡ [] = nil_from_length (into_iter_items left) (sym (into_iter_deque left).ok.0 ∙ c.in-None.ensures.steps.0) in
    sym (append-nil c.loop-given.kept.items) ∙ ap (λ gs. c.loop-given.kept.items ++ unflagged gs (into_iter_items c.loop-given.repeats)) (sym none) ∙ c.loop-given.invariant.kept

pub returns-clause-warned : goal.returns-clause-warned
returns-clause-warned c =
    let left = c.loop-given.given-iterator in
    let none : into_iter_items left ≡ [] = nil_from_length (into_iter_items left) (sym (into_iter_deque left).ok.0 ∙ c.in-None.ensures.steps.0) in
    sym (append-nil c.loop-given.warnings.items) ∙ ap (λ gs. c.loop-given.warnings.items ++ map repeated_warning (flagged gs (into_iter_items c.loop-given.repeats))) (sym none) ∙ c.loop-given.invariant.warned
