-- `apart` takes a box apart: it owns the block that the call hands it, by the pointer and the allocator that it hands it.
use Rattle.call_handles.proofs.Walking.{List, [], ◌∷◌, ◌++◌, ◌≡◌, refl, ap, ◌∙◌, Val, of_list, vptr, vstruct, a_type, dcons, dnil, inst_fn, bare, WpFn, flft, fsep, ftrue, SProp, emp, fst∗, id⊢, never, fact, fact_i, tables, sem, !, await, by, drop, feq_l, fjoin, fpick, fsplit, join, keep, later, move, pick, qed, raw, rewrite, some, split, split3, suffices, use0, use1, ‵, ◌$◌, ◌∵◌, ◌⊛◌, agg, sub, whole, alloc_all, free_all, get, get_in, lands_as, look_at, pass_all, sets, and_then, enter, fld, no_more, of_opd, returns, stop, RawPtr, no, bounded, layout, param, param_laws, RattleType, owns, Ptr, block_ptr, in_a_block, null_ptr, ptr_val, plain, types_at, heard, nothing, only, Tuple, calls_at, triple_of, Stays, stay_dropped, walk_of, Goes-blank, handle_tells, fm, leaves, proved_at, Bx, box_in, box_out, box_owns, passes}
use Rattle.std_alloc.proofs.BoxSteps.Form as box
use Rattle.std_alloc.specs.contracts.boxed.Box.into_raw_with_allocator as callee
use Rattle.std_alloc.proofs.boxed.Box.into_raw_with_allocator.Met.{met}
use Rattle.call_handles.proofs.RawBoxes.{pair, pair_fits, close_raw}
use Rattle.call_handles.specs.contracts.raw_box.RawBox.apart.{ended, clauses}
use Rattle.call_handles.specs.contracts.raw_box.RawBox.apart.Key.{name as #self}
use Rattle.call_handles.proofs.raw_box.RawBox.apart.Statement.{statement}
use Rattle.call_handles.proofs.raw_box.RawBox.apart.Code as code

pub apart_spec : {M : Type 1} → statement M
apart_spec 𝓤 𝓛 𝓜 𝓡 wired T A L LA g d dx dd allocator glue glued =
    -- the rows of the value and of the allocator, the box of them, and the code at these types
    let R : RattleType = param 0 T in
    let Z : RattleType = param 1 A in
    let LZ = param_laws 1 A LA in
    let E : Bx = record { row = T; laws = L; al = record { row = A; laws = LA; g = g; d = d; drops = dd } } in
    let types = bounded (a_type ∷ a_type ∷ []) (T, (A, tt)) (dcons d (dcons dx (dcons dd dnil))) in
    let fn = inst_fn types code.function in
    -- the contract: the parameter is taken, and nothing of it stays
    let En = ended T A g d dx dd in
    let c = clauses T A g d dx dd 𝓛 𝓜.mem 𝓡.returns in
    let taken : Stays En.signature.params En.kept = (stay_dropped (plain (λ _. box.B E)) no, tt) in
    let 𝓣 = tables 𝓤 𝓛.H 𝓜 𝓡 𝓡.env in
    proved_at 𝓛 En taken c 𝓜 𝓡 (Goes-blank 𝓛 2 (plain (λ _. box.B E)) no (λ κs x f. tt), tt) (#self types) fn (code.unfolded 𝓤 𝓛.H 𝓜 𝓡 wired (T, (A, tt)) d dx dd) (λ z are.
    let κs = z.0.0 in
    let qs = z.0.1 in
    let b = z.0.3.0 in
    let a = b.alloc in
    let Post : Val → SProp 𝓤 = (walk_of 𝓛 En taken c).post z in
    let Run : List Val → SProp 𝓤 = λ ws. WpFn 𝓤 𝓛.H 𝓣.C 𝓣.Λ fn ws Post in
    let tokens = ‵ (flft κs.0 qs.0) ⊛ ‵ (flft κs.1.0 qs.1.0) ⊛ ‵ ftrue in
    -- the box is one word, of a pointer and a handle; and what the call requires is the box
    qed 𝓛 ((tokens ⊛ ‵ (owns (types_at En.signature.params κs) z.0.3 z.0.4)) ∷ raw ((c κs z.0.3).requires z.1) ∷ []) ∵
    split ! $ move ! (1 ∷ []) $ fsplit ! $
    box_out E ! b z.0.4.0 (λ m o h at is fits. box_in E ! b m o b.value at refl $
    let w : Val = box.word E h m o in
    let call = triple_of 𝓛 (callee.signature T A g d dd dx) (callee.spec T A g d dd dx 𝓛 𝓜.mem 𝓡.returns) in
    let y : call.Ghost = ((κs, qs, tt, (b, tt), (w ∷ [], tt)), tt) in
    let Both = Tuple (RawPtr ∷ Z ∷ []) in
    fjoin ! $ move ! (1 ∷ 0 ∷ []) $ join ! $ join ! $ use1 𝓛 (raw (call.pre y)) (id⊢ 𝓤 _) $
    suffices ! (Run (w ∷ [])) (passes 𝓤 Run z.0.4.0 w is) $
    enter ! 𝓣.C 𝓣.Λ fn (w ∷ []) Post $ alloc_all ! (λ l.
    pass_all ! refl (pair_fits R Z LZ g m o h fits, tt) $
    sets ! (of_opd ! (get ! refl)) refl (pair_fits R Z LZ g m o h fits) $
    -- the call gives the pointer and the allocator, with the block
    calls_at ! (fm 𝓛 𝓜 𝓡) call (met 𝓤 𝓛 𝓜 𝓡 (code.calls-std_alloc::boxed::Box::into_raw_with_allocator 𝓡.env wired) T A L LA g d dd dx allocator glued glue) y
    (and_then ! (get ! refl) (no_more !)) (λ u.
    use1 𝓛 (later (some (λ (r : Ptr × A.Denot). (tokens ⊛ ‵ (Both.own_val r (u ∷ []))) ⊛ some (λ (_ : (Unit {0} × (Unit {0} × Unit {0})) × Unit {0}).
    ‵ (fsep (fsep ftrue (fsep ftrue ftrue)) ftrue) ⊛ (raw (fact 𝓤 (r.1 ≡ a)) ⊛ ‵ (box_owns (g.dealloc_token a) R r.0 b.value)))))) (id⊢ 𝓤 _) $
    await ! tt $ pick ! (λ r. split ! $ move ! (1 ∷ []) $ pick ! (λ _. split3 ! $ drop ! $ heard ! (r.1 ≡ a) (λ same.
    in_a_block ! r.0 (λ p. box_owns (g.dealloc_token a) R p b.value) (fst∗ 𝓤 (never 𝓤) (sem 𝓛 (g.dealloc_token a (bare (layout T)) null_ptr))) (λ m' o' at'.
    -- the two of them are one word
    move ! (1 ∷ []) $ split ! $ move ! (1 ∷ []) $ fpick ! (λ parts. fsplit ! $ feq_l ! (λ made. fsplit ! $ feq_l ! (λ first. fsplit ! $
    rewrite ! 0 (λ (s : A.Denot). ‵ (A.own_val s parts.1.0)) same refl $ handle_tells E.al ! a parts.1.0 (λ h' second fits'.
    let by_place : ptr_val r.0 ∷ [] ≡ vptr m' o' ∷ [] = ap (λ (p : Ptr). ptr_val p ∷ []) at' in
    let good = pair_fits R Z LZ g m' o' h' fits' in
    lands_as ! (ap only (made ∙ (λ j. vstruct (of_list ((first ∙ by_place) j ++ (second j ++ []))) ∷ []))) refl good $
    -- it is taken apart, and the raw box is made of the parts
    sets ! (of_opd ! (get_in ! (fld ! refl (stop !)) (sub ! 0 refl (whole !)))) refl (tt, tt) $
    sets ! (of_opd ! (get_in ! (fld ! refl (stop !)) (sub ! 1 refl (whole !)))) refl fits' $
    sets ! (of_opd ! (get ! refl)) refl fits' $
    sets ! (agg ! (and_then ! (get ! refl) (and_then ! (get ! refl) (no_more !)))) refl good $
    move ! (3 ∷ 0 ∷ []) $ close_raw R Z LZ g ! m' o' h' a b.value $
    use0 𝓛 (raw (fact 𝓤 (b.value ≡ b.value))) (fact_i 𝓤 (b.value ≡ b.value) (emp 𝓤) refl) $ nothing ! $ nothing ! $ fjoin ! $
    returns ! (look_at ! 0 refl) $ free_all ! refl $ keep ! (4 ∷ 0 ∷ 2 ∷ 1 ∷ []) $
    by ! (leaves 𝓛 En taken c z (pair (vptr m' o') h') (record { ptr = block_ptr m' o'; alloc = a; content = b.value }) ((tt, (tt, tt)), tt) (tt, tt))))))))))))))
