-- `whole` gives the block, with its pointer and its allocator, to the call that makes a box of them.
use Rattle.call_handles.proofs.Walking.{List, [], ◌∷◌, ◌≡◌, refl, sym, ap, subst, Val, vptr, a_type, dcons, dnil, inst_fn, WpFn, flft, ftrue, SProp, id⊢, ◌⊑◌, fact, tables, !, at_ret, await, by, drop, feq_i, fjoin, fsplit, join, keep, later, move, pick, qed, raw, rewrite, some, split, split3, suffices, use1, ‵, ◌$◌, ◌∵◌, ◌⊛◌, sub, whole, alloc_all, env, free_all, get, get_in, lands_last, look_at, pass_all, sets, and_then, blocks, enter, exec, first, fld, no_more, of_opd, returns, stop, no, bounded, layout, param, param_laws, RattleType, owns, block_ptr, plain, types_at, nothing, only, calls_at_last, Lasts, lasts, triple_of, Stays, stay_dropped, walk_of, Goes-blank, after, fm, Good, leaves, proved_at, Bx, box_in, box_out, passes}
use Rattle.std_alloc.proofs.BoxSteps.Form as box
use Rattle.std_alloc.specs.contracts.boxed.Box.from_raw as callee
use Rattle.std_alloc.proofs.boxed.Box.from_raw.Met.{met}
use Rattle.call_handles.proofs.RawBoxes.{pair, Raw, pair_fits, open_raw}
use Rattle.call_handles.specs.contracts.raw_box.RawBox.whole.{ended, clauses}
use Rattle.call_handles.specs.contracts.raw_box.RawBox.whole.Key.{name as #self}
use Rattle.call_handles.proofs.raw_box.RawBox.whole.Statement.{statement}
use Rattle.call_handles.proofs.raw_box.RawBox.whole.Code as code

pub whole_spec : {M : Type 1} → statement M
whole_spec 𝓤 𝓛 𝓜 𝓡 wired T A L LA g d dx dd allocator glue glued =
    -- the rows of the value and of the allocator, the box of them, and the code at these types
    let R : RattleType = param 0 T in
    let Z : RattleType = param 1 A in
    let LZ = param_laws 1 A LA in
    let E : Bx = record { row = T; laws = L; al = record { row = A; laws = LA; g = g; d = d; drops = dd } } in
    let B : RattleType = box.B E in
    let types = bounded (a_type ∷ a_type ∷ []) (T, (A, tt)) (dcons d (dcons dx (dcons dd dnil))) in
    let fn = inst_fn types code.function in
    -- the contract: the parameter is taken, and nothing of it stays
    let En = ended T A g d dx dd in
    let c = clauses T A g d dx dd 𝓛 𝓜.mem 𝓡.returns in
    let taken : Stays En.signature.params En.kept = (stay_dropped (plain (λ _. Raw R Z LZ g)) no, tt) in
    let 𝓣 = tables 𝓤 𝓛.H 𝓜 𝓡 𝓡.env in
    proved_at 𝓛 En taken c 𝓜 𝓡 (Goes-blank 𝓛 2 (plain (λ _. Raw R Z LZ g)) no (λ κs x f. tt), tt) (#self types) fn (code.unfolded 𝓤 𝓛.H 𝓜 𝓡 wired (T, (A, tt)) d dx dd) (λ z are.
    let κs = z.0.0 in
    let qs = z.0.1 in
    let r = z.0.3.0 in
    let a = r.alloc in
    let Post : Val → SProp 𝓤 = (walk_of 𝓛 En taken c).post z in
    let Run : List Val → SProp 𝓤 = λ ws. WpFn 𝓤 𝓛.H 𝓣.C 𝓣.Λ fn ws Post in
    let tokens = ‵ (flft κs.0 qs.0) ⊛ ‵ (flft κs.1.0 qs.1.0) ⊛ ‵ ftrue in
    qed 𝓛 ((tokens ⊛ ‵ (owns (types_at En.signature.params κs) z.0.3 z.0.4)) ∷ raw ((c κs z.0.3).requires z.1) ∷ []) ∵
    split ! $ move ! (1 ∷ []) $ fsplit ! $
    open_raw R Z LZ g ! r z.0.4.0 (λ m o h is fits.
    let w : Val = pair (vptr m o) h in
    let call = triple_of 𝓛 (callee.signature T A g d dd) (callee.spec T A g d dd 𝓛 𝓜.mem 𝓡.returns) in
    let y : call.Ghost = ((κs, qs, tt, (a, (block_ptr m o, tt)), (h ∷ [], (vptr m o ∷ [], tt))), r.content) in
    -- what the call requires: the tokens, the handle and the pointer, and the block
    move ! (4 ∷ []) $ use1 𝓛 (raw (fact 𝓤 (κs.0 ⊑ T.lives)) ⊛ raw (fact 𝓤 (κs.1.0 ⊑ A.lives)) ⊛ ‵ ftrue) (id⊢ 𝓤 _) $
    split3 ! $ move ! (2 ∷ []) $ drop ! $ move ! (1 ∷ 2 ∷ []) $ join ! $ move ! (1 ∷ 0 ∷ []) $ join ! $
    move ! (2 ∷ []) $ feq_i ! (List Val) (vptr m o ∷ []) (vptr m o ∷ []) refl $ fjoin ! $ move ! (2 ∷ 0 ∷ []) $ fjoin ! $
    move ! (2 ∷ 0 ∷ []) $ join ! $ join ! $ use1 𝓛 (raw (call.pre y)) (id⊢ 𝓤 _) $
    suffices ! (Run (w ∷ [])) (passes 𝓤 Run z.0.4.0 w is) $
    enter ! 𝓣.C 𝓣.Λ fn (w ∷ []) Post $ alloc_all ! (λ l.
    let Ev = env fn.locals l in
    pass_all ! refl (pair_fits R Z LZ g m o h fits, tt) $
    -- the raw box is taken apart
    sets ! (of_opd ! (get_in ! (fld ! refl (stop !)) (sub ! 0 refl (whole !)))) refl (tt, tt) $
    sets ! (of_opd ! (get_in ! (fld ! refl (stop !)) (sub ! 1 refl (whole !)))) refl fits $
    first ! $ blocks ! $ sets ! (of_opd ! (get ! refl)) refl fits $
    -- the call makes the box
    calls_at_last ! (fm 𝓛 𝓜 𝓡) call (met 𝓤 𝓛 𝓜 𝓡 (code.calls-std_alloc::boxed::Box::from_raw 𝓡.env wired) T A L LA g d dd allocator glued) y
    (and_then ! (get ! refl) (and_then ! (get ! refl) (no_more !))) (λ u.
    use1 𝓛 (later (some (λ (b : B.Denot). (tokens ⊛ ‵ (B.own_val b (u ∷ []))) ⊛ some (λ (ls : Lasts (callee.ended T A g d dd) κs y.0.3).
    ‵ (lasts (callee.ended T A g d dd) κs y.0.3 ls) ⊛ (raw (fact 𝓤 (b.value ≡ r.content)) ⊛ raw (fact 𝓤 (b.alloc ≡ a))))))) (id⊢ 𝓤 (call.post y u)) $
    await ! tt $ pick ! (λ b. split ! $ move ! (1 ∷ []) $ pick ! (λ _. split3 ! $ drop ! $ move ! (2 ∷ []) $ split ! $ move ! (1 ∷ []) $
    box_out E ! b (u ∷ []) (λ m' o' h' at' is' fits'. box_in E ! b m' o' b.value at' refl $
    rewrite ! 0 (λ (xs : List Val). ‵ (B.own_val b xs)) (sym is') refl $
    let good : Good (layout B) u = subst (Good (layout B)) (sym (ap only is')) (pair_fits R Z LZ g m' o' h' fits') in
    lands_last ! refl good $ exec ! 𝓣.C 𝓣.Λ Ev (after 3 fn.body) (at_ret Ev Post) $ sets ! (of_opd ! (get ! refl)) refl good $
    nothing ! $ nothing ! $ fjoin ! $
    returns ! (look_at ! 0 refl) $ free_all ! refl $ keep ! (2 ∷ 0 ∷ 1 ∷ 3 ∷ []) $
    by ! (leaves 𝓛 En taken c z u b ((tt, (tt, tt)), tt) (tt, tt)))))))))
