-- `raw` compares the pointer with null: there nothing is held, and elsewhere the raw box is made of the pointer and the block.
use Rattle.call_handles.proofs.Walking.{List, [], ◌∷◌, ◌≡◌, refl, ap, ◌∙◌, lit<, Val, vcons, vnil, vptr, a_type, dcons, dnil, inst_fn, WpFn, flft, ftrue, SProp, emp, fact, fact_i, tables, !, at_ret, by, fjoin, fsplit, keep, move, qed, raw, split, suffices, use0, use1, ‵, ◌$◌, ◌∵◌, ◌⊛◌, live, agg, sub, whole, alloc_all, env, free_all, get, get_in, look_at, pass_all, sets, sets_last, and_then, bin, branches, enter, exec, first, fld, lit, no_more, of_opd, returns, stop, no, bounded, layout, param, RattleType, owns, Ptr, block_ptr, null_ptr, ptr_val, tests_null, plain, type_at, types_at, nothing, Stays, stay_dropped, walk_of, Goes-blank, after, Good, ghosts, None, Some, Some-of, none_of, leaves, proved_at, and_tt, passes}
use Rattle.call_handles.proofs.RawBoxes.{pair, Raw, pair_fits, close_raw}
use Rattle.call_handles.proofs.NullableBoxes.{Z, LZ, open_pair, by_content}
use Rattle.call_handles.specs.Holding.{owns_held}
use denote.Struct.Owning.{shape}
use Rattle.call_handles.specs.contracts.nullable_box.NullableBox as nullable
use Rattle.call_handles.specs.contracts.nullable_box.NullableBox.raw.{ended, clauses}
use Rattle.call_handles.specs.contracts.nullable_box.NullableBox.raw.Key.{name as #self}
use Rattle.call_handles.proofs.nullable_box.NullableBox.raw.Statement.{statement}
use Rattle.call_handles.proofs.nullable_box.NullableBox.raw.Code as code

pub raw_spec : {M : Type 1} → statement M
raw_spec 𝓤 𝓛 𝓜 𝓡 wired T L dx glue =
    -- the row of the value, and the code at its type
    let R : RattleType = param 0 T in
    let Row : RattleType = nullable.the_row R in
    let types = bounded (a_type ∷ []) (T, tt) (dcons dx dnil) in
    let fn = inst_fn types code.function in
    let En = ended T dx in
    let c = clauses T dx 𝓛 𝓜.mem 𝓡.returns in
    let To : RattleType = Raw R Z LZ ghosts in
    let taken : Stays En.signature.params En.kept = (stay_dropped (plain (λ _. Row)) no, tt) in
    let 𝓣 = tables 𝓤 𝓛.H 𝓜 𝓡 𝓡.env in
    proved_at 𝓛 En taken c 𝓜 𝓡 (Goes-blank 𝓛 1 (plain (λ _. Row)) no (λ κs x f. tt), tt) (#self types) fn (code.unfolded 𝓤 𝓛.H 𝓜 𝓡 wired (T, tt) dx) (λ z are.
    let d = z.0.3.0 in
    let a = d.alloc in
    let Post : Val → SProp 𝓤 = (walk_of 𝓛 En taken c).post z in
    let Run : List Val → SProp 𝓤 = λ ws. WpFn 𝓤 𝓛.H 𝓣.C 𝓣.Λ fn ws Post in
    let Out : RattleType = type_at En.signature.result z.0.0 in
    let tokens = ‵ (flft z.0.0.0 z.0.1.0) ⊛ ‵ ftrue in
    qed 𝓛 ((tokens ⊛ ‵ (owns (types_at En.signature.params z.0.0) z.0.3 z.0.4)) ∷ raw ((c z.0.0 z.0.3).requires z.1) ∷ []) ∵
    split ! $ move ! (1 ∷ []) $ fsplit ! $
    open_pair (shape (nullable.the_type R)) ! d.ptr a (owns_held R a d.ptr d.content) z.0.4.0 (λ h is fits. by_content R ! a d.ptr d.content
    -- null
    (λ null nothing_held.
    let w : Val = pair (ptr_val null_ptr) h in
    let here : z.0.4.0 ≡ w ∷ [] = is ∙ ap (λ (p : Ptr). pair (ptr_val p) h ∷ []) null in
    suffices ! (Run (w ∷ [])) (passes 𝓤 Run z.0.4.0 w here) $
    enter ! 𝓣.C 𝓣.Λ fn (w ∷ []) Post $ alloc_all ! (λ l.
    let Ev = env fn.locals l in
    pass_all ! refl ((and_tt _ fits.0, (record { fits = lit< tt }, (fits.1, tt))), tt) $
    sets ! (of_opd ! (get_in ! (fld ! refl (stop !)) (sub ! 0 refl (whole !)))) refl (tt, record { fits = lit< tt }) $
    sets ! (of_opd ! (get_in ! (fld ! refl (stop !)) (sub ! 1 refl (whole !)))) refl fits $
    sets ! (bin ! (get ! refl) (lit ! tt) tt) refl (tt, tt) $
    first ! $ branches ! (get ! refl)
    (λ _. sets_last ! (agg ! (and_then ! (lit ! tt) (no_more !))) refl (tt, (record { fits = lit< tt }, tt)) $
    exec ! 𝓣.C 𝓣.Λ Ev (after 4 fn.body) (at_ret Ev Post) $
    sets ! (of_opd ! (get ! refl)) refl (tt, (record { fits = lit< tt }, tt)) $
    use0 𝓛 (‵ (Out.own_val None (live 0 vnil ∷ []))) (none_of 𝓛 To) $
    use0 𝓛 (raw (fact 𝓤 (d.content ≡ None))) (fact_i 𝓤 (d.content ≡ None) (emp 𝓤) nothing_held) $ nothing ! $ nothing ! $ fjoin ! $
    returns ! (look_at ! 0 refl) $ free_all ! refl $ keep ! (5 ∷ 0 ∷ 2 ∷ 1 ∷ []) $
    by ! (leaves 𝓛 En taken c z (live 0 vnil) None (tt, tt) (tt, tt)))
    (λ wrong. absurd wrong)))
    -- a block
    (λ m o x at is_held test.
    let w : Val = pair (vptr m o) h in
    let here : z.0.4.0 ≡ w ∷ [] = is ∙ ap (λ (p : Ptr). pair (ptr_val p) h ∷ []) at in
    suffices ! (Run (w ∷ [])) (passes 𝓤 Run z.0.4.0 w here) $
    enter ! 𝓣.C 𝓣.Λ fn (w ∷ []) Post $ alloc_all ! (λ l.
    let Ev = env fn.locals l in
    let good = pair_fits R Z LZ ghosts m o h fits in
    pass_all ! refl (good, tt) $
    sets ! (of_opd ! (get_in ! (fld ! refl (stop !)) (sub ! 0 refl (whole !)))) refl (tt, tt) $
    sets ! (of_opd ! (get_in ! (fld ! refl (stop !)) (sub ! 1 refl (whole !)))) refl fits $
    sets ! (bin ! (get ! refl) (lit ! tt) (tests_null (block_ptr m o) test)) refl (tt, tt) $
    first ! $ branches ! (get ! refl)
    (λ wrong. absurd wrong)
    (λ _.
    let some : Val = live 1 (vcons w vnil) in
    let fits_some : Good (layout Out) some = (and_tt _ good.0, (record { fits = lit< tt }, (good.1, tt))) in
    let made : To.Denot = record { ptr = block_ptr m o; alloc = a; content = x } in
    sets ! (agg ! (and_then ! (get ! refl) (and_then ! (get ! refl) (no_more !)))) refl good $
    sets_last ! (agg ! (and_then ! (lit ! tt) (and_then ! (get ! refl) (no_more !)))) refl fits_some $
    exec ! 𝓣.C 𝓣.Λ Ev (after 4 fn.body) (at_ret Ev Post) $
    sets ! (of_opd ! (get ! refl)) refl fits_some $
    close_raw R Z LZ ghosts ! m o h a x $
    use1 𝓛 (‵ (Out.own_val (Some made) (some ∷ []))) (Some-of 𝓛 To made w) $
    use0 𝓛 (raw (fact 𝓤 (d.content ≡ Some x))) (fact_i 𝓤 (d.content ≡ Some x) (emp 𝓤) is_held) $ nothing ! $ nothing ! $ fjoin ! $
    returns ! (look_at ! 0 refl) $ free_all ! refl $ keep ! (4 ∷ 0 ∷ 2 ∷ 1 ∷ []) $
    by ! (leaves 𝓛 En taken c z some (Some made) (tt, tt) (tt, tt)))))))
