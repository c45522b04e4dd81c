-- `empty` pairs null with the allocator: nothing is held there.
use Rattle.call_handles.proofs.Walking.{List, [], ◌∷◌, ◌≡◌, refl, lit<, Val, a_type, dcons, dnil, inst_fn, WpFn, flft, ftrue, SProp, emp, fact, fact_i, tables, !, by, fjoin, fsplit, keep, move, qed, raw, rewrite, split, suffices, use0, ‵, ◌$◌, ◌∵◌, ◌⊛◌, agg, alloc_all, free_all, get, look_at, pass_all, sets, and_then, enter, lit, no_more, of_opd, returns, yes, bounded, layout, param, RattleType, owns, null_ptr, ptr_val, plain, types_at, nothing, Stays, stay_dropped, walk_of, Goes-dropped, Good, one, None, leaves, proved_at, and_tt, passes}
use Rattle.call_handles.proofs.RawBoxes.{pair}
use Rattle.call_handles.proofs.NullableBoxes.{Z, LZ, close_pair}
use denote.Struct.Owning.{shape}
use Rattle.call_handles.specs.contracts.nullable_box.NullableBox as nullable
use Rattle.call_handles.specs.contracts.nullable_box.NullableBox.empty.{ended, clauses}
use Rattle.call_handles.specs.contracts.nullable_box.NullableBox.empty.Key.{name as #self}
use Rattle.call_handles.proofs.nullable_box.NullableBox.empty.Statement.{statement}
use Rattle.call_handles.proofs.nullable_box.NullableBox.empty.Code as code

pub empty_spec : {M : Type 1} → statement M
empty_spec 𝓤 𝓛 𝓜 𝓡 wired T L dx glue =
    -- the row of the value, and the code at its type
    let R : RattleType = param 0 T in
    let types = bounded (a_type ∷ []) (T, tt) (dcons dx dnil) in
    let fn = inst_fn types code.function in
    let En = ended T dx in
    let c = clauses T dx 𝓛 𝓜.mem 𝓡.returns in
    let taken : Stays En.signature.params En.kept = (stay_dropped (plain (λ _. Z)) yes, tt) in
    let 𝓣 = tables 𝓤 𝓛.H 𝓜 𝓡 𝓡.env in
    proved_at 𝓛 En taken c 𝓜 𝓡 (Goes-dropped 𝓛 1 (plain (λ _. Z)) yes (λ κs x f. refl), tt) (#self types) fn (code.unfolded 𝓤 𝓛.H 𝓜 𝓡 wired (T, tt) dx) (λ z are.
    let a = z.0.3.0 in
    let Post : Val → SProp 𝓤 = (walk_of 𝓛 En taken c).post z in
    let Run : List Val → SProp 𝓤 = λ ws. WpFn 𝓤 𝓛.H 𝓣.C 𝓣.Λ fn ws Post in
    let tokens = ‵ (flft z.0.0.0 z.0.1.0) ⊛ ‵ ftrue in
    -- the allocator is one word, and the result that word beside null
    let h = one (layout Z) z.0.4.0 ((LZ.lawful 𝓛).typed a z.0.4.0 are.0) in
    let w : Val = pair (ptr_val null_ptr) h.0 in
    let good : Good (layout (nullable.the_row R)) w = (and_tt _ h.2.0, (record { fits = lit< tt }, (h.2.1, tt))) in
    qed 𝓛 ((tokens ⊛ ‵ (owns (types_at En.signature.params z.0.0) z.0.3 z.0.4)) ∷ raw ((c z.0.0 z.0.3).requires z.1) ∷ []) ∵
    split ! $ move ! (1 ∷ []) $ fsplit ! $ rewrite ! 0 (λ (us : List Val). ‵ (Z.own_val a us)) h.1 refl $
    suffices ! (Run (h.0 ∷ [])) (passes 𝓤 Run z.0.4.0 h.0 h.1) $
    enter ! 𝓣.C 𝓣.Λ fn (h.0 ∷ []) Post $ alloc_all ! (λ l. pass_all ! refl (h.2, tt) $
    sets ! (of_opd ! (lit ! tt)) refl (tt, record { fits = lit< tt }) $
    sets ! (agg ! (and_then ! (get ! refl) (and_then ! (get ! refl) (no_more !)))) refl good $
    nothing ! $ close_pair (shape (nullable.the_type R)) ! null_ptr h.0 a ftrue $
    use0 𝓛 (raw (fact 𝓤 (None ≡ None))) (fact_i 𝓤 (None ≡ None) (emp 𝓤) refl) $ nothing ! $ nothing ! $ fjoin ! $
    returns ! (look_at ! 0 refl) $ free_all ! refl $ keep ! (4 ∷ 0 ∷ 2 ∷ 1 ∷ []) $
    by ! (leaves 𝓛 En taken c z w (record { ptr = null_ptr; alloc = a; content = None }) (tt, tt) (tt, tt))))
