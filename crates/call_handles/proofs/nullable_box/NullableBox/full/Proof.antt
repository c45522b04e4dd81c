-- `full` takes over the pointer of a raw box, with the block.
use Rattle.call_handles.proofs.Walking.{List, [], ◌∷◌, ◌≡◌, refl, Val, vptr, a_type, dcons, dnil, inst_fn, WpFn, flft, ftrue, SProp, emp, fact, fact_i, tables, !, by, fjoin, fsplit, keep, move, qed, raw, split, suffices, use0, ‵, ◌$◌, ◌∵◌, ◌⊛◌, agg, sub, whole, alloc_all, free_all, get, get_in, look_at, pass_all, sets, and_then, enter, fld, no_more, of_opd, returns, stop, no, bounded, param, RattleType, owns, block_ptr, plain, types_at, nothing, Stays, stay_dropped, walk_of, Goes-blank, ghosts, Some, leaves, proved_at, passes}
use Rattle.call_handles.proofs.RawBoxes.{pair, Raw, pair_fits, open_raw}
use Rattle.call_handles.proofs.NullableBoxes.{Z, LZ, block, close_pair}
use denote.Struct.Owning.{shape}
use Rattle.call_handles.specs.contracts.nullable_box.NullableBox as nullable
use Rattle.call_handles.specs.contracts.nullable_box.NullableBox.full.{ended, clauses}
use Rattle.call_handles.specs.contracts.nullable_box.NullableBox.full.Key.{name as #self}
use Rattle.call_handles.proofs.nullable_box.NullableBox.full.Statement.{statement}
use Rattle.call_handles.proofs.nullable_box.NullableBox.full.Code as code

pub full_spec : {M : Type 1} → statement M
full_spec 𝓤 𝓛 𝓜 𝓡 wired T L dx glue =
    -- the row of the value, and the code at its type
    let R : RattleType = param 0 T in
    let types = bounded (a_type ∷ []) (T, tt) (dcons dx dnil) in
    let fn = inst_fn types code.function in
    let En = ended T dx in
    let c = clauses T dx 𝓛 𝓜.mem 𝓡.returns in
    let From : RattleType = Raw R Z LZ ghosts in
    let taken : Stays En.signature.params En.kept = (stay_dropped (plain (λ _. From)) no, tt) in
    let 𝓣 = tables 𝓤 𝓛.H 𝓜 𝓡 𝓡.env in
    proved_at 𝓛 En taken c 𝓜 𝓡 (Goes-blank 𝓛 1 (plain (λ _. From)) no (λ κs x f. tt), tt) (#self types) fn (code.unfolded 𝓤 𝓛.H 𝓜 𝓡 wired (T, tt) dx) (λ z are.
    let r = z.0.3.0 in
    let Post : Val → SProp 𝓤 = (walk_of 𝓛 En taken c).post z in
    let Run : List Val → SProp 𝓤 = λ ws. WpFn 𝓤 𝓛.H 𝓣.C 𝓣.Λ fn ws Post in
    let tokens = ‵ (flft z.0.0.0 z.0.1.0) ⊛ ‵ ftrue in
    qed 𝓛 ((tokens ⊛ ‵ (owns (types_at En.signature.params z.0.0) z.0.3 z.0.4)) ∷ raw ((c z.0.0 z.0.3).requires z.1) ∷ []) ∵
    split ! $ move ! (1 ∷ []) $ fsplit ! $
    open_raw R Z LZ ghosts ! r z.0.4.0 (λ m o h is fits.
    let w : Val = pair (vptr m o) h in
    let good = pair_fits R Z LZ ghosts m o h fits in
    suffices ! (Run (w ∷ [])) (passes 𝓤 Run z.0.4.0 w is) $
    enter ! 𝓣.C 𝓣.Λ fn (w ∷ []) Post $ alloc_all ! (λ l. pass_all ! refl (good, tt) $
    sets ! (of_opd ! (get_in ! (fld ! refl (stop !)) (sub ! 0 refl (whole !)))) refl (tt, tt) $
    sets ! (of_opd ! (get_in ! (fld ! refl (stop !)) (sub ! 1 refl (whole !)))) refl fits $
    sets ! (agg ! (and_then ! (get ! refl) (and_then ! (get ! refl) (no_more !)))) refl good $
    close_pair (shape (nullable.the_type R)) ! (block_ptr m o) h r.alloc (block R r.alloc (block_ptr m o) r.content) $
    use0 𝓛 (raw (fact 𝓤 (Some r.content ≡ Some r.content))) (fact_i 𝓤 (Some r.content ≡ Some r.content) (emp 𝓤) refl) $ nothing ! $ nothing ! $ fjoin ! $
    returns ! (look_at ! 0 refl) $ free_all ! refl $ keep ! (4 ∷ 0 ∷ 2 ∷ 1 ∷ []) $
    by ! (leaves 𝓛 En taken c z w (record { ptr = block_ptr m o; alloc = r.alloc; content = Some r.content }) (tt, tt) (tt, tt)))))
