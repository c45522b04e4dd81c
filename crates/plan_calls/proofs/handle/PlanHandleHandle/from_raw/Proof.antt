-- `from_raw` takes over the pointer, with what lies there.
use Rattle.call_handles.proofs.Walking.{List, [], ◌∷◌, ◌≡◌, refl, Val, WpFn, ftrue, SProp, emp, fact, fact_i, tables, !, by, fjoin, fsplit, keep, move, qed, raw, split, suffices, use0, ‵, ◌$◌, ◌∵◌, ◌⊛◌, agg, sub, whole, alloc_all, free_all, get, get_in, look_at, pass_all, sets, and_then, enter, fld, no_more, of_opd, returns, stop, yes, RattleType, owns, ptr_val, plain, types_at, nothing, Stays, stay_dropped, walk_of, Goes-dropped, leaves, proved_at, passes}
use Rattle.call_handles.proofs.RawBoxes.{pair}
use Rattle.call_handles.proofs.NullableBoxes.{open_pair, close_pair, pair_fits, pointer_fits}
use denote.Struct.Owning.{shape}
use Rattle.call_handles.specs.Holding.{owns_held}
use Rattle.call_handles.specs.contracts.nullable_box.NullableBox as nullable
use Rattle.plan_calls.specs.contracts.signing_plan.SigningPlan as signing_plan
use Rattle.plan_calls.specs.contracts.handle.PlanHandle as handle
use Rattle.plan_calls.specs.contracts.handle.PlanHandleHandle.from_raw.{ended, clauses}
use Rattle.plan_calls.specs.contracts.handle.PlanHandleHandle.from_raw.Key.{name as #self}
use Rattle.plan_calls.proofs.handle.PlanHandleHandle.from_raw.Statement.{statement}
use Rattle.plan_calls.proofs.handle.PlanHandleHandle.from_raw.Code as code

pub from_raw_spec : {M : Type 1} → statement M
from_raw_spec 𝓤 𝓛 𝓜 𝓡 wired =
    let R : RattleType = signing_plan.the_row in
    let From : RattleType = nullable.the_row R in
    let c = clauses 𝓛 𝓜.mem 𝓡.returns in
    let fn = code.function in
    let taken : Stays ended.signature.params ended.kept = (stay_dropped (plain (λ _. From)) yes, tt) in
    let 𝓣 = tables 𝓤 𝓛.H 𝓜 𝓡 𝓡.env in
    proved_at 𝓛 ended taken c 𝓜 𝓡 (Goes-dropped 𝓛 0 (plain (λ _. From)) yes (λ κs x f. refl), tt) #self fn (code.unfolded 𝓤 𝓛.H 𝓜 𝓡 wired) (λ z are.
    let r = z.0.3.0 in
    let own = owns_held R r.alloc r.ptr r.content in
    let Post : Val → SProp 𝓤 = (walk_of 𝓛 ended taken c).post z in
    let Run : List Val → SProp 𝓤 = λ ws. WpFn 𝓤 𝓛.H 𝓣.C 𝓣.Λ fn ws Post in
    qed 𝓛 ((‵ ftrue ⊛ ‵ (owns (types_at ended.signature.params z.0.0) z.0.3 z.0.4)) ∷ raw ((c z.0.0 z.0.3).requires z.1) ∷ []) ∵
    split ! $ move ! (1 ∷ []) $ fsplit ! $
    open_pair (shape (nullable.the_type R)) ! r.ptr r.alloc own z.0.4.0 (λ h is fits.
    let w : Val = pair (ptr_val r.ptr) h in
    suffices ! (Run (w ∷ [])) (passes 𝓤 Run z.0.4.0 w is) $
    enter ! 𝓣.C 𝓣.Λ fn (w ∷ []) Post $ alloc_all ! (λ l. pass_all ! refl (pair_fits (shape (nullable.the_type R)) r.ptr h fits, tt) $
    sets ! (of_opd ! (get_in ! (fld ! refl (stop !)) (sub ! 0 refl (whole !)))) refl (pointer_fits r.ptr) $
    sets ! (of_opd ! (get_in ! (fld ! refl (stop !)) (sub ! 1 refl (whole !)))) refl fits $
    -- the cast leaves the pointer as it is
    sets ! (of_opd ! (get ! refl)) refl (pointer_fits r.ptr) $
    sets ! (agg ! (and_then ! (get ! refl) (and_then ! (get ! refl) (no_more !)))) refl (pair_fits (shape handle.the_type) r.ptr h fits) $
    close_pair (shape handle.the_type) ! r.ptr h r.alloc own $
    use0 𝓛 (raw (fact 𝓤 (r.content ≡ r.content))) (fact_i 𝓤 (r.content ≡ r.content) (emp 𝓤) refl) $ nothing ! $ nothing ! $ fjoin ! $
    returns ! (look_at ! 0 refl) $ free_all ! refl $ keep ! (4 ∷ 0 ∷ 2 ∷ 1 ∷ []) $
    by ! (leaves 𝓛 ended taken c z w (record { ptr = r.ptr; alloc = r.alloc; held = r.content }) (tt, tt) (tt, tt)))))
