use Rattle.std.proofs.Common.{◌≡◌, ◌+◌, ℕ, ◌<◌, List, get_or, ◌++◌, take, sym, ap, ◌∙◌, subst, arith}
use Rattle.std.specs.Prelude.{Some}
use Rattle.std.proofs.lemmas.List.{append-nil, get_or-drop}
use Rattle.journal_frames.specs.Frames.{frame_at}
use Rattle.journal_frames.proofs.OneFrame.{behind_shorter}
use Rattle.journal_frames.proofs.Cuts.{next_place, whole_none, whole_step}
use Rattle.journal_frames.proofs.frames.whole_length.Goals as goal

pub frames-preserved : goal.frames-preserved
frames-preserved c =
    let rest = c.frames.rest.now in
    let bytes : (i : ℕ) → get_or rest i 0 < 256 =
    λ i. subst (λ (x : List ℕ). get_or x i 0 < 256) (sym c.frames.invariant.rest)
    (subst (λ (v : ℕ). v < 256) (sym (get_or-drop c.frames.at c.args.octets.now i 0)) (let fits : get_or c.args.octets.now (c.frames.at + i) 0 < 256 = omega (arith, c.type_inv.octets (c.frames.at + i)) in fits)) in
    let step : frame_at rest ≡ Some (c.in-Some.message.now, c.in-Some.behind.now) = sym c.in-Some.ensures in
    let parts = whole_step rest c.in-Some.message.now c.in-Some.behind.now bytes step in
    let next = next_place c.args.octets.now rest c.in-Some.message.now c.in-Some.behind.now c.frames.at c.frames.invariant.rest c.frames.invariant.inside c.frames.invariant.whole parts.0 parts.1 in
    record { rest = next.0; inside = next.1; whole = next.2 }

pub returns-in-None-clause-front : goal.returns-in-None-clause-front
returns-in-None-clause-front c =
    sym (append-nil (take c.frames.at c.args.octets.now))
    ∙ ap (λ x. take c.frames.at c.args.octets.now ++ x) (sym (whole_none c.frames.rest.now (sym c.in-None.ensures)))
    ∙ c.frames.invariant.whole

pub frames-smaller : goal.frames-smaller
frames-smaller c =
    behind_shorter c.frames.rest.now c.in-Some.message.now c.in-Some.behind.now (sym c.in-Some.ensures)
