use Rattle.std.proofs.Common.{◌∷◌, ◌-◌, refl, sym, ap, subst, ◌∙◌, arith}
use Rattle.std.proofs.lemmas.List.{take_rest}
use Rattle.message_writing.proofs.KnownLabels.{IsBeside, beside_none, beside_end, beside_label, beside_pointer, beside_at, is_next}
use Rattle.message_writing.proofs.NameSteps.{leads}
use Rattle.message_writing.proofs.known_names.stands_at.Goals as goal
use Rattle.message_writing.proofs.known_names.stands_at.Goals.{then-first-lt64+in-Some-next-2+in-Some-after_label, else-first-lt64+else-first-lt192+in-Some-lead}

pub loop-init : goal.loop-init
loop-init c =
    subst (λ s. IsBeside c.args.out.now c.args.offset c.args.labels 127 c.args.offset s c.args.labels) (sym (take_rest c.args.out.now c.args.offset))
    (beside_none c.args.out.now c.args.offset c.args.labels c.if-offset-out.false)

pub returns-in-None : goal.returns-in-None
returns-in-None c =
    let e = c.in-Some.ensures.cases.0 ∙ ap (λ b. b ∷ c.in-Some.rest.now) c.if-first-eq0.true in
    λ _. beside_end c.args.out.now c.args.offset c.args.labels (126 - c.loop.counter) c.loop.before c.in-Some.rest.now
    (beside_at c.args.out.now c.args.offset c.args.labels _ _ _ _ _ _ _ _ (omega arith) refl e c.in-None.ensures.steps.0 c.loop.invariant)

pub loop-preserved : goal.loop-preserved
loop-preserved c =
    let out = c.args.out.now in
    let offset = c.args.offset in
    let whole = c.args.labels in
    let first = c.in-Some.first.now in
    let rest = c.in-Some.rest.now in
    let here = c.loop.before in
    let k = 126 - c.loop.counter in
    elim c.if-first-lt64.branch [
      | then-first-lt64+in-Some-next-2+in-Some-after_label w ↦
          let l = w.in-Some-next-2.label.now in
          let after = w.in-Some-after_label.after.now in
          let left = w.next-then-first-lt64.new.self in
          let n = is_next first rest c.loop.octets.now l after c.in-Some.ensures.cases.0
          w.in-Some-after_label.ensures c.if-first-eq0.false w.if-first-lt64.true in
          let b = beside_at out offset whole _ _ _ _ _ _ _ _ (omega arith) refl w.in-Some-after_label.ensures w.in-Some-next-2.ensures.steps c.loop.invariant in
          beside_at out offset whole _ _ _ _ _ _ _ _ (omega arith) (sym w.before-is) (ap (λ s. s.now) (sym w.octets-is)) (sym w.left-is)
          (beside_label out offset whole k here l after left n.some n.short b)
      | else-first-lt64+else-first-lt192+in-Some-lead w ↦
          let p = w.in-Some-lead.target in
          let led = sym w.in-Some-lead.ensures in
          let back = (leads here first rest _ led).back in
          let b = beside_at out offset whole _ _ _ _ _ _ _ _ (omega arith) refl c.in-Some.ensures.cases.0 refl c.loop.invariant in
          beside_at out offset whole _ _ _ _ _ _ _ _ (omega arith) (sym w.before-is) (sym (take_rest out p) ∙ ap (λ s. s.now) (sym w.octets-is)) (sym w.left-is)
          (beside_pointer out offset whole k here first rest c.loop.left p _ (omega arith) led (omega (arith, back, c.loop.invariant.inside)) b)
    ]
