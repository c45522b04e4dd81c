use Rattle.std.proofs.Common.{◌≡◌, ℕ, ◌-◌, ◌+◌, suc, arith, true, false, map, refl, sym, ap, ◌∙◌}
use Rattle.std.specs.List.{list_any}
use Rattle.zone_proto.specs.Names.{name_eq}
use Rattle.zone_response.specs.Queries.{inquiry_of}
use Rattle.zone_response.specs.Sections.{sent_set, sent_sets}
use Rattle.zone_response.specs.Paths.{unless_answered, path}
use Rattle.zone_response.specs.Steps.{end_of, next_of}
use Rattle.zone_response.proofs.PathNames.{all_left, made_within, made_on}
use Rattle.zone_response.proofs.PathSteps.{begins, none_left, known, told, goes_on, comes_to}
use Rattle.zone_response.proofs.paths.walk.Goals as goal

pub loop-count-init : goal.loop-count-init
loop-count-init g c =
    let q = inquiry_of g.S.Signer.signature_of c.args.asked c.args.inner.now in
    record {
      left =
          begins q (sent_sets c.new.result) c.new-2.result.items 8 c.new-seen.result.items c.args.name.now c.in_ok-name.name
          (ap (map sent_set) c.new.ensures.items) c.new-2.ensures.items refl c.new-seen.ensures.items c.in_ok-name.ensures.copy.ok;
      counted = omega (arith, all_left q (sent_sets c.new.result) 8 c.new-seen.result.items c.args.name.now c.in_ok-name.name (ap (map sent_set) c.new.ensures.items) refl c.new-seen.ensures.items c.in_ok-name.ensures.copy.ok);
    }

-- a name that was searched isn't searched again
pub returns-then-has_name-clause-ok : goal.returns-then-has_name-clause-ok
returns-then-has_name-clause-ok g c =
    let q = inquiry_of g.S.Signer.signature_of c.args.asked c.args.inner.now in
    let l = c.loop-count in
    let j : ℕ = 8 - (l._count + 1) in
    let more : 8 - l._count ≡ suc j = omega (arith, c.loop-count-test.true) in
    let seen : list_any (name_eq l.name) l.seen.items ≡ true = ap (list_any (name_eq l.name)) (sym c.deref.ensures.value) ∙ sym c.has_name.ensures ∙ c.if-has_name.true in
    (λ i. record { answers = sent_sets (c.ended.ensures.answers i); made = (c.ended.ensures.made i).items; end = end_of (c.ended.ensures.end i) })
    ∙ known q (path q c.args.name.now) (sent_sets l.so_far.answers) l.so_far.made.items (8 - l._count) l.seen.items l.name l.invariant.left j more seen

pub loop-count-preserved : goal.loop-count-preserved
loop-count-preserved g c =
    let q = inquiry_of g.S.Signer.signature_of c.args.asked c.args.inner.now in
    let l = c.loop-count in
    let w = path q c.args.name.now in
    let j : ℕ = 8 - (l._count + 1) in
    let more : 8 - l._count ≡ suc j = omega (arith, c.loop-count-test.true) in
    let new : list_any (name_eq l.name) l.seen.items ≡ false = ap (list_any (name_eq l.name)) (sym c.deref.ensures.value) ∙ sym c.has_name.ensures ∙ c.if-has_name.false in
    let takes = c.in_ok-next.ensures.ok in
    let next =
    told q w (sent_sets l.so_far.answers) l.so_far.made.items (8 - l._count) l.seen.items l.name l.invariant.left j more new
    (sent_sets c.step.new.so_far.answers) c.step.new.so_far.made.items takes.answers takes.made
    (next_of c.in_ok-target.field-0) (next_of c.in_ok-next.next)
    (c.in_ok-target.ensures.ok ∙ ap (λ sets. unless_answered q.record_type (map sent_set sets) (next_of c.in_ok-next.next)) c.deref-in-loop-count.ensures.value) takes.next in
    record {
      left =
          goes_on q w (sent_sets l.so_far.answers) l.so_far.made.items (8 - l._count) l.seen.items l.name l.invariant.left j more new
          (sent_sets c.step.new.so_far.answers) c.step.new.so_far.made.items takes.answers takes.made c.in-On.target c.push.new.list.items (ap next_of (sym c.in-On.is) ∙ next) c.in_ok-push-in-On.ensures.ok;
      counted =
          made_on q (8 - l._count) j l.seen.items (sent_sets l.so_far.answers) l.name more new l.searches c.step.new.searches _ l.invariant.counted c.step.ensures.counted
          (sent_sets c.step.new.so_far.answers) c.push.new.list.items c.in-On.target (ap next_of (sym c.in-On.is) ∙ next) c.in_ok-push-in-On.ensures.ok takes.answers;
    }

pub returns-in-Ends-clause-ok : goal.returns-in-Ends-clause-ok
returns-in-Ends-clause-ok g c =
    let q = inquiry_of g.S.Signer.signature_of c.args.asked c.args.inner.now in
    let l = c.loop-count in
    let w = path q c.args.name.now in
    let j : ℕ = 8 - (l._count + 1) in
    let more : 8 - l._count ≡ suc j = omega (arith, c.loop-count-test.true) in
    let new : list_any (name_eq l.name) l.seen.items ≡ false = ap (list_any (name_eq l.name)) (sym c.deref.ensures.value) ∙ sym c.has_name.ensures ∙ c.if-has_name.false in
    let takes = c.in_ok-next.ensures.ok in
    let next =
    told q w (sent_sets l.so_far.answers) l.so_far.made.items (8 - l._count) l.seen.items l.name l.invariant.left j more new
    (sent_sets c.step.new.so_far.answers) c.step.new.so_far.made.items takes.answers takes.made
    (next_of c.in_ok-target.field-0) (next_of c.in_ok-next.next)
    (c.in_ok-target.ensures.ok ∙ ap (λ sets. unless_answered q.record_type (map sent_set sets) (next_of c.in_ok-next.next)) c.deref-in-loop-count.ensures.value) takes.next in
    (λ i. record { answers = sent_sets (c.ended-in-Ends.ensures.answers i); made = (c.ended-in-Ends.ensures.made i).items; end = end_of (c.ended-in-Ends.ensures.end i) })
    ∙ comes_to q w (sent_sets l.so_far.answers) l.so_far.made.items (8 - l._count) l.seen.items l.name l.invariant.left j more new
    (sent_sets c.step.new.so_far.answers) c.step.new.so_far.made.items takes.answers takes.made (end_of c.in-Ends.end) (ap next_of (sym c.in-Ends.is) ∙ next)

-- no name is left of the eight: what was found is the whole
pub returns-clause-ok : goal.returns-clause-ok
returns-clause-ok g c =
    let q = inquiry_of g.S.Signer.signature_of c.args.asked c.args.inner.now in
    let l = c.loop-count in
    (λ i. record { answers = sent_sets (c.ended-2.ensures.answers i); made = (c.ended-2.ensures.made i).items; end = end_of (c.ended-2.ensures.end i) })
    ∙ none_left q (path q c.args.name.now) (sent_sets l.so_far.answers) l.so_far.made.items (8 - l._count) l.seen.items l.name l.invariant.left
    (omega (arith, c.loop-count-test.false))

pub returns-in_err-next-clause-counted : goal.returns-in_err-next-clause-counted
returns-in_err-next-clause-counted g c =
    let q = inquiry_of g.S.Signer.signature_of c.args.asked c.args.inner.now in
    let l = c.loop-count in
    let j : ℕ = 8 - (l._count + 1) in
    let more : 8 - l._count ≡ suc j = omega (arith, c.loop-count-test.true) in
    let new : list_any (name_eq l.name) l.seen.items ≡ false = ap (list_any (name_eq l.name)) (sym c.deref.ensures.value) ∙ sym c.has_name.ensures ∙ c.if-has_name.false in
    made_within q (8 - l._count) j l.seen.items (sent_sets l.so_far.answers) l.name more new l.searches c.step.new.searches _ l.invariant.counted c.step.ensures.counted

pub returns-in_err-target-clause-counted : goal.returns-in_err-target-clause-counted
returns-in_err-target-clause-counted g c =
    let q = inquiry_of g.S.Signer.signature_of c.args.asked c.args.inner.now in
    let l = c.loop-count in
    let j : ℕ = 8 - (l._count + 1) in
    let more : 8 - l._count ≡ suc j = omega (arith, c.loop-count-test.true) in
    let new : list_any (name_eq l.name) l.seen.items ≡ false = ap (list_any (name_eq l.name)) (sym c.deref.ensures.value) ∙ sym c.has_name.ensures ∙ c.if-has_name.false in
    made_within q (8 - l._count) j l.seen.items (sent_sets l.so_far.answers) l.name more new l.searches c.step.new.searches _ l.invariant.counted c.step.ensures.counted

pub returns-in_err-push-in-On-clause-counted : goal.returns-in_err-push-in-On-clause-counted
returns-in_err-push-in-On-clause-counted g c =
    let q = inquiry_of g.S.Signer.signature_of c.args.asked c.args.inner.now in
    let l = c.loop-count in
    let j : ℕ = 8 - (l._count + 1) in
    let more : 8 - l._count ≡ suc j = omega (arith, c.loop-count-test.true) in
    let new : list_any (name_eq l.name) l.seen.items ≡ false = ap (list_any (name_eq l.name)) (sym c.deref.ensures.value) ∙ sym c.has_name.ensures ∙ c.if-has_name.false in
    made_within q (8 - l._count) j l.seen.items (sent_sets l.so_far.answers) l.name more new l.searches c.step.new.searches _ l.invariant.counted c.step.ensures.counted

pub returns-in-Ends-clause-counted : goal.returns-in-Ends-clause-counted
returns-in-Ends-clause-counted g c =
    let q = inquiry_of g.S.Signer.signature_of c.args.asked c.args.inner.now in
    let l = c.loop-count in
    let j : ℕ = 8 - (l._count + 1) in
    let more : 8 - l._count ≡ suc j = omega (arith, c.loop-count-test.true) in
    let new : list_any (name_eq l.name) l.seen.items ≡ false = ap (list_any (name_eq l.name)) (sym c.deref.ensures.value) ∙ sym c.has_name.ensures ∙ c.if-has_name.false in
    made_within q (8 - l._count) j l.seen.items (sent_sets l.so_far.answers) l.name more new l.searches c.step.new.searches _ l.invariant.counted c.step.ensures.counted
