use Rattle.std.proofs.Common.{◌∷◌, [], ◌++◌, ◌+◌, ◌-◌, suc, Some, drop, take, refl, sym, ap, ◌∙◌, append_assoc, arith}
use Rattle.std.specs.Prelude.{option_map}
use Rattle.std.proofs.lemmas.List.{take_rest, nil_from_length}
use Rattle.message_reading.proofs.Passing.{one_less}
use Rattle.message_reading.proofs.ReadingNames.{read_short, unread, unwrapped, way_empty, way_end, way_short, way_long, way_label, way_reserved, way_astray, way_beyond, way_pointer, way_out, way_at}
use Rattle.message_reading.proofs.name_octets.name_octets.Goals as goal
use Rattle.message_reading.proofs.name_octets.name_octets.Goals.{then-first-lt64+else-behind-count+else-len-count-gt-WIRE_FORM_LIMIT+in_ok-push-2+in_ok-extend_from_slice, else-first-lt64+else-first-lt192+in-Some-lead+else-target-message}

pub returns-in_default : goal.returns-in_default
returns-in_default c =
    unread c.args.message.now c.args.at c.args.octets.now
    (way_empty c.args.message.now _ (256 - c.loop.counter) c.loop.before c.loop.text.items c.loop.rest.now _ (nil_from_length _ c.in_default.ensures.cases)
    c.loop.invariant)

pub returns-then-first-eq0 : goal.returns-then-first-eq0
returns-then-first-eq0 c =
    let m = c.args.message.now in
    let behind = c.in-Some.behind.now in
    let e = c.in-Some.ensures.cases.0 ∙ ap (λ b. b ∷ behind) c.if-first-eq0.true in
    let way = way_at m _ _ (suc (256 - (c.loop.counter + 1))) _ _ _ _ _ _ _ _ (sym (one_less 256 c.loop.counter c.loop-test.true)) refl refl refl refl c.loop.invariant in
    let s = way_end m _ _ c.loop.before c.loop.text.items c.loop.rest.now behind _ e way in
    let after = unwrapped c.loop.after c.in-Some.behind ∙ ap (λ r. r.now) (sym c.unwrap_or.ensures) in (
      s.0,
      sym (read_short m c.args.at c.args.octets.now) ∙ s.1 ∙ ap (λ r. Some (s.0, r)) after,
      c.in_ok-push.ensures.ok ∙ s.2,
      s.3,
    )

pub returns-then-behind-count : goal.returns-then-behind-count
returns-then-behind-count c =
    let m = c.args.message.now in
    let way = way_at m _ _ (suc (256 - (c.loop.counter + 1))) _ _ _ _ _ _ _ _ (sym (one_less 256 c.loop.counter c.loop-test.true)) refl refl refl refl c.loop.invariant in
    unread m c.args.at c.args.octets.now
    (way_short m _ _ c.loop.before c.in-Some.first.now c.loop.text.items c.loop.rest.now c.in-Some.behind.now _ c.in-Some.ensures.cases.0
    (omega (arith, c.if-first-eq0.false)) c.if-first-lt64.true (omega (arith, c.if-behind-count.true, c.from-count.ensures)) way)

pub returns-then-len-count-gt-WIRE_FORM_LIMIT : goal.returns-then-len-count-gt-WIRE_FORM_LIMIT
returns-then-len-count-gt-WIRE_FORM_LIMIT c =
    let m = c.args.message.now in
    let way = way_at m _ _ (suc (256 - (c.loop.counter + 1))) _ _ _ _ _ _ _ _ (sym (one_less 256 c.loop.counter c.loop-test.true)) refl refl refl refl c.loop.invariant in
    sym (read_short m c.args.at c.args.octets.now)
    ∙ way_long m _ _ c.loop.before c.in-Some.first.now c.loop.text.items c.loop.rest.now c.in-Some.behind.now _ c.in-Some.ensures.cases.0
    (omega (arith, c.if-first-eq0.false)) c.if-first-lt64.true (omega (arith, c.if-behind-count.false, c.from-count.ensures))
    (omega (arith, c.if-len-count-gt-WIRE_FORM_LIMIT.true, c.len.ensures.value, c.from-count.ensures)) way

pub returns-then-first-lt192 : goal.returns-then-first-lt192
returns-then-first-lt192 c =
    let m = c.args.message.now in
    let way = way_at m _ _ (suc (256 - (c.loop.counter + 1))) _ _ _ _ _ _ _ _ (sym (one_less 256 c.loop.counter c.loop-test.true)) refl refl refl refl c.loop.invariant in
    unread m c.args.at c.args.octets.now
    (way_reserved m _ _ c.loop.before c.in-Some.first.now c.loop.text.items c.loop.rest.now c.in-Some.behind.now _ c.in-Some.ensures.cases.0
    c.if-first-lt64.false c.if-first-lt192.true way)

pub returns-in_default-lead : goal.returns-in_default-lead
returns-in_default-lead c =
    let m = c.args.message.now in
    let way = way_at m _ _ (suc (256 - (c.loop.counter + 1))) _ _ _ _ _ _ _ _ (sym (one_less 256 c.loop.counter c.loop-test.true)) refl refl refl refl c.loop.invariant in
    unread m c.args.at c.args.octets.now
    (way_astray m _ _ c.loop.before c.in-Some.first.now c.loop.text.items c.loop.rest.now c.in-Some.behind.now _ c.in-Some.ensures.cases.0
    c.if-first-lt192.false (sym c.in_default-lead.ensures) way)

pub returns-then-target-message : goal.returns-then-target-message
returns-then-target-message c =
    let m = c.args.message.now in
    let way = way_at m _ _ (suc (256 - (c.loop.counter + 1))) _ _ _ _ _ _ _ _ (sym (one_less 256 c.loop.counter c.loop-test.true)) refl refl refl refl c.loop.invariant in
    unread m c.args.at c.args.octets.now
    (way_beyond m _ _ c.loop.before c.in-Some.first.now c.loop.text.items c.loop.rest.now c.in-Some.behind.now _ c.in-Some-lead.target c.in-Some-lead.next.now
    c.in-Some.ensures.cases.0 c.if-first-lt192.false (sym c.in-Some-lead.ensures) c.if-target-message.true way)

pub loop-preserved : goal.loop-preserved
loop-preserved c =
    let m = c.args.message.now in
    let b = c.in-Some.first.now in
    let behind = c.in-Some.behind.now in
    let text = c.loop.text.items in
    let way = way_at m _ _ (suc (256 - (c.loop.counter + 1))) _ _ _ _ _ _ _ _ (sym (one_less 256 c.loop.counter c.loop-test.true)) refl refl refl refl c.loop.invariant in
    elim c.if-first-lt64.branch [
      | then-first-lt64+else-behind-count+else-len-count-gt-WIRE_FORM_LIMIT+in_ok-push-2+in_ok-extend_from_slice w ↦
          let label = w.split_at.result.0.now in
          let front = w.split_at.ensures.front ∙ ap (λ n. take n behind) w.from-count.ensures in
          let back = w.split_at.ensures.back ∙ ap (λ n. drop n behind) w.from-count.ensures in
          let pushed = w.in_ok-extend_from_slice.ensures.ok ∙ ap (λ s. s ++ label) w.in_ok-push-2.ensures.ok ∙ append_assoc text (b ∷ []) label
          ∙ ap (λ s. text ++ b ∷ s) front in
          way_at m _ _ _ _ _ _ _ _ _ _ _ refl (sym w.before-is) (sym (ap (λ v. v.items) w.text-is ∙ pushed)) (sym (ap (λ s. s.now) w.rest-is ∙ back))
          (ap (option_map (λ s. s.now)) (sym w.after-is))
          (way_label m _ _ c.loop.before b text c.loop.rest.now behind _ c.in-Some.ensures.cases.0 (omega (arith, c.if-first-eq0.false)) w.if-first-lt64.true
          (omega (arith, w.if-behind-count.false, w.from-count.ensures))
          (omega (arith, w.if-len-count-gt-WIRE_FORM_LIMIT.false, w.len.ensures.value, w.from-count.ensures)) way)
      | else-first-lt64+else-first-lt192+in-Some-lead+else-target-message w ↦
          let p = w.in-Some-lead.target in
          let next = w.in-Some-lead.next in
          let after = unwrapped c.loop.after next ∙ ap (λ r. r.now) (sym w.unwrap_or-else-first-lt64.ensures) in
          way_at m _ _ _ _ _ _ _ _ _ _ _ refl (sym w.before-is) (sym (ap (λ v. v.items) w.text-is)) (sym (take_rest m p) ∙ ap (λ s. s.now) (sym w.rest-is))
          (ap (λ s. Some s) after ∙ ap (option_map (λ s. s.now)) (sym w.after-is))
          (way_pointer m _ _ c.loop.before b text c.loop.rest.now behind _ p next.now c.in-Some.ensures.cases.0 w.if-first-lt192.false
          (sym w.in-Some-lead.ensures) way)
    ]

pub returns : goal.returns
returns c =
    let m = c.args.message.now in
    unread m c.args.at c.args.octets.now
    (way_out m _ c.loop.before c.loop.text.items c.loop.rest.now _
    (way_at m _ (256 - c.loop.counter) 0 _ _ _ _ _ _ _ _ (omega (arith, c.loop-test.false)) refl refl refl refl c.loop.invariant))
