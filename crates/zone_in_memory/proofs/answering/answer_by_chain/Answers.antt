use Rattle.std.proofs.Common.{◌≡◌, ◌==◌, arith, length, ap, sym, ◌∙◌, [], ◌∷◌, subst}
use Rattle.std.specs.Prelude.{option_copied}
use Rattle.std.specs.declared.alloc.Global.{Global}
use Rattle.std.specs.declared.vec.Vec.{Vec}
use Rattle.zone_proto.specs.Sets.{RRset}
use Rattle.zone_lookup.specs.Flattening.{last_set, beside}
use Rattle.zone_lookup.specs.Replies.{AreFrom}
use Rattle.zone_lookup.proofs.Chasing.{no_value}
use Rattle.zone_in_memory.proofs.AnswerSections.{has_many, nothing_before, nothing_beside, stands_first, no_length}
use Rattle.zone_in_memory.proofs.answering.answer_by_chain.Goals as goal
use Rattle.zone_in_memory.proofs.answering.answer_by_chain.Goals.{in-Some+in_ok-more+then-stands_for_addresses+then-not-is_empty+in_ok-clone+in_ok-put_first, in-Some+in_ok-more+else-stands_for_addresses, else-stands_for_addresses-via-then-stands_for_addresses+else-not-is_empty, else-stands_for_addresses-via-else-stands_for_addresses, in_default}

pub returns-clause-answer : goal.returns-clause-answer
returns-clause-answer g c =
    let m = c.args.zone.now.records in
    let signed = c.args.lookup_options.dnssec_ok in
    let n = c.args.name.now in
    let t = c.args.record_type.0 in
    let chain = c.args.chain.items in
    let section = c.with_additionals.ensures in
    let value = sym (ap last_set c.deref.ensures.value) ∙ sym c.last.ensures.value in
    elim c.match-last.branch [
      | in-Some+in_ok-more+then-stands_for_addresses+then-not-is_empty+in_ok-clone+in_ok-put_first w ↦
          let more = w.in_ok-more.more.items in
          let s = w.in-Some.last.now in
          let last = value ∙ ap option_copied w.in-Some.is in
          let stands = sym w.stands_for_addresses.ensures ∙ w.if-stands_for_addresses.true in
          let len : w.in_ok-more.more.len ≡ length more = omega (arith, w.in_ok-more.more.ok) in
          let some = sym (ap (λ k. k == 0) len) ∙ sym w.is_empty.ensures ∙ w.if-not-is_empty.true in (
            more,
            subst (λ o. AreFrom m signed n t o more) (sym last) w.in_ok-more.ensures.more,
            has_many c.args.lookup_options chain (beside t (last_set chain) more) c.match-last.more.items c.many-answers.result section.0 c.with_additionals.result section.1 c.many-answers.ensures.kept
                (ap (λ o. beside t o more) last ∙ stands_first (λ x. []) t s more stands some
                ∙ sym (ap (λ (v : Vec RRset Global). v.items) w.more-is ∙ w.in_ok-put_first.ensures.ok ∙ ap (λ (x : RRset). x ∷ more) w.in_ok-clone.ensures.ok))
                section.2,
          )
      | in-Some+in_ok-more+else-stands_for_addresses w ↦
          let more = w.in_ok-more.more.items in
          let s = w.in-Some.last.now in
          let len : w.in_ok-more.more.len ≡ length more = omega (arith, w.in_ok-more.more.ok) in
          let last = value ∙ ap option_copied w.in-Some.is in (
            more,
            subst (λ o. AreFrom m signed n t o more) (sym last) w.in_ok-more.ensures.more,
            has_many c.args.lookup_options chain (beside t (last_set chain) more) c.match-last.more.items c.many-answers.result section.0 c.with_additionals.result section.1 c.many-answers.ensures.kept
                (ap (λ o. beside t o more) last
                ∙ elim w.else-stands_for_addresses.branch [
                  | else-stands_for_addresses-via-then-stands_for_addresses+else-not-is_empty w' ↦ nothing_beside (λ x. []) t s more (no_length more (sym (ap (λ k. k == 0) len) ∙ sym w'.is_empty.ensures ∙ w'.if-not-is_empty.false))
                  | else-stands_for_addresses-via-else-stands_for_addresses w' ↦ nothing_before (λ x. []) t s more (sym w.stands_for_addresses.ensures ∙ w'.if-stands_for_addresses.false)
                ]
                ∙ sym (ap (λ (v : Vec RRset Global). v.items) w.more-is))
                section.2,
          )
      | in_default w ↦
          let more = c.new-more.result.items in
          let none = value ∙ ap option_copied (no_value c.last.result w.in_default.not-Some) in (
            more,
            subst (λ o. AreFrom m signed n t o more) (sym none) c.new-more.ensures.items,
            has_many c.args.lookup_options chain (beside t (last_set chain) more) c.match-last.more.items c.many-answers.result section.0 c.with_additionals.result section.1 c.many-answers.ensures.kept
                (ap (λ o. beside t o more) none ∙ sym (ap (λ (v : Vec RRset Global). v.items) w.more-is))
                section.2,
          )
    ]
