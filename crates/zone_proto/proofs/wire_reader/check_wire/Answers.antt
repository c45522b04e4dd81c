use Rattle.std.proofs.Common.{◌≡◌, ◌∷◌, ◌++◌, sym, ◌∙◌, arith, refl, take-append-drop, subst, Some, None, cond}
use Rattle.std.specs.Prelude.{nat_lt}
use Rattle.std.proofs.lemmas.List.{nil_from_length}
use Rattle.zone_proto.specs.declared.error.ProtoError.TheVariants.{LabelTooLong}
use Rattle.zone_proto.specs.Faults.{first_of_faults}
use Rattle.zone_proto.proofs.Names.WireLabels.{IsReadUpTo, ends_early, bad_count, label_read, faulty, too_long, is_wire_form, is_nil, not_nil}
use Rattle.zone_proto.proofs.wire_reader.check_wire.Goals as goal

pub loop-first-preserved : goal.loop-first-preserved
loop-first-preserved c =
    let label = c.split_at.result.0.now in
    let next = c.split_at.result.1.now in
    let after = c.in-Some.after.now in
    let count = c.from-count.result in
    let parts : after ≡ label ++ next =
    sym (take-append-drop count after) ∙ λ i. sym c.split_at.ensures.front i ++ sym c.split_at.ensures.back i in
    subst (IsReadUpTo c.args.octets.now next) (sym (c.first_fault-fault.ensures.first
    ∙ λ i. first_of_faults c.loop-first.fault (cond (nat_lt 63 (c.split_at.ensures.front_len i)) (Some LabelTooLong) None)))
    (label_read c.args.octets.now c.loop-first.rest.now c.loop-first.fault count label next c.loop-first.invariant
    (c.in-Some.ensures.cases.0 ∙ λ i. sym c.from-count.ensures i ∷ parts i) (omega (arith, c.if-count-eq0.false)) c.split_at.ensures.front_len
    c.first_fault-fault.ensures.octets)

pub returns-then-not-is_empty-clause-refusal : goal.returns-then-not-is_empty-clause-refusal
returns-then-not-is_empty-clause-refusal c =
    bad_count c.args.octets.now c.loop-first.rest.now c.loop-first.fault c.in-Some.first.now c.in-Some.after.now c.loop-first.invariant c.in-Some.ensures.cases.0
    (λ z. not_nil c.is_empty.result c.in-Some.after.now c.is_empty.ensures c.if-not-is_empty.true)
    (λ n. absurd (n (sym c.from-count.ensures ∙ c.if-count-eq0.true)))

pub returns-in-Some-fault-clause-refusal : goal.returns-in-Some-fault-clause-refusal
returns-in-Some-fault-clause-refusal c =
    let none = is_nil c.is_empty.result c.in-Some.after.now c.is_empty.ensures c.if-not-is_empty.false in
    faulty c.args.octets.now c.loop-first.rest.now c.loop-first.fault c.in-Some-fault.fault c.loop-first.invariant
    (c.in-Some.ensures.cases.0 ∙ λ i. (sym c.from-count.ensures ∙ c.if-count-eq0.true) i ∷ none i) c.in-Some-fault.is

pub returns-in-None-clause-refusal : goal.returns-in-None-clause-refusal
returns-in-None-clause-refusal c =
    let none = is_nil c.is_empty.result c.in-Some.after.now c.is_empty.ensures c.if-not-is_empty.false in
    too_long c.args.octets.now c.loop-first.rest.now c.loop-first.fault c.loop-first.invariant
    (c.in-Some.ensures.cases.0 ∙ λ i. (sym c.from-count.ensures ∙ c.if-count-eq0.true) i ∷ none i) c.in-None.is c.if-octets-gt-LONGEST_NAME.true

pub returns-in-None-2-clause-ok : goal.returns-in-None-2-clause-ok
returns-in-None-2-clause-ok c =
    let none = is_nil c.is_empty.result c.in-Some.after.now c.is_empty.ensures c.if-not-is_empty.false in
    is_wire_form c.args.octets.now c.loop-first.rest.now _ c.loop-first.fault c.loop-first.invariant
    (c.in-Some.ensures.cases.0 ∙ λ i. (sym c.from-count.ensures ∙ c.if-count-eq0.true) i ∷ none i) c.in-None-2.is c.if-octets-gt-LONGEST_NAME.false refl

pub returns-then-after-count-clause-refusal : goal.returns-then-after-count-clause-refusal
returns-then-after-count-clause-refusal c =
    bad_count c.args.octets.now c.loop-first.rest.now c.loop-first.fault c.in-Some.first.now c.in-Some.after.now c.loop-first.invariant c.in-Some.ensures.cases.0
    (λ z. absurd (c.if-count-eq0.false (c.from-count.ensures ∙ z))) (λ n. omega (arith, c.if-after-count.true, c.from-count.ensures))

pub returns-clause-refusal : goal.returns-clause-refusal
returns-clause-refusal c =
    ends_early c.args.octets.now c.loop-first.rest.now c.loop-first.fault c.loop-first.invariant (nil_from_length _ c.in_default.ensures.cases)
