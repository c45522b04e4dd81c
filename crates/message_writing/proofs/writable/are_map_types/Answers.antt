use Rattle.std.proofs.Common.{ℕ, ◌+◌, ◌<◌, get_or, arith, sym, subst, ◌∙◌}
use Rattle.std.proofs.lemmas.List.{get_or_default}
use Rattle.zone_proto.specs.declared.record_type.RecordType.{RecordType}
use Rattle.message_writing.proofs.MapChecks.{AreChecked, checked_none, checked_more, checked_end, all_short, not_ascending, not_kept}
use Rattle.message_writing.proofs.writable.are_map_types.Goals as goal

-- the type that the loop reads if there is none
none : RecordType
none = record { 0 = 0 }

pub loop-record_type-init : goal.loop-record_type-init
loop-record_type-init c = checked_none c.args.types.now

pub returns-then-place-lowest-clause-value : goal.returns-then-place-lowest-clause-value
unfolding none
returns-then-place-lowest-clause-value c =
    let ts = c.args.types.now in
    let i = c.loop-record_type.record_type-index in
    let t = get_or ts i none in
    not_ascending ts i c.loop-record_type.lowest t c.loop-record_type-test.true (get_or_default ts i none t c.loop-record_type-test.true)
    (omega (arith, c.if-place-lowest.true, c.from-place.ensures)) c.loop-record_type.invariant

pub returns-then-is_passed_over-clause-value : goal.returns-then-is_passed_over-clause-value
unfolding none
returns-then-is_passed_over-clause-value c =
    let ts = c.args.types.now in
    let i = c.loop-record_type.record_type-index in
    let t = get_or ts i none in
    not_kept ts i c.loop-record_type.lowest t c.loop-record_type-test.true (get_or_default ts i none t c.loop-record_type-test.true)
    (sym c.is_passed_over.ensures ∙ c.if-is_passed_over.true) c.loop-record_type.invariant

pub loop-record_type-preserved : goal.loop-record_type-preserved
unfolding none
loop-record_type-preserved c =
    let ts = c.args.types.now in
    let i = c.loop-record_type.record_type-index in
    let t = get_or ts i none in
    let short : t.0 < 65536 = omega arith in
    subst (λ (n : ℕ). AreChecked ts (i + 1) (n + 1)) (sym c.from-place.ensures)
    (checked_more ts i c.loop-record_type.lowest t c.loop-record_type-test.true (get_or_default ts i none t c.loop-record_type-test.true)
    (omega (arith, c.if-place-lowest.false, c.from-place.ensures)) (sym c.is_passed_over.ensures ∙ c.if-is_passed_over.false) short
    c.loop-record_type.invariant)

pub returns-clause-value : goal.returns-clause-value
returns-clause-value c = checked_end c.args.types.now c.loop-record_type.record_type-index c.loop-record_type.lowest (omega (arith, c.loop-record_type-test.false)) c.loop-record_type.invariant

pub returns-clause-numbers : goal.returns-clause-numbers
returns-clause-numbers c = λ _. all_short c.args.types.now c.loop-record_type.record_type-index c.loop-record_type.lowest (omega (arith, c.loop-record_type-test.false)) c.loop-record_type.invariant
