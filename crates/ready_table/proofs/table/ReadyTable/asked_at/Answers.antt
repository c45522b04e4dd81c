use Rattle.std.proofs.Common.{◌≡◌, ◌∙◌, Some, length, refl, sym, ap}
use Rattle.std.specs.Prelude.{slice_get}
use Rattle.std.proofs.lemmas.Bool.{ltb-true}
use Rattle.std.proofs.lemmas.Option.{slice_get_read}
use Rattle.ready_table.specs.Ready.{octets_at, IsReadyAt}
use Rattle.ready_table.proofs.FoundPlaces.{at_index, found_at}
use Rattle.ready_table.proofs.table.ReadyTable.asked_at.Goals as goal

pub returns-then-has_question : goal.returns-then-has_question
returns-then-has_question c = λ z are.
    let p = c.in_ok-place.field-0.now in
    let octets = c.args.self.now.octets.items in
    let places = c.args.self.now.places.items in
    let found = c.in_ok-place.ensures.lookup in
    let at : slice_get places c.args.index ≡ Some p =
    ap (λ xs. slice_get xs c.args.index) (sym c.deref.ensures.value) ∙ slice_get_read c.deref.result.now (length c.deref.result.now) c.args.index p refl (ltb-true c.args.index (length c.deref.result.now) (sym found.0)) found.1 in
    found_at z octets p c.args.limit c.args.dnssec_ok c.args.message.now c.in_ok-ready.ready.now (at_index (IsReadyAt z octets) places c.args.index p are at) c.if-place-limit.false
    (c.is_same.ensures c.if-not-is_same.false) (c.in_ok-ready.ensures ∙ ap (λ o. octets_at o p) c.as_slice.ensures.value) (c.has_question.ensures.within c.if-has_question.true)
    (c.has_question.ensures.same c.if-has_question.true)
