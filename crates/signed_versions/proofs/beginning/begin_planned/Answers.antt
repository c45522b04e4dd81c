use Rattle.std.proofs.Common.{◌≡◌, ◌∙◌, Bool, ap, inl, refl, sym, subst}
use Rattle.std.specs.Prelude.{IfOk, None, Some, option_map}
use Rattle.std.specs.Arc.{arc_value}
use Rattle.signed_in_place.specs.Updates.{IsBegunIf}
use Rattle.signed_in_place.specs.declared.beginning.Begun.TheVariants as change
use Rattle.zone_database.specs.Versions.{records_of}
use Rattle.signed_versions.specs.Begun.{IsBegunChange}
use Rattle.signed_versions.proofs.beginning.begin_planned.Goals as goal

pub returns-then-not-are_typed-clause-begun : goal.returns-then-not-are_typed-clause-begun
returns-then-not-are_typed-clause-begun c =
    let sets = (arc_value c.args.before).inner.records in
    subst (λ (t : Bool). IsBegunIf t c.args.origin.now c.args.keys.now c.args.request.now c.args.changed.before c.args.changed.after sets sets change.NotLocal) (sym c.if-not-are_typed.true) (refl, refl)

pub returns-then-not-are_typed-clause-same : goal.returns-then-not-are_typed-clause-same
returns-then-not-are_typed-clause-same c = refl

pub begin_in-requires-clause-sets : goal.begin_in-requires-clause-sets
begin_in-requires-clause-sets c =
    let is : Some c.in-Ok-Some.next ≡ Some (arc_value c.args.before).inner.records = sym c.in-Ok-Some.field-0-is ∙ c.in-Ok-Some.ensures.sets ∙ ap (option_map records_of) c.requires.found in
    cc

pub begin_in-requires-clause-change : goal.begin_in-requires-clause-change
begin_in-requires-clause-change c = c.requires.change

pub returns-in-Ok-Some-clause-begun : goal.returns-in-Ok-Some-clause-begun
returns-in-Ok-Some-clause-begun c =
    subst (λ (t : Bool). IfOk c.begin_in.result (IsBegunChange c.args.origin.now c.args.keys.now c.args.request.now t c.args.changed (arc_value c.args.before))) (sym c.if-not-are_typed.false) c.begin_in.ensures.begun

pub returns-in-Ok-Some-clause-fault : goal.returns-in-Ok-Some-clause-fault
returns-in-Ok-Some-clause-fault c = c.begin_in.ensures.fault

pub returns-in-Ok-None-clause-begun : goal.returns-in-Ok-None-clause-begun
returns-in-Ok-None-clause-begun c =
    let is : Some (arc_value c.args.before).inner.records ≡ None = sym (ap (option_map records_of) c.requires.found) ∙ sym c.in-Ok-None.ensures.sets ∙ c.in-Ok-None.field-0-is in
    cc

pub returns-in-Err-clause-fault : goal.returns-in-Err-clause-fault
returns-in-Err-clause-fault c = inl refl
