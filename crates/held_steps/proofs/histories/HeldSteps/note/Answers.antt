use Rattle.std.proofs.Common.{refl, sym, ap}
use Rattle.std.proofs.lemmas.Result.{on_err_weaker, on_ok_weaker}
use Rattle.std.specs.Arc.{arc_value}
use Rattle.zone_database.specs.declared.zone.Zone.{Zone}
use Rattle.held_steps.specs.declared.histories.HeldSteps.{HeldSteps}
use Rattle.held_steps.proofs.Noted.{noted_next, same_next}
use Rattle.held_steps.proofs.histories.HeldSteps.note.Goals as goal

pub returns-in-Some-clause-noted : goal.returns-in-Some-clause-noted
returns-in-Some-clause-noted c =
    let after : HeldSteps = record { histories = c.get_mut.follows.lender c.note.new.self; most = c.args.self.now.most } in
    on_ok_weaker c.note.result
    (noted_next (arc_value c.args.version) c.args.self.now after refl c.deref.result.now.origin (ap (λ (z : Zone). z.origin) c.deref.ensures) c.in-Some.history.now c.note.new.self (sym c.in-Some.ensures.value)
    (c.get_mut.follows.holds c.note.new.self))
    c.note.ensures.next

pub returns-in-Some-clause-same : goal.returns-in-Some-clause-same
returns-in-Some-clause-same c =
    let after : HeldSteps = record { histories = c.get_mut.follows.lender c.note.new.self; most = c.args.self.now.most } in
    on_err_weaker c.note.result
    (same_next (arc_value c.args.version) c.args.self.now after refl c.deref.result.now.origin (ap (λ (z : Zone). z.origin) c.deref.ensures) c.in-Some.history.now c.note.new.self (sym c.in-Some.ensures.value)
    (c.get_mut.follows.holds c.note.new.self))
    c.note.ensures.same
