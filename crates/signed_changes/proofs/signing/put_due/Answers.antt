use Rattle.std.proofs.Common.{sym, ap, ◌∙◌}
use Rattle.std.specs.Prelude.{option_and_then}
use Rattle.zone_proto.specs.declared.rr_key.RrKey.{RrKey}
use Rattle.zone_map.specs.Zones.{Sets, put, set_at}
use Rattle.signed_changes.specs.Signing.{due_at, due_set}
use Rattle.signed_changes.proofs.DueSets.{none_due, one_due}
use Rattle.signed_changes.proofs.signing.put_due.Goals as goal

pub returns-in_default-clause-ok : goal.returns-in_default-clause-ok
returns-in_default-clause-ok c = λ n t.
    let k = c.args.key.now in
    let due = due_set c.args.origin.now c.args.zone.now c.args.inception c.args.signers.now k in
    none_due (due_at c.args.origin.now c.args.zone.now c.args.inception c.args.signers.now) k n t (set_at c.args.due.now n t) (ap (option_and_then due) (sym c.in_default.ensures.found))

pub returns-clause-ok : goal.returns-clause-ok
returns-clause-ok c = λ n t.
    let k = c.args.key.now in
    let due = due_set c.args.origin.now c.args.zone.now c.args.inception c.args.signers.now k in
    none_due (due_at c.args.origin.now c.args.zone.now c.args.inception c.args.signers.now) k n t (set_at c.args.due.now n t)
    (ap (option_and_then due) (sym c.in-Some.ensures.found) ∙ sym c.in_ok-made.ensures.ok ∙ c.in-None.is)

pub returns-in-Ok-clause-ok : goal.returns-in-Ok-clause-ok
returns-in-Ok-clause-ok c = λ n t.
    let k = c.args.key.now in
    let old = c.args.due.now in
    let made = c.in-Some-2.made in
    let due = due_set c.args.origin.now c.args.zone.now c.args.inception c.args.signers.now k in
    ap (λ (m : Sets). set_at m n t) c.in-Ok.ensures.stored
    ∙ ap (λ (q : RrKey). set_at (put old q.name q.record_type.0 made) n t) c.in_ok-clone-in-Some-2.ensures.copy.ok
    ∙ one_due (due_at c.args.origin.now c.args.zone.now c.args.inception c.args.signers.now) k n t old made
    (ap (option_and_then due) (sym c.in-Some.ensures.found) ∙ sym c.in_ok-made.ensures.ok ∙ c.in-Some-2.is)
