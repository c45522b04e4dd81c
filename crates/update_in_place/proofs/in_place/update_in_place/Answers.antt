use Rattle.std.proofs.Common.{sym, ap, ◌∙◌, Ok}
use Rattle.update_in_place.specs.Parts.{names_about, sets_of}
use Rattle.update_in_place.proofs.in_place.update_in_place.Goals as goal

pub carry_out-requires : goal.carry_out-requires
carry_out-requires c = (names_about c.args.origin.now c.args.update.changes.items, c.in-Ok.ensures.planned.0, c.in-Ok.ensures.planned.2)

pub returns-clause-changed : goal.returns-clause-changed
returns-clause-changed c =
    let planned = c.in-Ok.ensures.planned in
    planned.1 ∙ ap Ok (sym (c.in_ok-carry_out.ensures.done (names_about c.args.origin.now c.args.update.changes.items) planned.0 planned.2))

pub returns-clause-before : goal.returns-clause-before
returns-clause-before c = c.in-Ok.ensures.planned.2.before_is

pub returns-clause-after : goal.returns-clause-after
returns-clause-after c =
    let planned = c.in-Ok.ensures.planned in
    let names = names_about c.args.origin.now c.args.update.changes.items in
    planned.2.after_is ∙ ap (sets_of names) (sym (c.in_ok-carry_out.ensures.done names planned.0 planned.2))
