use Rattle.std.proofs.Common.{◌≡◌, true, false, sym, ap, ◌∙◌}
use Rattle.zone_builder.specs.Groups.{ends_under}
use Rattle.zone_builder.proofs.Joining.{taken_off, taken_below, below_another}
use Rattle.zone_builder.proofs.groups.last_under.Goals as goal

pub returns-then-not-ends_under-clause-below : goal.returns-then-not-ends_under-clause-below
returns-then-not-ends_under-clause-below c =
    let other : ends_under c.args.groups.now.items c.args.key.now ≡ false =
    ap (λ es. ends_under es c.args.key.now) (sym c.as_slice.ensures.value) ∙ sym c.ends_under.ensures ∙ c.if-not-ends_under.true in
    below_another c.args.groups.now.items c.args.key.now other

pub returns-clause-taken : goal.returns-clause-taken
returns-clause-taken c =
    let ends : ends_under c.args.groups.now.items c.args.key.now ≡ true =
    ap (λ es. ends_under es c.args.key.now) (sym c.as_slice.ensures.value) ∙ sym c.ends_under.ensures ∙ c.if-not-ends_under.false in
    taken_off c.pop.new.self.items c.args.groups.now.items c.args.key.now (c.in_ok-group.field-0-0, c.in_ok-group.group) c.in_ok-group.ensures.items ends

pub returns-clause-below : goal.returns-clause-below
returns-clause-below c = λ ordered _.
    let ends : ends_under c.args.groups.now.items c.args.key.now ≡ true =
    ap (λ es. ends_under es c.args.key.now) (sym c.as_slice.ensures.value) ∙ sym c.ends_under.ensures ∙ c.if-not-ends_under.false in
    taken_below c.pop.new.self.items c.args.groups.now.items c.args.key.now (c.in_ok-group.field-0-0, c.in_ok-group.group) c.in_ok-group.ensures.items ends ordered
