use Rattle.std.proofs.Common.{◌++◌, sym, ap, ◌∙◌}
use Rattle.std.proofs.lemmas.List.{append-nil}
use Rattle.shown_zones.specs.Shown.{shown}
use Rattle.shown_zones.proofs.copying.entries_of.Goals as goal

pub returns-clause-ok : goal.returns-clause-ok
returns-clause-ok c =
    sym (append-nil c.loop-key.entries.items)
    ∙ ap (λ es. c.loop-key.entries.items ++ shown es) (sym c.in-None.ensures.steps.0)
    ∙ c.loop-key.invariant
