use Rattle.std.proofs.Common.{◌∙◌, ap}
use Rattle.zone_map.specs.Zones.{Sets, last_at}
use Rattle.zone_trimming.proofs.TrimmedFound.{turned, last_trimmed}
use Rattle.zone_trimming.proofs.trimming.trimmed.Goals as goal

pub returns-clause-ok : goal.returns-clause-ok
returns-clause-ok c = λ n t.
    c.in_ok-made.ensures.ok n t
    ∙ ap (λ (es : Sets). last_at es n t) c.in_ok-entries.ensures.ok
    ∙ ap (λ (m : Sets). last_at (turned m) n t) c.in_ok-map.ensures.ok
    ∙ last_trimmed c.args.sets c.in_ok-map.ensures.zone n t
