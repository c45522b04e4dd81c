use Rattle.std.proofs.Common.{sym, ◌∙◌}
use Rattle.std.specs.Prelude.{option_map}
use Rattle.zone_signing.proofs.Changes.{none_gone}
use Rattle.zone_signing.proofs.securing.gone_keys.Goals as goal

pub returns-then-has_none-clause-ok : goal.returns-then-has_none-clause-ok
returns-then-has_none-clause-ok c =
    c.new.ensures.items ∙ sym (none_gone (option_map (λ d. d.0) c.args.denials) c.args.new_denials.now c.args.zone.now (c.has_none.ensures c.if-has_none.true))
