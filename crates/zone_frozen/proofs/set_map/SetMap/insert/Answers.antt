use Rattle.std.proofs.Common.{sym, ap, ◌∙◌}
use Rattle.std.specs.Prelude.{is_some}
use Rattle.zone_frozen.proofs.UnderKeys.{is_some-copied, put_found}
use Rattle.zone_frozen.proofs.set_map.SetMap.insert.Goals as goal

pub returns-then-is_some-clause-put : goal.returns-then-is_some-clause-put
returns-then-is_some-clause-put c =
    c.replace.ensures.put
    ∙ sym (put_found c.args.key c.args.self.now c.args.set c.get.ensures.ordered
    (sym (ap is_some c.get.ensures.value) ∙ is_some-copied c.get.result ∙ sym c.is_some.ensures ∙ c.if-is_some.true))
