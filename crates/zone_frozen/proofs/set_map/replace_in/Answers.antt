use Rattle.std.proofs.Common.{sym, ap, ◌∙◌}
use Rattle.zone_frozen.proofs.UnderKeys.{set_absent}
use Rattle.zone_frozen.proofs.set_map.replace_in.Goals as goal

pub returns-in-None-clause-put : goal.returns-in-None-clause-put
returns-in-None-clause-put c =
    ap (λ n. n.entries) c.get_mut.follows.holds-at-none ∙ sym (set_absent c.args.key.now c.args.map.now.entries c.args.set (sym c.in-None.ensures.value))
