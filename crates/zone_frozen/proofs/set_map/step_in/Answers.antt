use Rattle.std.proofs.Common.{sym, ap, ◌∙◌}
use Rattle.std.specs.Map.{set_value}
use Rattle.zone_proto.specs.Keys.{key_eq}
use Rattle.zone_frozen.proofs.UnderKeys.{stepped_absent, stepped_found}
use Rattle.zone_frozen.proofs.set_map.step_in.Goals as goal

pub returns-in-Some-clause-stepped : goal.returns-in-Some-clause-stepped
returns-in-Some-clause-stepped c =
    (c.get_mut.follows.holds c.step_serial.new.self).0
    ∙ ap (set_value (key_eq c.args.key.now) c.args.map.now.entries) c.step_serial.ensures
    ∙ stepped_found c.args.key.now c.args.map.now.entries c.in-Some.set.now c.get_mut.ensures.ordered (sym c.in-Some.ensures.value)

pub returns-in_default-clause-stepped : goal.returns-in_default-clause-stepped
returns-in_default-clause-stepped c =
    ap (λ n. n.entries) c.get_mut.follows.holds-at-none ∙ sym (stepped_absent c.args.key.now c.args.map.now.entries (sym c.in_default.ensures.value))
