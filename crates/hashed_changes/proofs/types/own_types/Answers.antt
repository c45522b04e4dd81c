use Rattle.std.proofs.Common.{ap, ◌∙◌}
use Rattle.zone_proto.specs.declared.rr_key.RrKey.{RrKey}
use Rattle.zone_map.specs.Zones.{types_at, Sets}
use Rattle.zone_denial.proofs.Sets.TypesJoined.{numbers}
use Rattle.hashed_changes.proofs.Listed.{others, own_numbers, numbers_of_others}
use Rattle.hashed_changes.proofs.types.own_types.Goals as goal

pub returns-clause-ok : goal.returns-clause-ok
returns-clause-ok c =
    ap numbers (c.in_ok-others.ensures.ok ∙ ap others c.as_slice.ensures.value)
    ∙ numbers_of_others c.in_ok-types.types.items
    ∙ ap own_numbers
    (c.in_ok-types.ensures.ok
    ∙ ap (λ (m : Sets). types_at m c.in_ok-least.least.name) c.as_map.ensures.entries
    ∙ ap (λ (k : RrKey). types_at c.args.zone.now k.name) c.in_ok-least.ensures.copy.ok)
