use Rattle.std.proofs.Common.{◌==◌, ◌||◌, List, ap, ◌∙◌}
use Rattle.std.specs.List.{list_all}
use Rattle.zone_proto.specs.declared.record_type.RecordType.{RecordType}
use Rattle.zone_proto.specs.declared.rr_key.RrKey.{RrKey}
use Rattle.zone_proto.specs.Types.{NS, NSEC3}
use Rattle.zone_map.specs.Zones.{types_at, Sets}
use Rattle.hashed_changes.proofs.Counted.{all_map}
use Rattle.hashed_changes.proofs.named.is_unsigned_delegation.Goals as goal

pub returns-clause-ok : goal.returns-clause-ok
returns-clause-ok c =
    let ts : List RecordType = c.in_ok-types.types.items in
    c.are_of_delegation.ensures
    ∙ ap (list_all (λ (t : RecordType). (t.0 == NS) || (t.0 == NSEC3))) c.as_slice.ensures.value
    ∙ all_map (λ u. (u == NS) || (u == NSEC3)) (λ (t : RecordType). t.0) ts
    ∙ ap (list_all (λ u. (u == NS) || (u == NSEC3)))
    (c.in_ok-types.ensures.ok
    ∙ ap (λ (m : Sets). types_at m c.in_ok-least.least.name) c.as_map.ensures.entries
    ∙ ap (λ (k : RrKey). types_at c.args.zone.now k.name) c.in_ok-least.ensures.copy.ok)
