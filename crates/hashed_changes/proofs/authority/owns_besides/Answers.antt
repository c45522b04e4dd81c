use Rattle.std.proofs.Common.{◌==◌, not, List, ap, ◌∙◌}
use Rattle.std.specs.List.{list_any}
use Rattle.zone_proto.specs.declared.record_type.RecordType.{RecordType}
use Rattle.zone_proto.specs.declared.rr_key.RrKey.{RrKey}
use Rattle.zone_proto.specs.Types.{NSEC3}
use Rattle.zone_map.specs.Zones.{types_at, Sets}
use Rattle.hashed_changes.proofs.Ancestors.{any_map}
use Rattle.hashed_changes.proofs.authority.owns_besides.Goals as goal

pub returns-clause-ok : goal.returns-clause-ok
returns-clause-ok c =
    let ts : List RecordType = c.in_ok-types.types.items in
    c.has_other.ensures
    ∙ ap (list_any (λ (t : RecordType). not (t.0 == NSEC3))) c.as_slice.ensures.value
    ∙ any_map (λ u. not (u == NSEC3)) (λ (t : RecordType). t.0) ts
    ∙ ap (list_any (λ u. not (u == NSEC3)))
    (c.in_ok-types.ensures.ok
    ∙ ap (λ (m : Sets). types_at m c.in_ok-least.least.name) c.as_map.ensures.entries
    ∙ ap (λ (k : RrKey). types_at c.args.zone.now k.name) c.in_ok-least.ensures.copy.ok)
