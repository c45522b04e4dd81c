use Rattle.std.proofs.Common.{ℕ, Bool, not, ap, ◌∙◌}
use Rattle.std.specs.List.{list_any}
use Rattle.zone_proto.specs.declared.record_type.RecordType.{RecordType}
use Rattle.zone_proto.specs.declared.rr_key.RrKey.{RrKey}
use Rattle.zone_map.specs.Upserts.{is_denial_type}
use Rattle.zone_map.specs.Zones.{types_at}
use Rattle.zone_update.proofs.NameTests.{any_map}
use Rattle.zone_update.proofs.prerequisites.is_in_use.Goals as goal

pub returns-clause-answer : goal.returns-clause-answer
returns-clause-answer c =
    let p : ℕ → Bool = λ t. not (is_denial_type t) in
    c.has_other_type.ensures
    ∙ ap (list_any (λ (t : RecordType). p t.0)) c.as_slice.ensures.value
    ∙ any_map p (λ (t : RecordType). t.0) c.in_ok-types.types.items
    ∙ ap (list_any p) c.in_ok-types.ensures.ok
    ∙ ap (λ (k : RrKey). list_any p (types_at c.args.sets.now k.name)) c.in_ok-least.ensures.copy.ok
