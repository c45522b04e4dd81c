use Rattle.std.proofs.Common.{◌∙◌, false, sym, subst, true≢false}
use Rattle.std.specs.Prelude.{option_map}
use Rattle.std.proofs.lemmas.Result.{IfOk-weaker}
use Rattle.zone_proto.specs.Names.{Name}
use Rattle.zone_response.specs.Queries.{zone_of}
use Rattle.zone_server.specs.ServedZones.{may_answer_for, IsNearestIfAny}
use Rattle.zone_server.proofs.AnsweringZones.{just_so, not_so, of_other_type, of_parent, of_root}
use Rattle.zone_server.proofs.zones.parents_zone.Goals as goal
use Rattle.zone_server.proofs.zones.parents_zone.Goals.{then-ne-via-then-ne, then-ne-via-else-ne+then-is_root}

pub returns-then-ne : goal.returns-then-ne
returns-then-ne g c =
    elim c.then-ne.branch [
      | then-ne-via-then-ne w ↦ of_other_type (g.Z.ServedZones.zones c.args.zones.now) c.args.question.name.now c.args.question.query_type.0 (not_so _ _ c.ne.ensures w.if-ne.true)
      | then-ne-via-else-ne+then-is_root w ↦ of_root (g.Z.ServedZones.zones c.args.zones.now) c.args.question.name.now c.args.question.query_type.0 (w.is_root.ensures.0 w.if-is_root.true)
    ]

pub returns-in-Ok : goal.returns-in-Ok
returns-in-Ok g c =
    IfOk-weaker c.nearest.result _ _
    (λ zone h. of_parent (g.Z.ServedZones.zones c.args.zones.now) c.args.question.name.now c.args.question.query_type.0 (just_so _ _ c.ne.ensures c.if-ne.false)
    (λ e. true≢false (sym (c.is_root.ensures.1 e) ∙ c.if-is_root.false)) (option_map (zone_of g.Z.Signer.Signer.signature_of g.Z.Hash.Nsec3Hash.digest_of) zone)
    (subst (λ (n : Name). IsNearestIfAny (may_answer_for false n) (g.Z.ServedZones.zones c.args.zones.now) (option_map (zone_of g.Z.Signer.Signer.signature_of g.Z.Hash.Nsec3Hash.digest_of) zone)) c.in-Ok.ensures.ok h))
    c.nearest.ensures
