use Rattle.std.proofs.Common.{Bor, sym, ap, ◌∙◌}
use Rattle.std.specs.Prelude.{Some, option_map}
use Rattle.zone_server.specs.declared.transfer_policy.TransferPolicy.{TransferPolicy}
use Rattle.zone_response.specs.declared.question.ServedZone.{ServedZone}
use Rattle.zone_response.specs.Queries.{zone_of}
use Rattle.zone_server.proofs.ZonesAsked.{at_no_place, at_place}
use Rattle.zone_server.proofs.transfer_reply.zone_at.Goals as goal

pub returns-in_err-place : goal.returns-in_err-place
returns-in_err-place g c =
    ap (option_map (λ (x : Bor (ServedZone g.row.S.Denot g.row.H.Denot) × TransferPolicy). (zone_of g.S.Signer.signature_of g.H.Nsec3Hash.digest_of x.0.now, x.1))) c.from_residual.ensures
    ∙ sym (at_no_place g.S.Signer.signature_of g.H.Nsec3Hash.digest_of c.args.origin.now c.args.zones.now c.args.policies.now c.in_err-place.ensures)

pub returns : goal.returns
returns g c =
    ap (λ p. Some (zone_of g.S.Signer.signature_of g.H.Nsec3Hash.digest_of c.in_ok-place.zone.now, p)) c.policy_at.ensures
    ∙ sym (at_place g.S.Signer.signature_of g.H.Nsec3Hash.digest_of c.args.origin.now c.args.zones.now c.args.policies.now c.in_ok-place.place c.in_ok-place.zone.now c.in_ok-place.ensures.0 c.in_ok-place.ensures.1)
