use Rattle.std.proofs.Common.{◌≡◌, ap, ◌∙◌}
use Rattle.std.specs.Prelude.{option_map}
use Rattle.zone_proto.specs.declared.rr_key.RrKey.{RrKey}
use Rattle.zone_proto.specs.Keys.{key}
use Rattle.zone_proto.specs.Types.{SOA}
use Rattle.zone_map.specs.Zones.{set_at}
use Rattle.zone_signing.specs.Secured.{secured_set}
use Rattle.zone_signing.proofs.KeptSets.{each_kept}
use Rattle.zone_signing.proofs.keeping.secure_kept.Goals as goal

pub returns-clause-ok : goal.returns-clause-ok
returns-clause-ok g c =
    let sign = g.S.Signer.signature_of in
    let apex : c.args.apex.now ≡ key c.args.apex.now.name SOA = ap (λ t. key c.args.apex.now.name t) c.requires.apex in
    record {
      each =
          each_kept sign c.args.now c.args.apex.now.name c.args.signers.now c.args.denials.0 c.args.serial c.requires.denials c.args.zone.now c.sign_all.new.zone c.set_serials.new.self
          (λ n t. c.in_ok-sign_all.ensures.ok n t ∙ ap (λ (a : RrKey). option_map (secured_set sign c.args.now a c.args.signers.now (key n t)) (set_at c.args.zone.now n t)) apex)
          c.set_serials.ensures.sets;
    }
