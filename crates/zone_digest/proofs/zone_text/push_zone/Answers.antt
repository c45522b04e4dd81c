use Rattle.std.proofs.Common.{◌≡◌, sym, ap, ◌∙◌, subst}
use Rattle.zone_proto.specs.declared.rr_key.RrKey.{RrKey}
use Rattle.zone_proto.specs.Keys.{key}
use Rattle.zone_digest.specs.Faults.{AreDigestible, IsDigestibleZone}
use Rattle.zone_digest.specs.ZoneText.{digested_sets, zonemd_key, zonemd_type}
use Rattle.zone_digest.proofs.Refusals.{refused_of_more}
use Rattle.zone_digest.proofs.zone_text.push_zone.Goals as goal

pub returns-clause-err : goal.returns-clause-err
returns-clause-err c =
    let m = c.args.records.now in
    let own_is : c.new-own.result ≡ zonemd_key c.args.origin.now = c.new-own.ensures.value ∙ ap (λ n. key n zonemd_type) c.in_ok-clone.ensures.copy.ok in
    refused_of_more c.push_sets.result (AreDigestible (digested_sets c.new-own.result m)) (IsDigestibleZone c.args.origin.now m)
    (λ d. subst (λ (k : RrKey). AreDigestible (digested_sets k m)) (sym own_is) d) c.push_sets.ensures.err
