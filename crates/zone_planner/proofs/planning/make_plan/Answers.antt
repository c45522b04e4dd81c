use Rattle.std.proofs.Common.{◌≡◌, List, refl, ap, ◌∙◌, subst}
use Rattle.std.specs.Prelude.{flat_map}
use Rattle.zone_proto.specs.declared.rr_key.RrKey.{RrKey}
use Rattle.zone_proto.specs.Names.{Name}
use Rattle.zone_proto.specs.Types.{NSEC, NSEC3PARAM}
use Rattle.zone_map.specs.Zones.{Sets, owns}
use Rattle.zone_signing.specs.Secured.{IsSecured}
use Rattle.zone_planning.specs.declared.signer.PlanSigner.{PlanSigner}
use Rattle.zone_planning.specs.Answering.{plans}
use Rattle.zone_planner.specs.declared.keys.PlannedKey.{PlannedKey}
use Rattle.zone_planner.specs.Keys.{key_data, keyed, with_data}
use Rattle.zone_planner.specs.Plans.{AreSignersOf, IsPlanned, denied_by}
use Rattle.zone_planner.specs.Zones.{left_out}
use Rattle.zone_planner.proofs.Fitting.{none_made}
use Rattle.zone_planner.proofs.KeyedSets.{keyed_owns}
use Rattle.zone_planner.proofs.planning.make_plan.Goals as goal

pub secure_by-requires-clause-undenied : goal.secure_by-requires-clause-undenied
secure_by-requires-clause-undenied c =
    λ n.
    let origin = c.new-apex.result.name in
    let keyed_is : c.put_keys.new.records ≡ keyed origin c.as_slice-3.result.now c.args.request.now c.args.records =
    c.in_ok-put_keys.ensures.ok ∙ ap (λ serial. with_data origin c.args.request.now.key_ttl serial c.args.records (flat_map (key_data origin) c.as_slice-3.result.now)) c.serial_of-serial.ensures in
    ap (λ (m : Sets). owns m n NSEC) keyed_is
    ∙ keyed_owns origin c.as_slice-3.result.now c.args.request.now c.args.records n NSEC refl
    ∙ none_made origin c.args.records c.in_ok-check_zone.ensures.ok n NSEC refl

pub secure_by-requires-clause-unannounced : goal.secure_by-requires-clause-unannounced
secure_by-requires-clause-unannounced c =
    let origin = c.new-apex.result.name in
    let keyed_is : c.put_keys.new.records ≡ keyed origin c.as_slice-3.result.now c.args.request.now c.args.records =
    c.in_ok-put_keys.ensures.ok ∙ ap (λ serial. with_data origin c.args.request.now.key_ttl serial c.args.records (flat_map (key_data origin) c.as_slice-3.result.now)) c.serial_of-serial.ensures in
    ap (λ (m : Sets). owns m origin NSEC3PARAM) keyed_is
    ∙ keyed_owns origin c.as_slice-3.result.now c.args.request.now c.args.records origin NSEC3PARAM refl
    ∙ none_made origin c.args.records c.in_ok-check_zone.ensures.ok origin NSEC3PARAM refl

pub returns-clause-planned : goal.returns-clause-planned
returns-clause-planned c =
    let origin = c.new-apex.result.name in
    let keyed_is : c.put_keys.new.records ≡ keyed origin c.as_slice-3.result.now c.args.request.now c.args.records =
    c.in_ok-put_keys.ensures.ok ∙ ap (λ serial. with_data origin c.args.request.now.key_ttl serial c.args.records (flat_map (key_data origin) c.as_slice-3.result.now)) c.serial_of-serial.ensures in
    let keys : c.as_slice-3.result.now ≡ c.args.keys.items = c.as_slice-3.ensures.value in
    subst (λ (n : Name). IsPlanned n c.args.keys.items c.args.request.now c.args.records c.secure_by.new.records) (ap (λ (k : RrKey). k.name) c.new-apex.ensures.value)
    (record {
      signers = c.in_ok-signers.signers.items;
      of_keys = subst (λ (ks : List PlannedKey). AreSignersOf origin ks c.args.request.now (left_out origin c.args.records) c.in_ok-signers.signers.items) c.as_slice-2.ensures.value c.in_ok-signers.ensures.ok;
      secured =
          subst
          (λ (m : Sets). IsSecured plans c.args.request.now.inception origin c.in_ok-signers.signers.items (denied_by c.args.request.now.nx_proof_kind origin m) c.secure_by.new.records)
          (keyed_is ∙ ap (λ (ks : List PlannedKey). keyed origin ks c.args.request.now c.args.records) keys)
          (subst (λ (ss : List PlanSigner). IsSecured plans c.args.request.now.inception origin ss (denied_by c.args.request.now.nx_proof_kind origin c.put_keys.new.records) c.secure_by.new.records) c.as_slice-4.ensures.value c.in_ok-secure_by.ensures.secured);
    })
