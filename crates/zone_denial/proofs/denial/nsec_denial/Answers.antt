use Rattle.std.proofs.Common.{◌≡◌, ◌∙◌, ◌++◌, sym, ap}
use Rattle.std.specs.Prelude.{option_and_then, option_copied, option_to_list}
use Rattle.zone_proto.specs.Keys.{key}
use Rattle.zone_proto.specs.Types.{NSEC}
use Rattle.zone_map.specs.Zones.{set_at}
use Rattle.zone_denial.specs.NsecDenial.{closest_nsec, proved_beside}
use Rattle.zone_denial.proofs.Chain.DenialLists.{closest_denial, closest_is_owners}
use Rattle.zone_denial.proofs.denial.nsec_denial.Goals as goal

pub closest_beside-requires : goal.closest_beside-requires
closest_beside-requires c = closest_is_owners c.args.records.now c.closest_nsec.ensures.zone c.args.name.now _ c.in_ok-closest.ensures.found

pub returns-clause-sets : goal.returns-clause-sets
returns-clause-sets c =
    let m = c.args.records.now in
    let place : c.new-key.result ≡ key c.args.name.now NSEC = c.new-key.ensures.value ∙ ap (λ n. key n NSEC) c.in_ok-clone.ensures.copy.ok in
    let named : c.new-key.result.name ≡ c.args.name.now = ap (λ k. k.name) c.new-key.ensures.value ∙ c.in_ok-clone.ensures.copy.ok in
    ap (λ o. option_to_list o ++ option_to_list (option_copied c.in_ok-closest.closest)) c.unless_same.ensures
    ∙ closest_denial m c.closest_nsec.ensures.zone c.args.origin.now c.args.name.now (option_copied c.in_ok-beside.beside) (option_copied c.in_ok-closest.closest)
    (sym (ap (λ k. set_at m k.name k.record_type.0) place) ∙ sym c.get.ensures.found ∙ ap option_copied c.in_default.is)
    (c.in_ok-beside.ensures.found ∙ ap (λ n. option_and_then (closest_nsec m) (proved_beside c.args.origin.now m n)) named)
    c.in_ok-closest.ensures.found
