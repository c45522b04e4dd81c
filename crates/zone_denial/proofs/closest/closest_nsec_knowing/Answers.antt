use Rattle.std.proofs.Common.{◌≡◌, ◌∙◌, true, refl, sym, ap, subst}
use Rattle.std.specs.Prelude.{Some, false, option_and_then}
use Rattle.std.specs.Option.{option_map_or}
use Rattle.zone_proto.specs.Keys.{key}
use Rattle.zone_proto.specs.Types.{NSEC}
use Rattle.zone_map.specs.Counts.{one_more}
use Rattle.zone_map.specs.DenialOwners.{denial_owners_upto, owners_upto, IsLastOf}
use Rattle.zone_map.specs.Zones.{set_at}
use Rattle.zone_denial.specs.NsecCircle.{next_of}
use Rattle.zone_denial.specs.NsecDenial.{goes_past, says_past}
use Rattle.zone_denial.proofs.Chain.ClosestSets.{none_read, last_closest}
use Rattle.zone_denial.proofs.closest.closest_nsec_knowing.Goals as goal

pub returns-then-branch-clause-found : goal.returns-then-branch-clause-found
returns-then-branch-clause-found c =
    let m = c.args.records.now in
    let x = c.args.name.now in
    let owner = c.in-Some.owner.now in
    let place : c.new-place.result ≡ key x NSEC = c.new-place.ensures.value ∙ ap (λ n. key n NSEC) c.in_ok-clone.ensures.copy.ok in
    let last = subst (λ k. IsLastOf owner (owners_upto m k.record_type.0 k.name)) place c.in-Some.ensures.last in
    let set = subst (λ k. set_at m owner k.record_type.0 ≡ Some c.in-Some.set.now) place c.in-Some.ensures.set in
    let past : says_past m x owner ≡ true = ap (λ s. option_map_or (goes_past owner x) (option_and_then next_of s) false) set ∙ sym c.in_ok-says_past.ensures.past ∙ c.if-branch.true in
    sym set ∙ last_closest m x (denial_owners_upto m NSEC x) 0 0 (none_read m x (denial_owners_upto m NSEC x) 0 c.last_of_type_upto.ensures.zone refl) last.0 owner (one_more 0) last.1 refl past
