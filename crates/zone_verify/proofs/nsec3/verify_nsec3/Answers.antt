use Rattle.std.proofs.Common.{◌≡◌, List, map, sym, ap, ◌∙◌, subst, not, IsSorted}
use Rattle.std.specs.Prelude.{Some, is_some, ◌==◌}
use Rattle.std.specs.Borrow.{Bor}
use Rattle.std.specs.List.{Contains}
use Rattle.std.proofs.lemmas.List.Sorted.{Contains-permutation, IsPermutation-sym}
use Rattle.zone_proto.specs.declared.rr_key.RrKey.{RrKey}
use Rattle.zone_proto.specs.Names.{is_at_or_above}
use Rattle.zone_proto.specs.Types.{NSEC3}
use Rattle.zone_proto.proofs.Members.{In, Contains-In, and_left, and_right}
use Rattle.zone_proto.proofs.Names.NameTree.{is_at_or_above_sound}
use Rattle.zone_denial.specs.Authority.{is_authoritative}
use Rattle.zone_denial.specs.Chains.{chain_sets}
use Rattle.zone_map.specs.Zones.{Sets, set_at}
use Rattle.zone_proto.specs.declared.nx_proof_kind.NxProofKind.TheVariants as kind
use Rattle.zone_denial.specs.Nsec3Zones.{hash_with}
use Rattle.zone_denial.proofs.Sets.CircleKeys.{circle_key_from}
use Rattle.zone_verify.specs.declared.nsec3_name.ChainName.{ChainName}
use Rattle.zone_verify.specs.Order.{digest_cmp}
use Rattle.zone_verify.proofs.Nsec3Chosen.{are_moved, listed_kept}
use Rattle.zone_verify.proofs.Nsec3Chains.{is_nsec3_chain}
use Rattle.zone_verify.proofs.nsec3.verify_nsec3.Goals as goal

pub names-requires : goal.names-requires
names-requires g c = λ k i.
    let o = c.args.origin.now in
    let p = c.args.parameters.now in
    let m : Sets = chain_sets (Some (kind.Nsec3 p.algorithm p.salt p.iterations p.opt_out)) c.args.records.now in
    let keys : List (Bor RrKey) = c.as_slice.result.now in
    let ks : List RrKey = map (λ k. k.now) keys in
    let is = ap (λ (ys : List (Bor RrKey)). map (λ (k : Bor RrKey). k.now) ys) c.as_slice.ensures.value ∙ c.in_ok-keys.ensures.ok in
    let r = circle_key_from o m NSEC3 k (subst (λ (ys : List RrKey). In k ys) is (Contains-In k ks i)) in
    is_at_or_above_sound o k.name (and_left (is_at_or_above o k.name) _ (and_right (not (k.record_type.0 == NSEC3)) (is_authoritative o m NSEC3 k.name) r.1))

pub check_links-requires : goal.check_links-requires
check_links-requires g c = subst (λ (cs : List ChainName). IsSorted digest_cmp cs) (sym c.as_slice-sorted.ensures.value) c.sort_unstable.ensures.sorted

pub returns : goal.returns
returns g c =
    let o = c.args.origin.now in
    let p = c.args.parameters.now in
    let all : Sets = c.args.records.now in
    let m : Sets = chain_sets (Some (kind.Nsec3 p.algorithm p.salt p.iterations p.opt_out)) all in
    let hash = hash_with (g.H.Nsec3Hash.digest_of c.args.hash.now) p in
    let keys : List (Bor RrKey) = c.as_slice.result.now in
    let ks : List RrKey = map (λ k. k.now) keys in
    let is = ap (λ (ys : List (Bor RrKey)). map (λ (k : Bor RrKey). k.now) ys) c.as_slice.ensures.value ∙ c.in_ok-keys.ensures.ok in
    let found : List ChainName = c.in_ok-names.names.items in
    let new : List ChainName = c.sort_unstable.new.self.items in
    let sorted : List ChainName = c.as_slice-sorted.result.now in
    let value : sorted ≡ new = c.as_slice-sorted.ensures.value in
    let to : (d : ChainName) → Contains found d → Contains sorted d = λ d i. subst (λ (cs : List ChainName). Contains cs d) (sym value) (Contains-permutation found new d c.sort_unstable.ensures.permutation i) in
    let from : (d : ChainName) → Contains sorted d → Contains found d = λ d i. Contains-permutation new found d (IsPermutation-sym found new c.sort_unstable.ensures.permutation) (subst (λ (cs : List ChainName). Contains cs d) value i) in
    record {
      chain = (
        map (λ (d : ChainName). d.name) sorted,
        is_nsec3_chain o all c.in_ok-keys.ensures.zone hash p
            (sym c.in_ok-owns.ensures.ok ∙ c.if-not-branch.false) ks is sorted
            (are_moved o all m hash p.opt_out ks found sorted to from c.in_ok-names.ensures.names)
            (λ k i. listed_kept o m hash p.opt_out found sorted to k (c.in_ok-names.ensures.keys k i))
            c.in_ok-check_links.ensures c.in_ok-check_owners.ensures,
      );
      origin =
          let begins = c.in_ok-names.ensures.names.begins in
          let has = (c.in_ok-names.ensures.names.each begins.0 begins.1).has in (
            begins.0.digest,
            ap hash (sym begins.2) ∙ has.digest,
            ap is_some (ap (λ w. set_at m w NSEC3) (sym has.owner) ∙ has.stands),
          );
    }
