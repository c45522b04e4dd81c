use Rattle.std.proofs.Common.{◌≡◌, ◌+◌, List, ◌∷◌, map, drop, ap, sym, ◌∙◌, refl, subst, inl, inr}
use Rattle.std.proofs.Math.ListN.{drop_of_length-le}
use Rattle.std.specs.Borrow.{Bor}
use Rattle.std.specs.List.{Contains}
use Rattle.std.specs.Prelude.{option_copied}
use Rattle.std.proofs.lemmas.List.{drop_more}
use Rattle.std.proofs.lemmas.List.Elements.{Contains-get_or}
use Rattle.zone_proto.specs.declared.rr_key.RrKey.{RrKey}
use Rattle.zone_proto.proofs.Members.{Contains-In, In-Contains, In-map}
use Rattle.zone_denial.specs.Nsec3Zones.{hash_with}
use Rattle.zone_verify.specs.ChainSets.{sets_of}
use Rattle.zone_verify.specs.Nsec3Names.{IsDeniedIn, IsNsec3Key}
use Rattle.zone_verify.specs.declared.nsec3_names.Denied.{Denied}
use Rattle.zone_verify.proofs.Nsec3Chosen.{key_listed, key_left, key_passed}
use Rattle.zone_verify.proofs.Passing.{all_passed}
use Rattle.zone_verify.proofs.nsec3_name.HashedZone.names.Goals as goal
use Rattle.zone_verify.proofs.nsec3_name.HashedZone.names.Goals.{in-Some+in_ok-check_key, in_default}

pub loop-key-init : goal.loop-key-init
loop-key-init g c = record {
  are = c.in_ok-denied.ensures.names (map (λ k. k.now) c.args.keys.now);
  denied = c.in_ok-denied.ensures.denied;
  passed = λ k i. inl i;
}

pub denied_at-requires : goal.denied_at-requires
denied_at-requires g c = record {
  names = (map (λ k. k.now) c.args.keys.now, c.loop-key.invariant.are);
  denied = c.loop-key.invariant.denied;
}

pub loop-key-preserved : goal.loop-key-preserved
loop-key-preserved g c =
    let o = c.args.self.now.origin.now in
    let m = sets_of c.args.self.now.sets in
    let hash = hash_with (g.H.Nsec3Hash.digest_of c.args.self.now.hash.now) c.args.self.now.parameters.now in
    let opt = c.args.self.now.parameters.now.opt_out in
    let keys : List (Bor RrKey) = c.args.keys.now in
    let i = c.loop-key.key-index in
    let ks : List RrKey = map (λ k. k.now) keys in
    let k : RrKey = c.key-item.result.now in
    let old = c.loop-key.names.items in
    let new = c.denied_at.new.names.items in
    let next = c.in_ok-next.next in
    let of = c.in_ok-next.ensures in
    let v = c.loop-key.invariant in
    let listed : Contains ks k = In-Contains k ks (In-map (λ (x : Bor RrKey). x.now) c.key-item.result keys (Contains-In c.key-item.result keys (subst (Contains keys) (sym c.key-item.is) (Contains-get_or keys i c.key-item.result c.loop-key-test.true)))) in
    let same : c.match-next.denied ≡ next = elim c.match-next.branch [
      | in-Some+in_ok-check_key w ↦ w.denied-is
      | in_default w ↦ w.denied-is
    ] in
    let here : IsNsec3Key o m hash opt new k = elim c.match-next.branch [
      | in-Some+in_ok-check_key w ↦ key_listed o m hash opt new next.site.name.now (option_copied next.types) k w.in-Some.types.now next.site.is_delegation of.name of.denied.1 (ap option_copied w.in-Some.is) of.denied.0 w.in_ok-check_key.ensures
      | in_default w ↦ key_left o m hash opt new next.site.name.now (option_copied next.types) k of.name of.denied.1 (ap option_copied w.in_default.is)
    ] in
    let split : map (λ k. k.now) (drop i keys) ≡ k ∷ map (λ k. k.now) (drop (i + 1) keys) = ap (map (λ (x : Bor RrKey). x.now)) (drop_more keys i c.key-item.result c.loop-key-test.true ∙ ap (λ (x : Bor RrKey). x ∷ drop (i + 1) keys) (sym c.key-item.is)) in
    record {
      are = of.stay ks (inr (k, listed, refl)) (c.requires k listed) v.are;
      denied = subst (λ (d : Denied). IsDeniedIn o m hash opt new d) (sym same) of.denied;
      passed = key_passed o m hash opt ks (map (λ (x : Bor RrKey). x.now) (drop i keys)) (map (λ (x : Bor RrKey). x.now) (drop (i + 1) keys)) k old new of.kept split here v.passed;
    }

pub returns-clause-names : goal.returns-clause-names
returns-clause-names g c = c.loop-key.invariant.are

pub returns-clause-keys : goal.returns-clause-keys
returns-clause-keys g c = λ k i.
    let o = c.args.self.now.origin.now in
    let m = sets_of c.args.self.now.sets in
    let hash = hash_with (g.H.Nsec3Hash.digest_of c.args.self.now.hash.now) c.args.self.now.parameters.now in
    let opt = c.args.self.now.parameters.now.opt_out in
    let keys : List (Bor RrKey) = c.args.keys.now in
    let ks : List RrKey = map (λ k. k.now) keys in
    all_passed (IsNsec3Key o m hash opt c.loop-key.names.items) ks (map (λ (k : Bor RrKey). k.now) (drop c.loop-key.key-index keys))
    (ap (map (λ (k : Bor RrKey). k.now)) (drop_of_length-le keys c.loop-key-test.false)) c.loop-key.invariant.passed k (Contains-In k ks i)
