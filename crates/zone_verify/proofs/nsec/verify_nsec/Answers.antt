use Rattle.std.proofs.Common.{List, map, sym, ◌∙◌, subst}
use Rattle.std.specs.Borrow.{Bor}
use Rattle.std.specs.List.{Contains}
use Rattle.zone_proto.specs.declared.rr_key.RrKey.{RrKey}
use Rattle.zone_proto.specs.Keys.{key}
use Rattle.zone_proto.specs.Types.{NSEC}
use Rattle.zone_verify.proofs.NsecChains.{is_chain}
use Rattle.zone_verify.proofs.nsec.verify_nsec.Goals as goal

pub returns : goal.returns
returns c = record {
  chain =
      let same = c.as_slice.ensures.value in
      let other = c.as_slice-2.ensures.value in
      is_chain c.args.origin.now c.args.records.now c.in_ok-keys.ensures.zone (sym c.in_ok-owns.ensures.ok ∙ c.if-not-branch.false)
      (map (λ (k : Bor RrKey). k.now) c.in_ok-keys.keys.items) c.in_ok-keys.ensures.ok
      (λ k i. c.in_ok-check_names.ensures k (subst (λ (ks : List (Bor RrKey)). Contains (map (λ k. k.now) ks) k) (sym same) i))
      (λ n k. subst (λ (ks : List (Bor RrKey)). Contains (map (λ k. k.now) ks) (key n NSEC)) other (c.in_ok-check_owners.ensures n k))
      c.in_ok-check_links.ensures;
}
