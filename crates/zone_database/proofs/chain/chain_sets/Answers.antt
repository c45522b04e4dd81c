use Rattle.std.proofs.Common.{ap, sym, subst, ◌∙◌}
use Rattle.std.proofs.lemmas.List.Elements.{All-head, All-tail}
use Rattle.std.specs.Map.{keys_of}
use Rattle.std.specs.Prelude.{option_copied}
use Rattle.zone_proto.specs.declared.rr_key.RrKey.{RrKey}
use Rattle.zone_proto.specs.Keys.{key_cmp}
use Rattle.zone_proto.specs.Sets.{RRset}
use Rattle.zone_map.specs.Zones.{AreStored, IsStoredAt}
use Rattle.zone_denial.specs.Chains.{chain_sets}
use Rattle.zone_denial.proofs.Ascending.{Ascends-from_sorted}
use Rattle.zone_denial.proofs.Chains.ChainSets.{is_zone}
use Rattle.zone_database.proofs.PutsInOrder.{put_each, one_put, one_left, all_put, put_in_order}
use Rattle.zone_database.proofs.chain.chain_sets.Goals as goal

pub put_copy-requires : goal.put_copy-requires
put_copy-requires c = All-head (λ e. IsStoredAt e.0.name e.0.record_type.0 e.1) _ _ (subst AreStored c.in-Some.ensures.steps c.loop-key.invariant.stored)

pub loop-key-preserved-in-Continue-1 : goal.loop-key-preserved-in-Continue-1
loop-key-preserved-in-Continue-1 c =
    let k = option_copied c.args.kind in
    let e : RrKey × RRset = (c.in-Some.key.now, c.in-Some.set.now) in
    let rest = c.next.new.self in
    record {
      stored = All-tail (λ e. IsStoredAt e.0.name e.0.record_type.0 e.1) _ _ (subst AreStored c.in-Some.ensures.steps c.loop-key.invariant.stored);
      made =
          ap (λ m. put_each m (chain_sets k rest)) c.in_ok-put_copy.ensures.ok
          ∙ one_put k c.loop-key.chain e rest (sym c.stays.ensures ∙ c.if-stays.true)
          ∙ ap (λ es. put_each c.loop-key.chain (chain_sets k es)) (sym c.in-Some.ensures.steps) ∙ c.loop-key.invariant.made;
    }

pub loop-key-preserved : goal.loop-key-preserved
loop-key-preserved c =
    let k = option_copied c.args.kind in
    let e : RrKey × RRset = (c.in-Some.key.now, c.in-Some.set.now) in
    let rest = c.next.new.self in
    record {
      stored = All-tail (λ e. IsStoredAt e.0.name e.0.record_type.0 e.1) _ _ (subst AreStored c.in-Some.ensures.steps c.loop-key.invariant.stored);
      made =
          one_left k c.loop-key.chain e rest (sym c.stays.ensures ∙ c.if-stays.false)
          ∙ ap (λ es. put_each c.loop-key.chain (chain_sets k es)) (sym c.in-Some.ensures.steps) ∙ c.loop-key.invariant.made;
    }

pub returns-clause-chain : goal.returns-clause-chain
returns-clause-chain c =
    let k = option_copied c.args.kind in
    let m = c.args.records.now in
    sym (all_put c.loop-key.chain) ∙ ap (λ es. put_each c.loop-key.chain (chain_sets k es)) (sym c.in-None.ensures.steps.0) ∙ c.loop-key.invariant.made
    ∙ put_in_order (chain_sets k m) (Ascends-from_sorted key_cmp (keys_of (chain_sets k m)) (is_zone k m c.iter-key-items.ensures.zone).ordered)
