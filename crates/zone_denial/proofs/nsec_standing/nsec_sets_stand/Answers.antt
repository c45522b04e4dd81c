use Rattle.std.proofs.Common.{◌≡◌, ℕ, ◌+◌, ◌<◌, ◌==◌, true, List, map, length, take, drop, sym, ap, ◌∙◌, subst, arith, eqb-true}
use Rattle.std.specs.Borrow.{Bor}
use Rattle.std.specs.Ordering.{nat_cmp}
use Rattle.std.proofs.Math.ListN.{drop_of_length-le}
use Rattle.std.proofs.lemmas.List.Elements.{All-head, All-tail}
use Rattle.zone_proto.specs.declared.rr_key.RrKey.{RrKey}
use Rattle.zone_proto.specs.Keys.{key, key_cmp}
use Rattle.zone_proto.specs.Sets.{RRset}
use Rattle.zone_proto.specs.Types.{RRSIG, NSEC}
use Rattle.zone_map.proofs.Neighbours.{not_false, not_true}
use Rattle.zone_map.specs.Zones.{IsStoredAt, AreStored}
use Rattle.zone_denial.specs.NsecLinks.{first_name}
use Rattle.zone_denial.specs.NsecSets.{nsec_data, new_set}
use Rattle.zone_denial.specs.TypeLists.{joined}
use Rattle.zone_denial.proofs.Ascending.{Ascends-from_sorted}
use Rattle.zone_denial.proofs.Sets.KeyRuns.{lent_keys, to_end, of_count, Linking-step, counted_from}
use Rattle.zone_denial.proofs.Sets.StandingSets.{under_own_key, StandSoFar-start, StandSoFar-other, StandSoFar-more, StandSoFar-end}
use Rattle.zone_denial.proofs.nsec_standing.nsec_sets_stand.Goals as goal

pub loop-key-init : goal.loop-key-init
loop-key-init c =
    record {
      stored = subst AreStored (sym c.into_iter-key-iterator.ensures.into_iter_gives) (subst AreStored (sym c.iter-key-items.ensures.rest) c.iter-key-items.ensures.stored);
      bound = omega arith;
      so_far =
          StandSoFar-start c.args.origin.now (lent_keys c.args.keys.now) c.args.ttl c.args.records.now c.into_iter-key-iterator.result
          (c.into_iter-key-iterator.ensures.into_iter_gives ∙ c.iter-key-items.ensures.rest) (Ascends-from_sorted key_cmp (lent_keys c.args.keys.now) c.requires);
    }

pub loop-key-preserved-then-ne : goal.loop-key-preserved-then-ne
loop-key-preserved-then-ne c =
    record {
      stored = All-tail (λ e. IsStoredAt e.0.name e.0.record_type.0 e.1) _ _ (subst AreStored c.in-Some.ensures.steps c.loop-key.invariant.stored);
      bound = c.loop-key.invariant.bound;
      so_far =
          StandSoFar-other c.args.origin.now (lent_keys c.args.keys.now) c.args.ttl c.args.records.now (c.in-Some.key.now, c.in-Some.set.now) c.loop-key.key-iterator c.next.new.self c.in-Some.ensures.steps
          (lent_keys (drop c.loop-key.start c.args.keys.now)) c.loop-key.invariant.so_far (not_true _ (sym c.ne.ensures ∙ c.if-ne.true));
    }

pub is_nsec_set-requires : goal.is_nsec_set-requires
is_nsec_set-requires c =
    let stored = All-head (λ e. IsStoredAt e.0.name e.0.record_type.0 e.1) _ _ (subst AreStored c.in-Some.ensures.steps c.loop-key.invariant.stored) in
    stored.record_type ∙ eqb-true c.in-Some.key.now.record_type.0 NSEC (not_false _ (sym c.ne.ensures ∙ c.if-ne.false))

pub loop-key-preserved : goal.loop-key-preserved
loop-key-preserved c =
    let keys = c.args.keys.now in
    let ks = lent_keys keys in
    let start = c.loop-key.start in
    let count = c.count_of_first.result in
    let lt : start < length keys = omega (arith, c.loop-key.invariant.bound) in
    let name = c.index-keys-start.result.now.name in
    let counted = counted_from keys start c.count_of_first.result c.index-keys-start.result lt c.index-keys-start.is c.count_of_first.ensures.value in
    let others = drop (start + count) keys in
    let next = c.first_name-next.ensures ∙ ap (λ bs. first_name c.args.origin.now (lent_keys bs)) (to_end (start + count) keys) in
    let types = ap (λ (bs : List (Bor RrKey)). joined nat_cmp NSEC (joined nat_cmp RRSIG (map (λ b. b.now.record_type.0) bs))) (of_count start count keys) in
    let e : RrKey × RRset = (c.in-Some.key.now, c.in-Some.set.now) in
    let all = subst AreStored c.in-Some.ensures.steps c.loop-key.invariant.stored in
    let stored : IsStoredAt e.0.name e.0.record_type.0 e.1 = All-head (λ d. IsStoredAt d.0.name d.0.record_type.0 d.1) _ _ all in
    let denies : (e.0.record_type.0 == NSEC) ≡ true = not_false _ (sym c.ne.ensures ∙ c.if-ne.false) in
    let passed : c.is_nsec_set.result ≡ true = c.if-not-is_nsec_set.false in
    let data' = nsec_data (first_name c.args.origin.now (lent_keys others)) (joined nat_cmp NSEC (joined nat_cmp RRSIG (map (λ (b : Bor RrKey). b.now.record_type.0) (take count (drop start keys))))) in
    let made : ℕ → RrKey × RRset = λ serial. (key name NSEC, new_set c.args.ttl serial name data') in
    let same = λ (serial : ℕ). c.is_nsec_set.ensures.whole passed serial ∙ (λ i. new_set c.args.ttl serial name (nsec_data (next i) (types i))) in
    record {
      stored = All-tail (λ d. IsStoredAt d.0.name d.0.record_type.0 d.1) _ _ all;
      bound = omega (arith, c.count_of_first.ensures.bound);
      so_far =
          StandSoFar-more c.args.origin.now ks c.args.ttl c.args.records.now e c.loop-key.key-iterator c.next.new.self c.in-Some.ensures.steps (lent_keys (drop start keys)) c.loop-key.invariant.so_far (lent_keys others) made denies
          (λ serial. under_own_key e name c.args.ttl serial data' stored denies (c.is_nsec_set.ensures.lower passed) (same serial))
          (λ serial done so_far. Linking-step keys start count c.index-keys-start.result lt c.index-keys-start.is counted c.args.origin.now ks c.args.ttl serial done so_far);
    }

pub returns : goal.returns
returns c = λ whole.
    let none = ap lent_keys (drop_of_length-le c.args.keys.now (omega (arith, eqb-true c.loop-key.start (length c.args.keys.now) whole))) in
    StandSoFar-end c.args.origin.now (lent_keys c.args.keys.now) c.args.ttl c.args.records.now c.loop-key.key-iterator (lent_keys (drop c.loop-key.start c.args.keys.now)) c.in-None.ensures.steps.0 none c.loop-key.invariant.so_far
