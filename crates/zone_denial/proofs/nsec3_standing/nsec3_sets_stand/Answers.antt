use Rattle.std.proofs.Common.{◌≡◌, ◌<◌, ◌==◌, ℕ, true, List, map, length, get_or, sym, ap, ◌∙◌, subst, arith, eqb-true}
use Rattle.std.proofs.Math.Numerals.{add-one}
use Rattle.std.proofs.lemmas.List.{get_or_default}
use Rattle.std.proofs.lemmas.List.Elements.{All-head, All-tail}
use Rattle.zone_proto.specs.declared.rdata.RData.TheVariants as V
use Rattle.zone_proto.specs.declared.rr_key.RrKey.{RrKey}
use Rattle.zone_proto.specs.HashedOwners.{hashed_owner}
use Rattle.zone_proto.specs.Sets.{RRset}
use Rattle.zone_proto.specs.Types.{NSEC3}
use Rattle.zone_map.proofs.Neighbours.{not_false, not_true}
use Rattle.zone_map.specs.Zones.{IsStoredAt, AreStored}
use Rattle.zone_denial.specs.declared.hashed_names.HashedName.{HashedName as HeldName}
use Rattle.zone_denial.specs.Covering.{next_around}
use Rattle.zone_denial.specs.HashedNames.{hashed}
use Rattle.zone_denial.specs.Nsec3Circle.{nsec3_data}
use Rattle.zone_denial.specs.Nsec3Nodes.{types_of}
use Rattle.zone_denial.specs.Nsec3Sets.{HashedName, hashed_cmp}
use Rattle.zone_denial.specs.OneRecordSets.{one_record_set}
use Rattle.zone_denial.proofs.Sets.StandingCircles.{CircleStands, CircleStands-start, CircleStands-other, CircleStands-more, CircleStands-fit, CircleStands-end}
use Rattle.zone_denial.proofs.nsec3_standing.nsec3_sets_stand.Goals as goal

pub loop-key-init : goal.loop-key-init
loop-key-init c =
    record {
      zone = c.iter-key-items.ensures.zone;
      stored = subst AreStored (sym c.into_iter-key-iterator.ensures.into_iter_gives) (subst AreStored (sym c.iter-key-items.ensures.rest) c.iter-key-items.ensures.stored);
      bound = omega arith;
      so_far = CircleStands-start c.args.origin.now c.args.parameters.now c.args.ttl c.args.held.now c.args.records.now c.into_iter-key-iterator.result
          (c.into_iter-key-iterator.ensures.into_iter_gives ∙ c.iter-key-items.ensures.rest);
    }

pub loop-key-preserved-then-ne : goal.loop-key-preserved-then-ne
loop-key-preserved-then-ne c =
    record {
      zone = c.loop-key.invariant.zone;
      stored = All-tail (λ e. IsStoredAt e.0.name e.0.record_type.0 e.1) _ _ (subst AreStored c.in-Some.ensures.steps c.loop-key.invariant.stored);
      bound = c.loop-key.invariant.bound;
      so_far = CircleStands-other c.args.origin.now c.args.parameters.now c.args.ttl c.args.held.now c.args.records.now (c.in-Some.key.now, c.in-Some.set.now) c.loop-key.key-iterator c.next.new.self
          c.loop-key.passed c.in-Some.ensures.steps (not_true _ (sym c.ne.ensures ∙ c.if-ne.true)) c.loop-key.invariant.so_far;
    }

pub is_set_of_name-requires : goal.is_set_of_name-requires
is_set_of_name-requires c =
    let stored = All-head (λ e. IsStoredAt e.0.name e.0.record_type.0 e.1) _ _ (subst AreStored c.in-Some.ensures.steps c.loop-key.invariant.stored) in
    stored.record_type ∙ eqb-true c.in-Some.key.now.record_type.0 NSEC3 (not_false _ (sym c.ne.ensures ∙ c.if-ne.false))

pub loop-key-preserved : goal.loop-key-preserved
loop-key-preserved c =
    let origin = c.args.origin.now in
    let parameters = c.args.parameters.now in
    let hs = c.args.held.now in
    let i = c.loop-key.passed in
    let h = c.index-held-passed.result in
    let lt : i < length hs = omega (arith, c.loop-key.invariant.bound) in
    let e : RrKey × RRset = (c.in-Some.key.now, c.in-Some.set.now) in
    let all = subst AreStored c.in-Some.ensures.steps c.loop-key.invariant.stored in
    let stored : IsStoredAt e.0.name e.0.record_type.0 e.1 = All-head (λ d. IsStoredAt d.0.name d.0.record_type.0 d.1) _ _ all in
    let denies : (e.0.record_type.0 == NSEC3) ≡ true = not_false _ (sym c.ne.ensures ∙ c.if-ne.false) in
    let passed : c.in_ok-is_set_of_name.field-0 ≡ true = c.if-not-branch.false in
    let own : get_or hs i c.next_name.result.now ≡ h = get_or_default hs i c.next_name.result.now h lt ∙ sym c.index-held-passed.is in
    let next = ap (λ (k : HashedName). k.digest) c.next_name.ensures ∙ ap (λ (k : HeldName). (next_around hashed_cmp (map hashed hs) (hashed k)).digest) own in
    let made = λ (serial : ℕ) (d : List ℕ). one_record_set NSEC3 c.args.ttl serial (hashed_owner origin h.digest) (V.NSEC3 (nsec3_data parameters d (types_of h.name.now))) in
    let more =
    CircleStands-more origin parameters c.args.ttl hs c.args.records.now e c.loop-key.key-iterator c.next.new.self i h c.in-Some.ensures.steps denies stored c.loop-key.invariant.zone lt c.index-held-passed.is
    (c.in_ok-is_set_of_name.ensures.lower passed) (c.in_ok-is_set_of_name.ensures.fits passed) c.in_ok-is_set_of_name.ensures.digest
    (λ serial. c.in_ok-is_set_of_name.ensures.set passed serial ∙ ap (made serial) next) c.loop-key.invariant.so_far in
    record {
      zone = c.loop-key.invariant.zone;
      stored = All-tail (λ d. IsStoredAt d.0.name d.0.record_type.0 d.1) _ _ all;
      bound = omega (arith, lt);
      so_far = subst (λ (k : ℕ). CircleStands origin parameters c.args.ttl hs c.args.records.now c.next.new.self k) (sym (add-one i)) more;
    }

pub returns-clause-standing : goal.returns-clause-standing
returns-clause-standing c = λ whole.
    CircleStands-end c.args.origin.now c.args.parameters.now c.args.ttl c.args.held.now c.args.records.now c.loop-key.key-iterator c.loop-key.passed c.loop-key.invariant.zone c.in-None.ensures.steps.0
    (eqb-true c.loop-key.passed (length c.args.held.now) whole) c.loop-key.invariant.so_far

pub returns-clause-fits : goal.returns-clause-fits
returns-clause-fits c = λ whole.
    CircleStands-fit c.args.origin.now c.args.parameters.now c.args.ttl c.args.held.now c.args.records.now c.loop-key.key-iterator c.loop-key.passed c.in-None.ensures.steps.0
    (eqb-true c.loop-key.passed (length c.args.held.now) whole) c.loop-key.invariant.so_far
