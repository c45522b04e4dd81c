use Rattle.std.proofs.Common.{ap, sym, subst, ◌∙◌}
use Rattle.std.proofs.lemmas.List.Elements.{All-head, All-tail}
use Rattle.zone_proto.specs.declared.rr_key.RrKey.{RrKey}
use Rattle.zone_proto.specs.Sets.{RRset}
use Rattle.zone_map.specs.Zones.{AreStored, IsStoredAt}
use Rattle.held_plans.specs.Copies.{copied}
use Rattle.held_plans.proofs.Copying.{put_each, one_put, one_left, all_put, put_in_order, copies_ascend}
use Rattle.held_plans.proofs.copies.copied.Goals as goal

pub put_copy-requires : goal.put_copy-requires
put_copy-requires c = All-head (λ e. IsStoredAt e.0.name e.0.record_type.0 e.1) _ _ (subst AreStored c.in-Some.ensures.steps c.loop-key.invariant.stored)

pub loop-key-preserved-in-Continue-1 : goal.loop-key-preserved-in-Continue-1
loop-key-preserved-in-Continue-1 c =
    let a = c.args.anew in
    let e : RrKey × RRset = (c.in-Some.key.now, c.in-Some.set.now) in
    let rest = c.next.new.self in
    record {
      stored = All-tail (λ e. IsStoredAt e.0.name e.0.record_type.0 e.1) _ _ (subst AreStored c.in-Some.ensures.steps c.loop-key.invariant.stored);
      made =
          ap (λ m. put_each m (copied a rest)) c.in_ok-put_copy.ensures.ok
          ∙ one_put a c.loop-key.made e rest (sym c.is_copied.ensures ∙ c.if-is_copied.true)
          ∙ ap (λ es. put_each c.loop-key.made (copied a es)) (sym c.in-Some.ensures.steps) ∙ c.loop-key.invariant.made;
    }

pub loop-key-preserved : goal.loop-key-preserved
loop-key-preserved c =
    let a = c.args.anew in
    let e : RrKey × RRset = (c.in-Some.key.now, c.in-Some.set.now) in
    let rest = c.next.new.self in
    record {
      stored = All-tail (λ e. IsStoredAt e.0.name e.0.record_type.0 e.1) _ _ (subst AreStored c.in-Some.ensures.steps c.loop-key.invariant.stored);
      made =
          one_left a c.loop-key.made e rest (sym c.is_copied.ensures ∙ c.if-is_copied.false)
          ∙ ap (λ es. put_each c.loop-key.made (copied a es)) (sym c.in-Some.ensures.steps) ∙ c.loop-key.invariant.made;
    }

pub returns-clause-ok : goal.returns-clause-ok
returns-clause-ok c =
    let a = c.args.anew in
    let m = c.args.records.now in
    sym (all_put c.loop-key.made) ∙ ap (λ es. put_each c.loop-key.made (copied a es)) (sym c.in-None.ensures.steps.0) ∙ c.loop-key.invariant.made
    ∙ put_in_order (copied a m) (copies_ascend a m c.iter-key-items.ensures.zone)
