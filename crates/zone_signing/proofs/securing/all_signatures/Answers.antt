use Rattle.std.proofs.Common.{subst, sym, ◌∙◌}
use Rattle.std.proofs.lemmas.List.Elements.{All-head, All-tail}
use Rattle.zone_map.specs.Zones.{AreStored, IsStoredAt}
use Rattle.zone_signing.proofs.Handings.{HandsOver-begun, HandsOver-more, HandsOver-all}
use Rattle.zone_signing.proofs.securing.all_signatures.Goals as goal

pub loop-key-init : goal.loop-key-init
loop-key-init g c =
    record {
      stored = subst AreStored (sym c.into_iter-key-iterator.ensures.into_iter_gives) (subst AreStored (sym c.iter-key-items.ensures.rest) c.iter-key-items.ensures.stored);
      made = HandsOver-begun _ c.args.zone.now _ _ _ (c.into_iter-key-iterator.ensures.into_iter_gives ∙ c.iter-key-items.ensures.rest) c.in_ok-lists.ensures.items c.in_ok-exchanged.ensures.ok;
    }

pub sign_under-requires : goal.sign_under-requires
sign_under-requires g c = All-head (λ e. IsStoredAt e.0.name e.0.record_type.0 e.1) _ _ (subst AreStored c.in-Some.ensures.steps c.loop-key.invariant.stored)

pub loop-key-preserved : goal.loop-key-preserved
loop-key-preserved g c =
    record {
      stored = All-tail (λ e. IsStoredAt e.0.name e.0.record_type.0 e.1) _ _ (subst AreStored c.in-Some.ensures.steps c.loop-key.invariant.stored);
      made = HandsOver-more _ c.args.zone.now _ _ _ _ _ _ _ c.in_ok-sign_under.ensures.ok.0 _ c.in-Some.ensures.steps c.in_ok-push.ensures.items c.in_ok-sign_under.ensures.ok.1 c.in_ok-sign_under.ensures.ok.2 c.loop-key.invariant.made;
    }

pub returns-clause-ok : goal.returns-clause-ok
returns-clause-ok g c = HandsOver-all _ c.args.zone.now _ _ _ c.in-None.ensures.steps.0 c.loop-key.invariant.made
