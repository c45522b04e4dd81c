use Rattle.std.proofs.Common.{◌++◌, sym, ap, subst, ◌∙◌, append_assoc}
use Rattle.std.proofs.lemmas.List.Elements.{All-head, All-tail}
use Rattle.zone_proto.specs.declared.rr_key.RrKey.{RrKey}
use Rattle.zone_proto.specs.Sets.{RRset}
use Rattle.zone_planning.specs.Faults.{IsSignable}
use Rattle.zone_planning.specs.Frames.{asked, asked_of}
use Rattle.held_plans.specs.Asking.{AreSignable}
use Rattle.held_plans.proofs.Signable.{unwritable_all}
use Rattle.held_plans.proofs.asking.asked.Goals as goal

pub loop-set-preserved : goal.loop-set-preserved
loop-set-preserved c =
    let rest = c.next.new.self in
    record {
      made =
          ap (λ q. q ++ asked rest) c.in-Ok.ensures.ok ∙ append_assoc c.loop-set.queue.items (asked_of c.in-Some.set.now) (asked rest)
          ∙ ap (λ es. c.loop-set.queue.items ++ asked es) (sym c.in-Some.ensures.steps) ∙ c.loop-set.invariant.made;
      written = λ all. All-tail (λ (e : RrKey × RRset). IsSignable e.1) _ _ (subst AreSignable c.in-Some.ensures.steps (c.loop-set.invariant.written all));
    }

pub returns-in-Err-clause-err : goal.returns-in-Err-clause-err
returns-in-Err-clause-err c =
    unwritable_all c.in-Err.fault (IsSignable c.in-Some.set.now) (AreSignable c.args.records.now)
    (λ all. All-head (λ (e : RrKey × RRset). IsSignable e.1) _ _ (subst AreSignable c.in-Some.ensures.steps (c.loop-set.invariant.written all))) c.in-Err.ensures.err
