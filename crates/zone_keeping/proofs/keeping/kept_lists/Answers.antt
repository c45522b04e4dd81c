use Rattle.std.proofs.Common.{sym, ap, ◌∙◌, subst}
use Rattle.std.specs.Prelude.{Option, option_copied}
use Rattle.zone_proto.specs.Sets.{RRset}
use Rattle.zone_keeping.specs.Faults.{AllComparable, IsComparable}
use Rattle.zone_keeping.specs.Keeping.{kept_list}
use Rattle.zone_keeping.proofs.KeptOver.{kept_all, keeping_more, next_comparable, unless_weaker}
use Rattle.zone_keeping.proofs.keeping.kept_lists.Goals as goal

pub returns-in-Err-clause-err : goal.returns-in-Err-clause-err
returns-in-Err-clause-err c =
    unless_weaker c.in-Err.fault (IsComparable (option_copied c.get.result) c.in-Some.set.now) (AllComparable c.args.old.now c.args.records.now)
    (λ h.
    subst (λ (o : Option RRset). IsComparable o c.in-Some.set.now) (sym c.get.ensures.found)
    (next_comparable c.args.span.now c.args.usable.now c.args.old.now c.args.records.now c.loop-key.key-iterator c.next.new.self (c.in-Some.key.now, c.in-Some.set.now) c.loop-key.lists.items
    c.in-Some.ensures.steps c.loop-key.invariant h))
    c.in-Err.ensures.err

pub loop-key-preserved : goal.loop-key-preserved
loop-key-preserved c =
    keeping_more c.args.span.now c.args.usable.now c.args.old.now c.args.records.now c.loop-key.key-iterator c.next.new.self (c.in-Some.key.now, c.in-Some.set.now) c.loop-key.lists.items
    c.push.new.self.items c.in-Ok.list c.in-Some.ensures.steps c.in_ok-push.ensures.items
    (c.in-Ok.ensures.ok ∙ ap (λ (o : Option RRset). kept_list c.args.span.now c.args.usable.now o c.in-Some.set.now) c.get.ensures.found) c.loop-key.invariant

pub returns-clause-handed : goal.returns-clause-handed
returns-clause-handed c =
    kept_all c.args.span.now c.args.usable.now c.args.old.now c.args.records.now c.loop-key.key-iterator c.loop-key.lists.items c.in-None.ensures.steps.0 c.loop-key.invariant.handed
