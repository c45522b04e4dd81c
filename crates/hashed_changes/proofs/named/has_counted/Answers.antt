use Rattle.std.proofs.Common.{◌≡◌, true, false, sym, ap, ◌∙◌}
use Rattle.std.specs.List.{list_any}
use Rattle.zone_proto.specs.declared.rr_key.RrKey.{RrKey}
use Rattle.zone_proto.specs.Names.{is_at_or_above}
use Rattle.zone_proto.specs.Sets.{RRset}
use Rattle.hashed_changes.specs.Counting.{counts}
use Rattle.hashed_changes.proofs.NamesFrom.{below_read, any_below, none_here, found_here, none_left}
use Rattle.hashed_changes.proofs.named.has_counted.Goals as goal
use Rattle.hashed_changes.proofs.named.has_counted.Goals.{in-None, in-Some+then-not-is_at_or_above}

pub loop-key-init : goal.loop-key-init
loop-key-init c =
    ap (list_any (counts c.args.origin.now c.args.zone.now c.args.opt_out))
    (below_read c.args.name.now c.in_ok-least.least c.args.zone.now c.as_map.result.now c.into_iter-key-iterator.result c.in_ok-least.ensures.copy.ok c.as_map.ensures.entries c.as_map.ensures.zone.ordered
    (c.into_iter-key-iterator.ensures.into_iter_gives ∙ c.from-key-items.ensures.sets))

pub loop-key-preserved : goal.loop-key-preserved
loop-key-preserved c =
    let e : RrKey × RRset = (c.in-Some.key.now, c.in-Some.field-0-1.now) in
    let at : is_at_or_above c.args.name.now c.in-Some.key.now.name ≡ true = sym c.is_at_or_above.ensures ∙ c.if-not-is_at_or_above.false in
    none_here (counts c.args.origin.now c.args.zone.now c.args.opt_out) c.args.name.now c.loop-key.key-iterator c.next.new.self e c.in-Some.ensures.steps at
    (sym c.in_ok-counts.ensures.ok ∙ c.if-counts.false)
    ∙ c.loop-key.invariant

pub returns-then-counts-clause-ok : goal.returns-then-counts-clause-ok
returns-then-counts-clause-ok c =
    let e : RrKey × RRset = (c.in-Some.key.now, c.in-Some.field-0-1.now) in
    let at : is_at_or_above c.args.name.now c.in-Some.key.now.name ≡ true = sym c.is_at_or_above.ensures ∙ c.if-not-is_at_or_above.false in
    sym (found_here (counts c.args.origin.now c.args.zone.now c.args.opt_out) c.args.name.now c.loop-key.key-iterator c.next.new.self e c.in-Some.ensures.steps at
    (sym c.in_ok-counts.ensures.ok ∙ c.if-counts.true))
    ∙ c.loop-key.invariant

pub returns-clause-ok : goal.returns-clause-ok
returns-clause-ok c =
    let p = counts c.args.origin.now c.args.zone.now c.args.opt_out in
    elim c.match-next.branch [
      | in-None w ↦ sym (ap (any_below p c.args.name.now) w.in-None.ensures.steps.0) ∙ c.loop-key.invariant
      | in-Some+then-not-is_at_or_above w ↦
          let off : is_at_or_above c.args.name.now w.in-Some.key.now.name ≡ false = sym w.is_at_or_above.ensures ∙ w.if-not-is_at_or_above.true in
          sym (none_left p c.args.name.now c.loop-key.key-iterator c.next.new.self (w.in-Some.key.now, w.in-Some.field-0-1.now) w.in-Some.ensures.steps off)
          ∙ c.loop-key.invariant
    ]
