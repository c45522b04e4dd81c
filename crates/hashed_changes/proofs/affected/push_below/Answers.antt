use Rattle.std.proofs.Common.{◌≡◌, ◌++◌, List, true, false, sym, ap, ◌∙◌, append_assoc}
use Rattle.std.specs.Prelude.{flat_map}
use Rattle.std.proofs.lemmas.List.{append-nil}
use Rattle.zone_proto.specs.declared.rr_key.RrKey.{RrKey}
use Rattle.zone_proto.specs.Names.{Name, is_at_or_above}
use Rattle.zone_proto.specs.Sets.{RRset}
use Rattle.zone_map.specs.Zones.{Sets}
use Rattle.hashed_changes.specs.AffectedNames.{with_ancestors}
use Rattle.hashed_changes.proofs.NamesFrom.{names_below, below_ends, below_goes_on, below_read}
use Rattle.hashed_changes.proofs.affected.push_below.Goals as goal
use Rattle.hashed_changes.proofs.affected.push_below.Goals.{in-None, in-Some+then-not-is_at_or_above}

pub loop-key-init : goal.loop-key-init
loop-key-init c =
    ap (λ (ns : List Name). c.args.names.now.items ++ flat_map (with_ancestors c.args.origin.now) ns)
    (below_read c.args.name.now c.in_ok-least.least c.args.zone.now c.as_map.result.now c.into_iter-key-iterator.result c.in_ok-least.ensures.copy.ok c.as_map.ensures.entries c.as_map.ensures.zone.ordered
    (c.into_iter-key-iterator.ensures.into_iter_gives ∙ c.from-key-items.ensures.sets))

pub loop-key-preserved : goal.loop-key-preserved
loop-key-preserved c =
    let e : RrKey × RRset = (c.in-Some.key.now, c.in-Some.field-0-1.now) in
    let same : is_at_or_above c.args.name.now c.in-Some.key.now.name ≡ true = sym c.is_at_or_above.ensures ∙ c.if-not-is_at_or_above.false in
    let all = flat_map (with_ancestors c.args.origin.now) in
    let left = names_below c.args.name.now c.next.new.self in
    ap (λ (ns : List Name). ns ++ all left) c.in_ok-push_with_ancestors.ensures.ok
    ∙ append_assoc c.loop-key.names.items (with_ancestors c.args.origin.now c.in-Some.key.now.name) (all left)
    ∙ ap (λ (ns : List Name). c.loop-key.names.items ++ all ns) (sym (below_goes_on c.args.name.now e c.next.new.self same) ∙ ap (names_below c.args.name.now) (sym c.in-Some.ensures.steps))
    ∙ c.loop-key.invariant

pub returns-clause-ok : goal.returns-clause-ok
returns-clause-ok c =
    let n = c.args.name.now in
    let so_far = c.loop-key.names.items in
    let all = flat_map (with_ancestors c.args.origin.now) in
    elim c.match-next.branch [
      | in-None w ↦ sym (append-nil so_far) ∙ ap (λ (es : Sets). so_far ++ all (names_below n es)) (sym w.in-None.ensures.steps.0) ∙ c.loop-key.invariant
      | in-Some+then-not-is_at_or_above w ↦
          let other : is_at_or_above n w.in-Some.key.now.name ≡ false = sym w.is_at_or_above.ensures ∙ w.if-not-is_at_or_above.true in
          sym (append-nil so_far)
          ∙ ap (λ (ns : List Name). so_far ++ all ns) (sym (below_ends n (w.in-Some.key.now, w.in-Some.field-0-1.now) c.next.new.self other))
          ∙ ap (λ (es : Sets). so_far ++ all (names_below n es)) (sym w.in-Some.ensures.steps)
          ∙ c.loop-key.invariant
    ]
