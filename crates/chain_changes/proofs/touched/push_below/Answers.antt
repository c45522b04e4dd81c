use Rattle.std.proofs.Common.{◌≡◌, ◌++◌, List, sym, ap, ◌∙◌, true, false}
use Rattle.std.proofs.lemmas.List.{append-nil}
use Rattle.zone_proto.specs.declared.rr_key.RrKey.{RrKey}
use Rattle.zone_proto.specs.Names.{Name, is_at_or_above}
use Rattle.zone_proto.specs.Sets.{RRset}
use Rattle.zone_map.specs.Zones.{Sets}
use Rattle.update_in_place.specs.Parts.{is_among}
use Rattle.chain_changes.proofs.NamesFrom.{names_below, below_ends, below_read}
use Rattle.chain_changes.proofs.Pushed.{one_more_among, all_among}
use Rattle.chain_changes.proofs.touched.push_below.Goals as goal
use Rattle.chain_changes.proofs.touched.push_below.Goals.{in-None, in-Some+then-not-is_at_or_above}

pub loop-key-init : goal.loop-key-init
loop-key-init c = λ n.
    ap (λ (ns : List Name). is_among (c.args.names.now.items ++ ns) n)
    (below_read c.args.name.now c.in_ok-least.least c.args.zone.now c.as_map.result.now c.into_iter-key-iterator.result c.in_ok-least.ensures.copy.ok c.as_map.ensures.entries c.as_map.ensures.zone.ordered
    (c.into_iter-key-iterator.ensures.into_iter_gives ∙ c.from-key-items.ensures.sets))

pub loop-key-preserved : goal.loop-key-preserved
loop-key-preserved c = λ n.
    let e : RrKey × RRset = (c.in-Some.key.now, c.in-Some.field-0-1.now) in
    let same : is_at_or_above c.args.name.now c.in-Some.key.now.name ≡ true = sym c.is_at_or_above.ensures ∙ c.if-not-is_at_or_above.false in
    one_more_among c.args.name.now n c.loop-key.names.items c.push_once.new.names.items c.loop-key.key-iterator c.next.new.self e _ c.in-Some.ensures.steps same (c.in_ok-push_once.ensures.ok n)
    (c.loop-key.invariant n)

pub returns-clause-ok : goal.returns-clause-ok
returns-clause-ok c = λ m.
    let n = c.args.name.now in
    let so_far = c.loop-key.names.items in
    let all = all_among n m c.args.names.now.items c.args.zone.now in
    elim c.match-next.branch [
      | in-None w ↦
          ap (λ (ns : List Name). is_among ns m) (sym (append-nil so_far)) ∙ ap (λ (es : Sets). is_among (so_far ++ names_below n es) m) (sym w.in-None.ensures.steps.0) ∙ c.loop-key.invariant m ∙ all
      | in-Some+then-not-is_at_or_above w ↦
          let other : is_at_or_above n w.in-Some.key.now.name ≡ false = sym w.is_at_or_above.ensures ∙ w.if-not-is_at_or_above.true in
          ap (λ (ns : List Name). is_among ns m) (sym (append-nil so_far))
          ∙ ap (λ (ns : List Name). is_among (so_far ++ ns) m) (sym (below_ends n (w.in-Some.key.now, w.in-Some.field-0-1.now) c.next.new.self other))
          ∙ ap (λ (es : Sets). is_among (so_far ++ names_below n es) m) (sym w.in-Some.ensures.steps)
          ∙ c.loop-key.invariant m
          ∙ all
    ]
