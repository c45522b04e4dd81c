use Rattle.std.proofs.Common.{sym, ap, ◌∙◌}
use Rattle.zone_proto.specs.declared.rr_key.RrKey.{RrKey}
use Rattle.zone_proto.specs.Sets.{RRset}
use Rattle.zone_proto.specs.Types.{NSEC}
use Rattle.zone_map.specs.Zones.{Sets, names_of}
use Rattle.zone_denial.specs.Authority.{is_authoritative}
use Rattle.chain_changes.proofs.NamesFrom.{first_other, first_read, first_found, not_found}
use Rattle.chain_changes.proofs.entries.next_authoritative.Goals as goal

pub loop-key-init : goal.loop-key-init
loop-key-init c =
    first_read (is_authoritative c.args.origin.now c.args.zone.now NSEC) c.args.name.now c.in_ok-least.least c.args.zone.now c.as_map.result.now c.into_iter-key-iterator.result
    c.in_ok-least.ensures.copy.ok c.as_map.ensures.entries c.as_map.ensures.zone.ordered (c.into_iter-key-iterator.ensures.into_iter_gives ∙ c.from-key-items.ensures.sets)

pub loop-key-preserved : goal.loop-key-preserved
loop-key-preserved c =
    let e : RrKey × RRset = (c.in-Some.key.now, c.in-Some.field-0-1.now) in
    not_found (is_authoritative c.args.origin.now c.args.zone.now NSEC) c.args.name.now c.loop-key.key-iterator c.next.new.self e c.in-Some.ensures.steps
    (sym c.in_ok-follows.ensures.ok ∙ c.if-follows.false)
    ∙ c.loop-key.invariant

pub returns-then-follows-clause-ok : goal.returns-then-follows-clause-ok
returns-then-follows-clause-ok c =
    let e : RrKey × RRset = (c.in-Some.key.now, c.in-Some.field-0-1.now) in
    sym (first_found (is_authoritative c.args.origin.now c.args.zone.now NSEC) c.args.name.now c.loop-key.key-iterator c.next.new.self e c.in-Some.ensures.steps
    (sym c.in_ok-follows.ensures.ok ∙ c.if-follows.true))
    ∙ c.loop-key.invariant

pub returns-clause-ok : goal.returns-clause-ok
returns-clause-ok c =
    sym (ap (λ (es : Sets). first_other (is_authoritative c.args.origin.now c.args.zone.now NSEC) c.args.name.now (names_of es)) c.in-None.ensures.steps.0) ∙ c.loop-key.invariant
