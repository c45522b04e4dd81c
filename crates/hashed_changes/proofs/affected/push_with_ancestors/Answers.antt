use Rattle.std.proofs.Common.{◌++◌, ◌∷◌, [], List, sym, ap, ◌∙◌, append_assoc, true≢false}
use Rattle.std.specs.Prelude.{filter}
use Rattle.zone_proto.specs.Names.{Name, is_above, proper_ancestors}
use Rattle.hashed_changes.specs.AffectedNames.{with_ancestors}
use Rattle.hashed_changes.proofs.AffectedPushed.{one_more, at_root}
use Rattle.hashed_changes.proofs.affected.push_with_ancestors.Goals as goal

pub loop-ancestor-init : goal.loop-ancestor-init
loop-ancestor-init c =
    let old = c.args.names.now.items in
    let name = c.args.name.now in
    let left = λ (a : Name). filter (is_above c.args.origin.now) (proper_ancestors a) in
    ap (λ (ns : List Name). ns ++ left c.in_ok-ancestor.ancestor) (c.in_ok-push.ensures.items ∙ ap (λ (n : Name). old ++ n ∷ []) c.in_ok-clone.ensures.copy.ok)
    ∙ append_assoc old (name ∷ []) (left c.in_ok-ancestor.ancestor)
    ∙ ap (λ (a : Name). old ++ name ∷ left a) c.in_ok-ancestor.ensures.copy.ok

pub loop-ancestor-preserved : goal.loop-ancestor-preserved
loop-ancestor-preserved c =
    one_more c.args.origin.now c.loop-ancestor.ancestor c.shorten.new.self c.loop-ancestor.names.items c.push_if_below.new.names.items
    (c.args.names.now.items ++ with_ancestors c.args.origin.now c.args.name.now)
    (λ e. true≢false (sym (c.is_root.ensures.1 e) ∙ c.loop-ancestor-test.true)) c.shorten.ensures c.in_ok-push_if_below.ensures.ok c.loop-ancestor.invariant

pub returns-clause-ok : goal.returns-clause-ok
returns-clause-ok c =
    at_root c.args.origin.now c.loop-ancestor.ancestor c.loop-ancestor.names.items
    (c.args.names.now.items ++ with_ancestors c.args.origin.now c.args.name.now)
    (c.is_root.ensures.0 c.loop-ancestor-test.false) c.loop-ancestor.invariant
