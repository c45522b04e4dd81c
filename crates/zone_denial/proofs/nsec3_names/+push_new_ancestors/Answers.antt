use Rattle.std.proofs.Common.{[], ◌∷◌, ◌++◌, map, sym, ap, ◌∙◌, append-nil, true≢false, arith}
use Rattle.std.proofs.lemmas.List.{map-append}
use Rattle.zone_denial.specs.Nsec3Nodes.{node_of}
use Rattle.zone_denial.proofs.Names.NewAncestors.{no_new, shorter, one_more_node, empty_nodes}
use Rattle.zone_denial.proofs.nsec3_names.+push_new_ancestors.Goals as goal

pub returns-then-zone_of-clause-ok : goal.returns-then-zone_of-clause-ok
returns-then-zone_of-clause-ok t c =
    let old = map node_of c.args.names.now.items in
    sym (append-nil old) ∙ ap (λ ns. old ++ empty_nodes ns) (sym (no_new c.args.last.now c.args.name.now c.in_ok-parent.parent c.in_ok-parent.ensures.ok (c.zone_of.ensures.0 c.if-zone_of.true)))

pub push_new_ancestors-requires : goal.push_new_ancestors-requires
push_new_ancestors-requires t c =
    omega (arith, shorter c.args.last.now c.args.name.now c.in_ok-parent.parent c.in_ok-parent.ensures.ok (λ w. true≢false (sym (c.zone_of.ensures.1 w) ∙ c.if-zone_of.false)))

pub returns-clause-ok : goal.returns-clause-ok
returns-clause-ok t c =
    ap (map node_of) c.in_ok-push.ensures.items
    ∙ map-append node_of c.push_new_ancestors.new.names.items (c.empty.result ∷ [])
    ∙ ap (λ e. map node_of c.push_new_ancestors.new.names.items ++ e ∷ []) c.empty.ensures
    ∙ one_more_node c.args.last.now c.args.name.now c.in_ok-parent.parent (map node_of c.args.names.now.items) (map node_of c.push_new_ancestors.new.names.items) c.in_ok-parent.ensures.ok
    (λ w. true≢false (sym (c.zone_of.ensures.1 w) ∙ c.if-zone_of.false)) c.in_ok-push_new_ancestors.ensures.ok
