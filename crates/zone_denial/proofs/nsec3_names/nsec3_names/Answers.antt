use Rattle.std.proofs.Common.{◌≡◌, ◌+◌, ◌++◌, ◌&&◌, false, [], ◌∷◌, map, take, drop, refl, sym, ap, ◌∙◌, subst, arith, nat_cmp}
use Rattle.std.proofs.Math.ListN.{drop_of_length-le}
use Rattle.std.proofs.lemmas.List.{map-append}
use Rattle.zone_proto.specs.Types.{RRSIG}
use Rattle.zone_denial.specs.Nsec3Nodes.{node_of}
use Rattle.zone_denial.specs.TypeLists.{joined}
use Rattle.zone_denial.proofs.Sets.KeyRuns.{lent_keys, of_count, goes_on, counted_from}
use Rattle.zone_denial.proofs.Names.Naming.{Naming, Naming-end, names_listed, types_listed}
use Rattle.zone_denial.proofs.Names.NamingSteps.{are_of_ns, lent_types, origin_listed, passed_over, name_listed}
use Rattle.zone_denial.proofs.nsec3_names.nsec3_names.Goals as goal
use Rattle.zone_denial.proofs.nsec3_names.nsec3_names.Goals.{else-opt_out-via-then-opt_out+else-are_of_ns, else-opt_out-via-else-opt_out}

pub loop-start-init : goal.loop-start-init
loop-start-init c =
    let keys = c.as_slice-keys.result.now in
    let are = ap lent_keys c.as_slice-keys.ensures.value ∙ c.in_ok-keys.ensures.ok in
    let count = c.count_of_name-start.result in
    let entry = c.lent.ensures ∙ ap (λ ts. (c.args.origin.now, ts)) c.in_ok-types.ensures.ok in
    subst (λ es. Naming c.args.origin.now c.args.records.now c.args.opt_out (lent_keys keys) es c.args.origin.now (lent_keys (drop count keys)))
    (sym (ap (map node_of) (c.in_ok-push.ensures.items ∙ ap (λ ns. ns ++ c.lent.result ∷ []) c.new-names.ensures.items) ∙ ap (λ e. e ∷ []) entry))
    (origin_listed c.args.origin.now c.args.records.now c.args.opt_out keys c.in_ok-keys.ensures.zone.ordered are count c.count_of_name-start.ensures.value)

pub loop-start-smaller-then-are_of_ns : goal.loop-start-smaller-then-are_of_ns
loop-start-smaller-then-are_of_ns c =
    let keys = c.as_slice-keys.result.now in
    let start = c.loop-start.start in
    let counted = counted_from keys start c.count_of_first.result c.index-keys-start.result c.loop-start-test.true c.index-keys-start.is c.count_of_first.ensures.value in
    omega (arith, goes_on keys start c.count_of_first.result c.index-keys-start.result c.loop-start-test.true c.index-keys-start.is counted)

pub loop-start-smaller : goal.loop-start-smaller
loop-start-smaller c =
    let keys = c.as_slice-keys.result.now in
    let start = c.loop-start.start in
    let counted = counted_from keys start c.count_of_first.result c.index-keys-start.result c.loop-start-test.true c.index-keys-start.is c.count_of_first.ensures.value in
    omega (arith, goes_on keys start c.count_of_first.result c.index-keys-start.result c.loop-start-test.true c.index-keys-start.is counted)

pub loop-start-preserved-then-are_of_ns : goal.loop-start-preserved-then-are_of_ns
loop-start-preserved-then-are_of_ns c =
    let keys = c.as_slice-keys.result.now in
    let are = ap lent_keys c.as_slice-keys.ensures.value ∙ c.in_ok-keys.ensures.ok in
    let start = c.loop-start.start in
    let count = c.count_of_first.result in
    let counted = counted_from keys start c.count_of_first.result c.index-keys-start.result c.loop-start-test.true c.index-keys-start.is c.count_of_first.ensures.value in
    passed_over c.args.origin.now c.args.records.now c.args.opt_out keys c.in_ok-keys.ensures.zone.ordered are start count c.index-keys-start.result c.loop-start-test.true c.index-keys-start.is counted
    (map node_of c.loop-start.names.items) c.loop-start.last.now c.loop-start.invariant
    c.are_of_ns.result (c.are_of_ns.ensures ∙ ap are_of_ns (of_count start count keys)) (λ i. c.if-opt_out.true i && c.if-are_of_ns.true i)

pub loop-start-preserved : goal.loop-start-preserved
loop-start-preserved c =
    let keys = c.as_slice-keys.result.now in
    let are = ap lent_keys c.as_slice-keys.ensures.value ∙ c.in_ok-keys.ensures.ok in
    let start = c.loop-start.start in
    let count = c.count_of_first.result in
    let first = c.index-keys-start.result in
    let counted = counted_from keys start c.count_of_first.result c.index-keys-start.result c.loop-start-test.true c.index-keys-start.is c.count_of_first.ensures.value in
    let own = take count (drop start keys) in
    let old = map node_of c.loop-start.names.items in
    let counts : c.args.opt_out && are_of_ns own ≡ false = elim c.else-opt_out.branch [
      | else-opt_out-via-then-opt_out+else-are_of_ns w ↦ λ i. w.if-opt_out.true i && (sym (w.are_of_ns.ensures ∙ ap are_of_ns (of_count start count keys)) ∙ w.if-are_of_ns.false) i
      | else-opt_out-via-else-opt_out w ↦ ap (λ b. b && are_of_ns own) w.if-opt_out.false
    ] in
    let entry = c.lent-in-loop-start.ensures ∙ ap (λ ts. (first.now.name, ts)) (c.in_ok-signed_types.ensures.ok ∙ ap (λ bs. joined nat_cmp RRSIG (lent_types bs)) (of_count start count keys)) in
    let pushed =
    ap (map node_of) c.in_ok-push-2.ensures.items
    ∙ map-append node_of c.push_new_ancestors.new.names.items (c.lent-in-loop-start.result ∷ [])
    ∙ (λ i. c.in_ok-push_new_ancestors.ensures.ok i ++ entry i ∷ []) in
    subst (λ es. Naming c.args.origin.now c.args.records.now c.args.opt_out (lent_keys keys) es first.now.name (lent_keys (drop (start + count) keys))) (sym pushed)
    (name_listed c.args.origin.now c.args.records.now c.args.opt_out keys c.in_ok-keys.ensures.zone.ordered are start count first c.loop-start-test.true c.index-keys-start.is counted
    old c.loop-start.last.now c.loop-start.invariant (are_of_ns own) refl counts)

pub returns-clause-names : goal.returns-clause-names
returns-clause-names c =
    let keys = c.as_slice-keys.result.now in
    let are = ap lent_keys c.as_slice-keys.ensures.value ∙ c.in_ok-keys.ensures.ok in
    let none = ap lent_keys (drop_of_length-le keys c.loop-start-test.false) in
    names_listed c.loop-start.names.items
    ∙ Naming-end c.args.origin.now c.args.records.now c.args.opt_out (lent_keys keys) c.in_ok-keys.ensures.zone.ordered are (map node_of c.loop-start.names.items) c.loop-start.last.now
    (lent_keys (drop c.loop-start.start keys)) none c.loop-start.invariant

pub returns-clause-types : goal.returns-clause-types
returns-clause-types c =
    let keys = c.as_slice-keys.result.now in
    types_listed c.args.origin.now c.args.records.now c.args.opt_out (lent_keys keys) c.loop-start.names.items c.loop-start.last.now (lent_keys (drop c.loop-start.start keys)) c.loop-start.invariant
