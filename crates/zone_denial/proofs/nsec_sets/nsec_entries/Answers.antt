use Rattle.std.proofs.Common.{◌+◌, ◌++◌, List, [], ◌∷◌, map, drop, sym, ap, ◌∙◌, subst, arith}
use Rattle.std.specs.Borrow.{Bor}
use Rattle.std.specs.Ordering.{nat_cmp}
use Rattle.std.proofs.Math.ListN.{drop_of_length-le}
use Rattle.zone_proto.specs.declared.rr_key.RrKey.{RrKey}
use Rattle.zone_proto.specs.Keys.{key, key_cmp}
use Rattle.zone_proto.specs.Sets.{RRset}
use Rattle.zone_proto.specs.Types.{RRSIG, NSEC}
use Rattle.zone_map.specs.Zones.{Sets}
use Rattle.zone_denial.specs.NsecLinks.{first_name}
use Rattle.zone_denial.specs.NsecSets.{nsec_data, new_set}
use Rattle.zone_denial.specs.TypeLists.{joined}
use Rattle.zone_denial.proofs.Ascending.{Ascends-from_sorted}
use Rattle.zone_denial.proofs.Sets.Linking.{Linking, Linking-start, Linking-end}
use Rattle.zone_denial.proofs.Sets.KeyRuns.{lent_keys, to_end, of_count, goes_on, Linking-step, counted_from}
use Rattle.zone_denial.proofs.nsec_sets.nsec_entries.Goals as goal

pub loop-start-init : goal.loop-start-init
loop-start-init c =
    let ks = lent_keys c.args.keys.now in
    subst (λ (es : Sets). Linking c.args.origin.now ks c.args.ttl c.args.serial es ks) (sym c.new-entries.ensures.items)
    (Linking-start c.args.origin.now ks c.args.ttl c.args.serial (Ascends-from_sorted key_cmp ks c.requires))

pub loop-start-smaller : goal.loop-start-smaller
loop-start-smaller c =
    let keys = c.args.keys.now in
    let start = c.loop-start.start in
    let counted = counted_from keys start c.count_of_first.result c.index-keys-start.result c.loop-start-test.true c.index-keys-start.is c.count_of_first.ensures.value in
    omega (arith, goes_on keys start c.count_of_first.result c.index-keys-start.result c.loop-start-test.true c.index-keys-start.is counted)

pub loop-start-preserved : goal.loop-start-preserved
loop-start-preserved c =
    let keys = c.args.keys.now in
    let ks = lent_keys keys in
    let start = c.loop-start.start in
    let count = c.count_of_first.result in
    let name = c.index-keys-start.result.now.name in
    let counted = counted_from keys start c.count_of_first.result c.index-keys-start.result c.loop-start-test.true c.index-keys-start.is c.count_of_first.ensures.value in
    let others = drop (start + count) keys in
    let next = c.first_name-next.ensures ∙ ap (λ bs. first_name c.args.origin.now (lent_keys bs)) (to_end (start + count) keys) in
    let types = c.in_ok-types.ensures.ok ∙ ap (λ (bs : List (Bor RrKey)). joined nat_cmp NSEC (joined nat_cmp RRSIG (map (λ b. b.now.record_type.0) bs))) (of_count start count keys) in
    let entry = c.in_ok-nsec_entry.ensures.ok ∙ (λ i. (key name NSEC, new_set c.args.ttl c.args.serial name (nsec_data (next i) (types i)))) in
    subst (λ (es : Sets). Linking c.args.origin.now ks c.args.ttl c.args.serial es (lent_keys others)) (sym (c.in_ok-push.ensures.items ∙ ap (λ (e : RrKey × RRset). c.loop-start.entries.items ++ e ∷ []) entry))
    (Linking-step keys start count c.index-keys-start.result c.loop-start-test.true c.index-keys-start.is counted c.args.origin.now ks c.args.ttl c.args.serial c.loop-start.entries.items c.loop-start.invariant)

pub returns-clause-ok : goal.returns-clause-ok
returns-clause-ok c =
    let ks = lent_keys c.args.keys.now in
    let none = ap lent_keys (drop_of_length-le c.args.keys.now c.loop-start-test.false) in
    Linking-end c.args.origin.now ks c.args.ttl c.args.serial c.loop-start.entries.items (lent_keys (drop c.loop-start.start c.args.keys.now)) none c.loop-start.invariant
