use Rattle.std.proofs.Common.{[], ◌∷◌, ◌++◌, List, map, sym, ap, ◌∙◌}
use Rattle.std.specs.Prelude.{None, option_map, option_copied}
use Rattle.std.specs.Borrow.{Bor}
use Rattle.std.specs.Map.{keys_of}
use Rattle.std.proofs.lemmas.List.{map-append}
use Rattle.zone_proto.specs.declared.rr_key.RrKey.{RrKey}
use Rattle.zone_proto.specs.Sets.{RRset}
use Rattle.zone_proto.specs.Types.{NSEC3}
use Rattle.zone_denial.specs.Chains.{chain_sets}
use Rattle.zone_denial.proofs.Chains.ChainSets.{is_zone}
use Rattle.zone_denial.proofs.Sets.CircleKeys.{kept, passed_over, counted, kept_all, kept_is_authoritative}
use Rattle.zone_verify.specs.ChainSets.{kind_of, sets_of}
use Rattle.zone_verify.proofs.Kept.{one_stays}
use Rattle.zone_verify.proofs.authoritative_keys.authoritative_keys.Goals as goal

pub loop-key-preserved-in-Continue-branch-2 : goal.loop-key-preserved-in-Continue-branch-2
loop-key-preserved-in-Continue-branch-2 c =
    let kind = kind_of (option_copied c.args.sets.now.parameters) in
    let old = option_map (λ a. a.now) c.loop-key.cut in
    let new = option_map (λ a. a.now) c.counts.new.cut in
    let e : RrKey × RRset = (c.in-Some.key.now, c.in-Some.set.now) in
    let after = chain_sets kind c.next.new.self in
    ap (λ (ks : List (Bor RrKey)). map (λ k. k.now) ks ++ kept c.args.origin.now NSEC3 new (keys_of after)) c.in_ok-push.ensures.items
    ∙ ap (λ ks. ks ++ kept c.args.origin.now NSEC3 new (keys_of after)) (map-append (λ (k : Bor RrKey). k.now) c.loop-key.keys.items (c.in-Some.key ∷ []))
    ∙ counted c.args.origin.now NSEC3 old new (map (λ k. k.now) c.loop-key.keys.items) (kept c.args.origin.now NSEC3 None (keys_of (sets_of c.args.sets.now))) (chain_sets kind c.loop-key.key-iterator) after
    e (one_stays kind c.loop-key.key-iterator c.next.new.self e c.in-Some.ensures.steps (sym c.has.ensures ∙ c.if-not-has.false)) c.loop-key.invariant c.counts.ensures.cut (sym c.counts.ensures.counted ∙ c.if-counts.true)

pub loop-key-preserved : goal.loop-key-preserved
loop-key-preserved c =
    let kind = kind_of (option_copied c.args.sets.now.parameters) in
    let old = option_map (λ a. a.now) c.loop-key.cut in
    let new = option_map (λ a. a.now) c.counts.new.cut in
    let e : RrKey × RRset = (c.in-Some.key.now, c.in-Some.set.now) in
    passed_over c.args.origin.now NSEC3 old new (map (λ k. k.now) c.loop-key.keys.items) (kept c.args.origin.now NSEC3 None (keys_of (sets_of c.args.sets.now))) (chain_sets kind c.loop-key.key-iterator)
    (chain_sets kind c.next.new.self) e (one_stays kind c.loop-key.key-iterator c.next.new.self e c.in-Some.ensures.steps (sym c.has.ensures ∙ c.if-not-has.false)) c.loop-key.invariant
    c.counts.ensures.cut (sym c.counts.ensures.counted ∙ c.if-counts.false)

pub returns-clause-ok : goal.returns-clause-ok
returns-clause-ok c =
    let kind = kind_of (option_copied c.args.sets.now.parameters) in
    kept_all c.args.origin.now NSEC3 (option_map (λ a. a.now) c.loop-key.cut) (map (λ k. k.now) c.loop-key.keys.items) (kept c.args.origin.now NSEC3 None (keys_of (sets_of c.args.sets.now)))
    (chain_sets kind c.loop-key.key-iterator) c.loop-key.invariant (ap (chain_sets kind) c.in-None.ensures.steps.0)
    ∙ kept_is_authoritative c.args.origin.now (sets_of c.args.sets.now) NSEC3 (is_zone kind c.args.sets.now.records.now c.iter-key-items.ensures.zone).ordered
