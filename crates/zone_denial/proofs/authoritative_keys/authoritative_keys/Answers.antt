use Rattle.std.proofs.Common.{[], ◌∷◌, ◌++◌, List, map, sym, ap, ◌∙◌}
use Rattle.std.specs.Prelude.{None, option_map}
use Rattle.std.specs.Borrow.{Bor}
use Rattle.std.specs.Map.{keys_of}
use Rattle.std.proofs.lemmas.List.{map-append}
use Rattle.zone_proto.specs.declared.rr_key.RrKey.{RrKey}
use Rattle.zone_denial.proofs.Sets.CircleKeys.{kept, passed_over, counted, kept_all, kept_is_authoritative}
use Rattle.zone_denial.proofs.authoritative_keys.authoritative_keys.Goals as goal

pub loop-key-preserved-in-Continue-branch-2 : goal.loop-key-preserved-in-Continue-branch-2
loop-key-preserved-in-Continue-branch-2 c =
    let old = option_map (λ a. a.now) c.loop-key.cut in
    let new = option_map (λ a. a.now) c.counts.new.cut in
    ap (λ (ks : List (Bor RrKey)). map (λ k. k.now) ks ++ kept c.args.origin.now c.args.denial.0 new (keys_of c.next.new.self)) c.in_ok-push.ensures.items
    ∙ ap (λ ks. ks ++ kept c.args.origin.now c.args.denial.0 new (keys_of c.next.new.self)) (map-append (λ (k : Bor RrKey). k.now) c.loop-key.keys.items (c.in-Some.key ∷ []))
    ∙ counted c.args.origin.now c.args.denial.0 old new (map (λ k. k.now) c.loop-key.keys.items) (kept c.args.origin.now c.args.denial.0 None (keys_of c.args.records.now)) c.loop-key.key-iterator c.next.new.self
    (c.in-Some.key.now, c.in-Some.field-0-1.now) c.in-Some.ensures.steps c.loop-key.invariant c.counts.ensures.cut (sym c.counts.ensures.counted ∙ c.if-counts.true)

pub loop-key-preserved : goal.loop-key-preserved
loop-key-preserved c =
    let old = option_map (λ a. a.now) c.loop-key.cut in
    let new = option_map (λ a. a.now) c.counts.new.cut in
    passed_over c.args.origin.now c.args.denial.0 old new (map (λ k. k.now) c.loop-key.keys.items) (kept c.args.origin.now c.args.denial.0 None (keys_of c.args.records.now)) c.loop-key.key-iterator c.next.new.self
    (c.in-Some.key.now, c.in-Some.field-0-1.now) c.in-Some.ensures.steps c.loop-key.invariant c.counts.ensures.cut (sym c.counts.ensures.counted ∙ c.if-counts.false)

pub returns-clause-ok : goal.returns-clause-ok
returns-clause-ok c =
    kept_all c.args.origin.now c.args.denial.0 (option_map (λ a. a.now) c.loop-key.cut) (map (λ k. k.now) c.loop-key.keys.items) (kept c.args.origin.now c.args.denial.0 None (keys_of c.args.records.now))
    c.loop-key.key-iterator c.loop-key.invariant c.in-None.ensures.steps.0
    ∙ kept_is_authoritative c.args.origin.now c.args.records.now c.args.denial.0 c.iter-key-items.ensures.zone.ordered
