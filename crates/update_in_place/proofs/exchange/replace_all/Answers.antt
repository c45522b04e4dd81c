use Rattle.std.proofs.Common.{◌≡◌, [], ◌∷◌, sym, ap, ◌∙◌, subst}
use Rattle.std.specs.Prelude.{fold}
use Rattle.std.specs.List.{AllByRecursion}
use Rattle.std.specs.Map.{lookup}
use Rattle.std.proofs.lemmas.List.{nil_from_length}
use Rattle.std.proofs.lemmas.List.Elements.{recursion_from_All}
use Rattle.std.specs.Vec.Iter.{into_iter_items, into_iter_deque}
use Rattle.zone_proto.specs.Keys.{key_eq}
use Rattle.zone_proto.specs.Sets.{RRset}
use Rattle.zone_proto.specs.declared.rr_key.RrKey.{RrKey}
use Rattle.zone_map.specs.Zones.{IsStoredAt, Sets}
use Rattle.update_in_place.specs.Parts.{with_replaced}
use Rattle.update_in_place.proofs.Replaced.{found_replaced}
use Rattle.update_in_place.proofs.exchange.replace_all.Goals as goal

pub loop-key-init : goal.loop-key-init
loop-key-init c =
    let all : into_iter_items c.into_iter-key-iterator.result ≡ c.args.sets.items = c.into_iter-key-iterator.ensures.into_iter_gives.0 in
    record {
      stored =
          subst (AllByRecursion (λ (e : RrKey × RRset). IsStoredAt e.0.name e.0.record_type.0 e.1)) (sym all)
          (recursion_from_All (λ (e : RrKey × RRset). IsStoredAt e.0.name e.0.record_type.0 e.1) c.args.sets.items c.requires.stored);
      left = ap (fold with_replaced c.args.zone.now) all;
    }

pub replace-requires : goal.replace-requires
replace-requires c =
    let steps : into_iter_items c.loop-key.key-iterator ≡ (c.in-Some.key, c.in-Some.set) ∷ into_iter_items c.next.new.self = c.in-Some.ensures.steps.0 in
    (subst (AllByRecursion (λ (e : RrKey × RRset). IsStoredAt e.0.name e.0.record_type.0 e.1)) steps c.loop-key.invariant.stored).0

pub loop-key-preserved : goal.loop-key-preserved
loop-key-preserved c =
    let left = into_iter_items c.next.new.self in
    let steps : into_iter_items c.loop-key.key-iterator ≡ (c.in-Some.key, c.in-Some.set) ∷ left = c.in-Some.ensures.steps.0 in
    record {
      stored = (subst (AllByRecursion (λ (e : RrKey × RRset). IsStoredAt e.0.name e.0.record_type.0 e.1)) steps c.loop-key.invariant.stored).1;
      left =
          ap (λ (m : Sets). fold with_replaced m left) c.replace.ensures.replaced
          ∙ sym (ap (fold with_replaced c.loop-key.zone) steps)
          ∙ c.loop-key.invariant.left;
    }

pub returns : goal.returns
returns c =
    let left = c.loop-key.key-iterator in
    let none : into_iter_items left ≡ [] = nil_from_length (into_iter_items left) (sym (into_iter_deque left).ok.0 ∙ c.in-None.ensures.steps.0) in
    let done : c.loop-key.zone ≡ fold with_replaced c.args.zone.now c.args.sets.items = sym (ap (fold with_replaced c.loop-key.zone) none) ∙ c.loop-key.invariant.left in
    λ k. ap (λ (m : Sets). lookup (key_eq k) m) done ∙ found_replaced k c.args.zone.now c.args.sets.items c.requires.ordered
