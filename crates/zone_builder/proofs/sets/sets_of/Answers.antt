use Rattle.std.proofs.Common.{rules, ◌≡◌, List, [], ◌++◌, sym, ap, ◌∙◌, subst, append-nil}
use Rattle.std.specs.Prelude.{Option, Result, Ok, Err, IfOk, option_and_then}
use Rattle.std.specs.List.{AllByRecursion, flat_map}
use Rattle.std.specs.List.Sorted.{IsStrictlySortedBy}
use Rattle.std.specs.Map.{keys_of, lookup}
use Rattle.std.specs.Vec.Iter.{into_iter_items, into_iter_deque}
use Rattle.std.proofs.lemmas.List.{nil_from_length}
use Rattle.std.proofs.lemmas.List.Elements.{All-nil}
use Rattle.zone_proto.specs.declared.error.ProtoError.{ProtoError}
use Rattle.zone_proto.specs.declared.rr_key.RrKey.{RrKey}
use Rattle.zone_proto.specs.Keys.{key_cmp, key_eq}
use Rattle.zone_proto.specs.Sets.{RRset}
use Rattle.zone_map.specs.Zones.{Sets, set_at, IsStoredAt, AreStored}
use Rattle.zone_builder.specs.declared.groups.Group.{Group}
use Rattle.zone_builder.specs.Groups.{group_warnings, AreAlone, IsGroupOf}
use Rattle.zone_builder.specs.Sets.{set_in}
use Rattle.zone_builder.proofs.Making.{set_more, sorted_left, sorted_more, last_alone, sets_with}
use Rattle.zone_builder.proofs.Warned.{groups_warned, on_ok_always}
use Rattle.zone_builder.proofs.sets.sets_of.Goals as goal

-- a map of sets has what is reported about these
told : (sets : Sets) (is : RrKey → Option RRset) (r : Result Sets ProtoError) → ((k : RrKey) → set_at sets k.name k.record_type.0 ≡ is k) → IfOk r (λ map. map ≡ sets)
    → IfOk r (λ map. (k : RrKey) → set_at map k.name k.record_type.0 ≡ is k)
told sets is (Ok map) found h = λ k. ap (λ (m : Sets). set_at m k.name k.record_type.0) h ∙ found k
told sets is (Err e) found h = tt

pub put_set-requires : goal.put_set-requires
put_set-requires c = record {
  group = (subst (AllByRecursion (λ e. IsGroupOf e.0 e.1)) c.in-Some.ensures.steps.0 c.loop-key.invariant.groups).0;
  alone = (subst AreAlone c.in-Some.ensures.steps.0 c.loop-key.invariant.alone).0;
}

pub loop-key-preserved : goal.loop-key-preserved
loop-key-preserved c = record {
  groups = (subst (AllByRecursion (λ e. IsGroupOf e.0 e.1)) c.in-Some.ensures.steps.0 c.loop-key.invariant.groups).1;
  alone = (subst AreAlone c.in-Some.ensures.steps.0 c.loop-key.invariant.alone).1;
  warned =
      groups_warned c.loop-key.warnings.items c.put_set.new.warnings.items (c.in-Some.key, c.in-Some.group) (into_iter_items c.next.new.self) (into_iter_items c.loop-key.key-iterator) c.in_ok-put_set.ensures.warned c.in-Some.ensures.steps.0
      ∙ c.loop-key.invariant.warned;
  ordered = sorted_left c.in-Some.key c.in-Some.group (into_iter_items c.next.new.self) (into_iter_items c.loop-key.key-iterator) c.in-Some.ensures.steps.0 c.loop-key.invariant.ordered;
  ascending = sorted_more c.args.serial c.loop-key.sets.items c.put_set.new.sets.items c.in-Some.key c.in-Some.group (into_iter_items c.next.new.self) (into_iter_items c.loop-key.key-iterator) c.in_ok-put_set.ensures.ok c.in-Some.ensures.steps.0 c.loop-key.invariant.ascending;
  stored = c.in_ok-put_set.ensures.stored c.loop-key.invariant.stored;
  sets = λ k. set_more c.args.serial c.loop-key.sets.items c.put_set.new.sets.items c.in-Some.key c.in-Some.group (into_iter_items c.next.new.self) (into_iter_items c.loop-key.key-iterator) c.in_ok-put_set.ensures.ok c.in-Some.ensures.steps.0 c.loop-key.invariant.ordered k ∙ c.loop-key.invariant.sets k;
}

-- the keys of all sets ascend, where no group is left
in_order : (sets : Sets) (left : List (RrKey × Group)) → left ≡ [] → IsStrictlySortedBy key_cmp (keys_of sets ++ keys_of left) → IsStrictlySortedBy key_cmp (keys_of sets)
in_order sets left none = subst (IsStrictlySortedBy key_cmp) (ap (λ (es : List (RrKey × Group)). keys_of sets ++ keys_of es) none ∙ append-nil (keys_of sets))

pub from_rows-requires : goal.from_rows-requires
from_rows-requires c =
    let left = c.loop-key.key-iterator in
    let none : into_iter_items left ≡ [] = nil_from_length (into_iter_items left) (sym (into_iter_deque left).ok.0 ∙ c.in-None.ensures.steps.0) in
    record { ordered = in_order c.loop-key.sets.items (into_iter_items left) none c.loop-key.invariant.ascending; stored = c.loop-key.invariant.stored }

pub returns-clause-ok : goal.returns-clause-ok
returns-clause-ok c =
    let left = c.loop-key.key-iterator in
    let none : into_iter_items left ≡ [] = nil_from_length (into_iter_items left) (sym (into_iter_deque left).ok.0 ∙ c.in-None.ensures.steps.0) in
    told _ (λ k. option_and_then (set_in c.args.serial) (lookup (key_eq k) c.args.groups.items)) c.from_rows.result
    (λ k. last_alone c.loop-key.sets.items k (in_order c.loop-key.sets.items (into_iter_items left) none c.loop-key.invariant.ascending)
    ∙ ap (λ es. sets_with c.args.serial es c.loop-key.sets.items k) (sym none) ∙ c.loop-key.invariant.sets k)
    c.from_rows.ensures.ok

pub loop-key-init : goal.loop-key-init
loop-key-init c = record {
  groups = search rules;
  alone = search rules;
  warned = search rules;
  ordered = search rules;
  ascending = search rules;
  stored = subst AreStored (sym c.in_ok-sets.ensures.items) (All-nil (λ e. IsStoredAt e.0.name e.0.record_type.0 e.1));
  sets = λ k. search rules;
}

pub returns-clause-warned : goal.returns-clause-warned
returns-clause-warned c =
    let left = c.loop-key.key-iterator in
    let none : into_iter_items left ≡ [] = nil_from_length (into_iter_items left) (sym (into_iter_deque left).ok.0 ∙ c.in-None.ensures.steps.0) in
    on_ok_always c.from_rows.result
    (sym (append-nil c.loop-key.warnings.items) ∙ ap (λ es. c.loop-key.warnings.items ++ flat_map group_warnings es) (sym none) ∙ c.loop-key.invariant.warned)
