use Rattle.std.proofs.Common.{◌≡◌, [], ◌∷◌, ◌++◌, sym, ap, ◌∙◌, subst}
use Rattle.std.proofs.lemmas.List.{nil_from_length}
use Rattle.std.specs.List.{AllByRecursion}
use Rattle.std.specs.Map.{keys_of}
use Rattle.std.specs.Vec.Iter.{into_iter_items, into_iter_deque}
use Rattle.zone_proto.specs.declared.rr_key.RrKey.{RrKey}
use Rattle.zone_builder.specs.declared.groups.Group.{Group}
use Rattle.zone_builder.specs.Groups.{all_records_in, all_signatures_in, AreNamed, AreOrdered, AreSorted, AreUpTo}
use Rattle.zone_builder.proofs.Joining.{no_more_groups, none_before, one_more_group, ordered_none, still_before}
use Rattle.zone_builder.proofs.groups.joined.Goals as goal

pub loop-key-init : goal.loop-key-init
loop-key-init c =
    let left = into_iter_items c.into_iter-key-iterator.result in
    let all : left ≡ c.args.groups.items = c.into_iter-key-iterator.ensures.into_iter_gives.0 in
    let none = sym c.in_ok-joined.ensures.items in
    record {
      named = subst AreNamed none tt;
      ordered = subst AreOrdered none ordered_none;
      named_left = subst AreNamed (sym all) c.requires.named;
      sorted = subst AreSorted (sym all) c.requires.sorted;
      before = subst (λ es. AllByRecursion (λ (q : RrKey). AreUpTo es q) (keys_of left)) none (none_before left);
      records = λ k. ap (λ es. all_records_in es k ++ all_records_in left k) c.in_ok-joined.ensures.items ∙ ap (λ es. all_records_in es k) all;
      signatures = λ k. ap (λ es. all_signatures_in es k ++ all_signatures_in left k) c.in_ok-joined.ensures.items ∙ ap (λ es. all_signatures_in es k) all;
    }

pub put_behind-requires : goal.put_behind-requires
put_behind-requires c = (subst AreNamed c.in-Some.ensures.steps.0 c.loop-key.invariant.named_left).0

pub loop-key-preserved : goal.loop-key-preserved
loop-key-preserved c =
    let left = into_iter_items c.loop-key.key-iterator in
    let rest = into_iter_items c.next.new.self in
    let steps : left ≡ (c.in-Some.key, c.in-Some.group) ∷ rest = c.in-Some.ensures.steps.0 in
    let before = c.loop-key.joined.items in
    let after = c.put_behind.new.groups.items in
    let invariant = c.loop-key.invariant in
    let put = c.in_ok-put_behind.ensures in
    let sorted = subst AreSorted steps invariant.sorted in
    let ahead = subst (λ es. AllByRecursion (λ (q : RrKey). AreUpTo before q) (keys_of es)) steps invariant.before in
    record {
      named = put.named invariant.named;
      ordered = put.ordered invariant.ordered ahead.0;
      named_left = (subst AreNamed steps invariant.named_left).1;
      sorted = sorted.1;
      before = still_before before after rest c.in-Some.key put.up_to sorted.0 ahead.1;
      records = λ k.
          one_more_group (λ (g : Group). g.records.items) (all_records_in before k) (all_records_in after k) left rest c.in-Some.key c.in-Some.group k (put.records k) steps
          ∙ invariant.records k;
      signatures = λ k.
          one_more_group (λ (g : Group). g.signatures.items) (all_signatures_in before k) (all_signatures_in after k) left rest c.in-Some.key c.in-Some.group k (put.signatures k) steps
          ∙ invariant.signatures k;
    }

pub returns-clause-records : goal.returns-clause-records
returns-clause-records c = λ k.
    let left = c.loop-key.key-iterator in
    let none : into_iter_items left ≡ [] = nil_from_length (into_iter_items left) (sym (into_iter_deque left).ok.0 ∙ c.in-None.ensures.steps.0) in
    no_more_groups (λ (g : Group). g.records.items) (all_records_in c.loop-key.joined.items k) (into_iter_items left) k none ∙ c.loop-key.invariant.records k

pub returns-clause-signatures : goal.returns-clause-signatures
returns-clause-signatures c = λ k.
    let left = c.loop-key.key-iterator in
    let none : into_iter_items left ≡ [] = nil_from_length (into_iter_items left) (sym (into_iter_deque left).ok.0 ∙ c.in-None.ensures.steps.0) in
    no_more_groups (λ (g : Group). g.signatures.items) (all_signatures_in c.loop-key.joined.items k) (into_iter_items left) k none ∙ c.loop-key.invariant.signatures k
