use Rattle.std.proofs.Common.{◌<◌, ◌≤◌, arith, length, ap, sym, ◌∙◌}
use Rattle.std.specs.List.{list_any}
use Rattle.zone_proto.specs.Sets.{RRset, same_set}
use Rattle.zone_lookup.specs.FoundSets.{found_set}
use Rattle.zone_lookup.specs.ListedSets.{set_key}
use Rattle.zone_lookup.proofs.ListedSets.{listed_before, pushed_last, few_pushed, many_pushed}
use Rattle.zone_lookup.proofs.listed_sets.ListedSets.list_new.Goals as goal

pub returns-then-is_among-clause-listed : goal.returns-then-is_among-clause-listed
returns-then-is_among-clause-listed c =
    listed_before c.args.self.now c.self.inside.sets.items c.args.found c.self.view_is
    (sym (c.is_among.ensures
    ∙ ap (list_any (λ f. same_set (found_set f) c.set.result.now)) c.as_slice.ensures.value
    ∙ ap (λ (s : RRset). list_any (λ f. same_set (found_set f) s) c.self.inside.sets.items) c.set.ensures)
    ∙ c.if-is_among.true)

pub invariant_of-self : goal.invariant_of-self
invariant_of-self c =
    let few : length c.self.inside.sets.items < 16 = omega (arith, c.if-len-lt-LIST_LIMIT.true, c.len.ensures) in
    few_pushed c.push.result c.self.inside.sets.items c.push.new.list.items c.args.found c.self.inside.places.entries few c.push.ensures.ok c.push.ensures.same

pub returns-then-len-lt-LIST_LIMIT-clause-listed : goal.returns-then-len-lt-LIST_LIMIT-clause-listed
returns-then-len-lt-LIST_LIMIT-clause-listed c =
    pushed_last c.push.result c.args.self.now c.self.inside.sets.items c.push.new.list.items c.args.found c.self.view_is
    (sym (c.is_among.ensures
    ∙ ap (list_any (λ f. same_set (found_set f) c.set.result.now)) c.as_slice.ensures.value
    ∙ ap (λ (s : RRset). list_any (λ f. same_set (found_set f) s) c.self.inside.sets.items) c.set.ensures)
    ∙ c.if-is_among.false)
    c.push.ensures.ok

pub returns-then-is_listed-clause-listed : goal.returns-then-is_listed-clause-listed
returns-then-is_listed-clause-listed c =
    listed_before c.args.self.now c.self.inside.sets.items c.args.found c.self.view_is
    (sym (c.is_listed.ensures
    ∙ ap (list_any (λ f. same_set (found_set f) c.set-3.result.now)) c.as_slice-2.ensures.value
    ∙ ap (λ (s : RRset). list_any (λ f. same_set (found_set f) s) c.self.inside.sets.items) c.set-3.ensures)
    ∙ c.if-is_listed.true)

pub invariant_of-self-2 : goal.invariant_of-self-2
invariant_of-self-2 c =
    let many : 16 ≤ length c.self.inside.sets.items = omega (arith, c.if-len-lt-LIST_LIMIT.false, c.len.ensures) in
    many_pushed c.push-2.result c.self.inside.sets.items c.push-2.new.list.items c.args.found c.self.inside.places.entries c.put_place.new.places.entries c.in_ok-key.key c.len-2.result
    c.in_ok-put_place.ensures.ok many (c.in_ok-key.ensures.ok ∙ ap set_key c.set-2.ensures) c.push-2.ensures.ok c.push-2.ensures.same c.self.invariant

pub returns-clause-listed : goal.returns-clause-listed
returns-clause-listed c =
    pushed_last c.push-2.result c.args.self.now c.self.inside.sets.items c.push-2.new.list.items c.args.found c.self.view_is
    (sym (c.is_listed.ensures
    ∙ ap (list_any (λ f. same_set (found_set f) c.set-3.result.now)) c.as_slice-2.ensures.value
    ∙ ap (λ (s : RRset). list_any (λ f. same_set (found_set f) s) c.self.inside.sets.items) c.set-3.ensures)
    ∙ c.if-is_listed.false)
    c.push-2.ensures.ok
