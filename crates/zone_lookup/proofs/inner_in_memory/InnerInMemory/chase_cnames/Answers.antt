use Rattle.std.proofs.Common.{◌≡◌, ◌<◌, arith, ap, sym, ◌∙◌, [], ◌∷◌, ◌++◌, length, false}
use Rattle.std.specs.Prelude.{Some, option_map, option_and_then}
use Rattle.std.specs.List.{list_any}
use Rattle.std.specs.Ordering.{eq_by_cmp}
use Rattle.zone_proto.specs.Names.{name_cmp, name_eq}
use Rattle.zone_map.specs.Chains.{cname_target}
use Rattle.zone_lookup.specs.FoundSets.{found_set, lent_set}
use Rattle.zone_lookup.proofs.Chasing.{asked, no_value, begins, goes_on, ends_full, ends_at_no_target, ends_at_seen, ends_unfound, is_chain, is_lent, is_counted}
use Rattle.zone_lookup.proofs.inner_in_memory.InnerInMemory.chase_cnames.Goals as goal
use Rattle.zone_lookup.proofs.inner_in_memory.InnerInMemory.chase_cnames.Goals.{else-loop-query_type-test, then-loop-query_type-test+in_default, then-loop-query_type-test+in-Some+then-contains, then-loop-query_type-test+in-Some+else-contains+in_ok-found+in_default-2}

pub loop-query_type-init : goal.loop-query_type-init
loop-query_type-init g c =
    begins c.args.self.now.records c.args.lookup_options.dnssec_ok c.args.query_type.0 c.args.name.now c.args.first c.args.searches.now
    c.push-2.new.list.items c.push.new.list.items c.in_ok-next.next
    (c.in_ok-push-2.ensures.ok ∙ ap (λ xs. xs ++ c.args.first ∷ []) c.new-chain.ensures.items)
    (c.in_ok-push.ensures.ok ∙ ap (λ xs. xs ++ c.in_ok-clone.field-0 ∷ []) c.new-seen.ensures.items ∙ ap (λ x. x ∷ []) c.in_ok-clone.ensures.copy.ok)
    (c.in_ok-next.ensures.target ∙ ap cname_target c.set.ensures)

pub loop-query_type-preserved : goal.loop-query_type-preserved
loop-query_type-preserved g c =
    let room : length c.loop-query_type.chain.items < 8 = omega (arith, c.loop-query_type-test.true, c.len.ensures) in
    let next : c.loop-query_type.next ≡ Some c.in-Some.target = sym c.take.ensures.value ∙ c.in-Some.is in
    let new : list_any (name_eq c.in-Some.target) c.loop-query_type.seen.items ≡ false =
    sym (asked c.in-Some.target c.loop-query_type.seen.items)
    ∙ ap (list_any (λ y. eq_by_cmp name_cmp y c.in-Some.target)) (sym c.deref.ensures.value) ∙ sym c.contains.ensures.value ∙ c.if-contains.false in
    goes_on c.args.self.now.records c.args.lookup_options.dnssec_ok c.args.query_type.0 c.args.name.now c.args.first c.args.searches.now
    c.loop-query_type.chain.items c.push-in-loop-query_type-2.new.list.items c.loop-query_type.seen.items c.push-in-loop-query_type.new.list.items c.loop-query_type.next c.in_ok-next-2.next
    c.loop-query_type.searches c.inner_lookup.new.searches c.in-Some.target c.in-Some-2.found
    c.loop-query_type.invariant room next new
    (sym c.in_ok-found.ensures.found ∙ ap (option_map found_set) c.in-Some-2.is)
    (ap (option_and_then lent_set) (sym c.in-Some-2.is) ∙ c.in_ok-found.ensures.lent)
    c.in_ok-push-4.ensures.ok c.in_ok-push-3.ensures.ok
    (c.in_ok-next-2.ensures.target ∙ ap cname_target c.set-in-loop-query_type.ensures)
    c.inner_lookup.ensures.counted

pub returns-clause-chain : goal.returns-clause-chain
returns-clause-chain g c =
    is_chain c.args.self.now.records c.args.lookup_options.dnssec_ok c.args.query_type.0 c.args.name.now c.args.first c.args.searches.now
    c.loop-query_type.chain.items c.loop-query_type.seen.items c.loop-query_type.next c.loop-query_type.searches c.loop-query_type-test.searches c.loop-query_type.invariant
    (elim c.loop-query_type-test.branch [
      | else-loop-query_type-test w ↦ ends_full c.args.self.now.records c.args.lookup_options.dnssec_ok c.args.query_type.0 c.args.name.now c.args.first c.args.searches.now
          c.loop-query_type.chain.items c.loop-query_type.seen.items c.loop-query_type.next c.loop-query_type.searches c.loop-query_type-test.searches (omega (arith, w.loop-query_type-test.false, c.len.ensures)) w.searches-is
      | then-loop-query_type-test+in_default w ↦ ends_at_no_target c.args.self.now.records c.args.lookup_options.dnssec_ok c.args.query_type.0 c.args.name.now c.args.first c.args.searches.now
          c.loop-query_type.chain.items c.loop-query_type.seen.items c.loop-query_type.next c.loop-query_type.searches c.loop-query_type-test.searches (no_value c.loop-query_type.next (λ x q. w.in_default.not-Some x (w.take.ensures.value ∙ q))) w.searches-is
      | then-loop-query_type-test+in-Some+then-contains w ↦ ends_at_seen c.args.self.now.records c.args.lookup_options.dnssec_ok c.args.query_type.0 c.args.name.now c.args.first c.args.searches.now
          c.loop-query_type.chain.items c.loop-query_type.seen.items c.loop-query_type.next c.loop-query_type.searches c.loop-query_type-test.searches w.in-Some.target (sym w.take.ensures.value ∙ w.in-Some.is)
          (sym (asked w.in-Some.target c.loop-query_type.seen.items) ∙ ap (list_any (λ y. eq_by_cmp name_cmp y w.in-Some.target)) (sym w.deref.ensures.value) ∙ sym w.contains.ensures.value ∙ w.if-contains.true) w.searches-is
      | then-loop-query_type-test+in-Some+else-contains+in_ok-found+in_default-2 w ↦ ends_unfound c.args.self.now.records c.args.lookup_options.dnssec_ok c.args.query_type.0 c.args.name.now c.args.first c.args.searches.now
          c.loop-query_type.chain.items c.loop-query_type.seen.items c.loop-query_type.next c.loop-query_type.searches c.loop-query_type-test.searches w.in-Some.target (omega (arith, w.loop-query_type-test.true, c.len.ensures)) (sym w.take.ensures.value ∙ w.in-Some.is)
          (sym (asked w.in-Some.target c.loop-query_type.seen.items) ∙ ap (list_any (λ y. eq_by_cmp name_cmp y w.in-Some.target)) (sym w.deref.ensures.value) ∙ sym w.contains.ensures.value ∙ w.if-contains.false)
          (sym w.in_ok-found.ensures.found ∙ ap (option_map found_set) (no_value w.in_ok-found.field-0 w.in_default-2.not-Some))
          (w.searches-is ∙ w.inner_lookup.ensures.counted)
    ])

pub returns-clause-lent : goal.returns-clause-lent
returns-clause-lent g c =
    is_lent c.args.self.now.records c.args.lookup_options.dnssec_ok c.args.query_type.0 c.args.name.now c.args.first c.args.searches.now
    c.loop-query_type.chain.items c.loop-query_type.seen.items c.loop-query_type.next c.loop-query_type.searches c.loop-query_type-test.searches c.loop-query_type.invariant
    (elim c.loop-query_type-test.branch [
      | else-loop-query_type-test w ↦ ends_full c.args.self.now.records c.args.lookup_options.dnssec_ok c.args.query_type.0 c.args.name.now c.args.first c.args.searches.now
          c.loop-query_type.chain.items c.loop-query_type.seen.items c.loop-query_type.next c.loop-query_type.searches c.loop-query_type-test.searches (omega (arith, w.loop-query_type-test.false, c.len.ensures)) w.searches-is
      | then-loop-query_type-test+in_default w ↦ ends_at_no_target c.args.self.now.records c.args.lookup_options.dnssec_ok c.args.query_type.0 c.args.name.now c.args.first c.args.searches.now
          c.loop-query_type.chain.items c.loop-query_type.seen.items c.loop-query_type.next c.loop-query_type.searches c.loop-query_type-test.searches (no_value c.loop-query_type.next (λ x q. w.in_default.not-Some x (w.take.ensures.value ∙ q))) w.searches-is
      | then-loop-query_type-test+in-Some+then-contains w ↦ ends_at_seen c.args.self.now.records c.args.lookup_options.dnssec_ok c.args.query_type.0 c.args.name.now c.args.first c.args.searches.now
          c.loop-query_type.chain.items c.loop-query_type.seen.items c.loop-query_type.next c.loop-query_type.searches c.loop-query_type-test.searches w.in-Some.target (sym w.take.ensures.value ∙ w.in-Some.is)
          (sym (asked w.in-Some.target c.loop-query_type.seen.items) ∙ ap (list_any (λ y. eq_by_cmp name_cmp y w.in-Some.target)) (sym w.deref.ensures.value) ∙ sym w.contains.ensures.value ∙ w.if-contains.true) w.searches-is
      | then-loop-query_type-test+in-Some+else-contains+in_ok-found+in_default-2 w ↦ ends_unfound c.args.self.now.records c.args.lookup_options.dnssec_ok c.args.query_type.0 c.args.name.now c.args.first c.args.searches.now
          c.loop-query_type.chain.items c.loop-query_type.seen.items c.loop-query_type.next c.loop-query_type.searches c.loop-query_type-test.searches w.in-Some.target (omega (arith, w.loop-query_type-test.true, c.len.ensures)) (sym w.take.ensures.value ∙ w.in-Some.is)
          (sym (asked w.in-Some.target c.loop-query_type.seen.items) ∙ ap (list_any (λ y. eq_by_cmp name_cmp y w.in-Some.target)) (sym w.deref.ensures.value) ∙ sym w.contains.ensures.value ∙ w.if-contains.false)
          (sym w.in_ok-found.ensures.found ∙ ap (option_map found_set) (no_value w.in_ok-found.field-0 w.in_default-2.not-Some))
          (w.searches-is ∙ w.inner_lookup.ensures.counted)
    ])

pub returns-clause-counted : goal.returns-clause-counted
returns-clause-counted g c =
    is_counted c.args.self.now.records c.args.lookup_options.dnssec_ok c.args.query_type.0 c.args.name.now c.args.first c.args.searches.now
    c.loop-query_type.chain.items c.loop-query_type.seen.items c.loop-query_type.next c.loop-query_type.searches c.loop-query_type-test.searches c.loop-query_type.invariant
    (elim c.loop-query_type-test.branch [
      | else-loop-query_type-test w ↦ ends_full c.args.self.now.records c.args.lookup_options.dnssec_ok c.args.query_type.0 c.args.name.now c.args.first c.args.searches.now
          c.loop-query_type.chain.items c.loop-query_type.seen.items c.loop-query_type.next c.loop-query_type.searches c.loop-query_type-test.searches (omega (arith, w.loop-query_type-test.false, c.len.ensures)) w.searches-is
      | then-loop-query_type-test+in_default w ↦ ends_at_no_target c.args.self.now.records c.args.lookup_options.dnssec_ok c.args.query_type.0 c.args.name.now c.args.first c.args.searches.now
          c.loop-query_type.chain.items c.loop-query_type.seen.items c.loop-query_type.next c.loop-query_type.searches c.loop-query_type-test.searches (no_value c.loop-query_type.next (λ x q. w.in_default.not-Some x (w.take.ensures.value ∙ q))) w.searches-is
      | then-loop-query_type-test+in-Some+then-contains w ↦ ends_at_seen c.args.self.now.records c.args.lookup_options.dnssec_ok c.args.query_type.0 c.args.name.now c.args.first c.args.searches.now
          c.loop-query_type.chain.items c.loop-query_type.seen.items c.loop-query_type.next c.loop-query_type.searches c.loop-query_type-test.searches w.in-Some.target (sym w.take.ensures.value ∙ w.in-Some.is)
          (sym (asked w.in-Some.target c.loop-query_type.seen.items) ∙ ap (list_any (λ y. eq_by_cmp name_cmp y w.in-Some.target)) (sym w.deref.ensures.value) ∙ sym w.contains.ensures.value ∙ w.if-contains.true) w.searches-is
      | then-loop-query_type-test+in-Some+else-contains+in_ok-found+in_default-2 w ↦ ends_unfound c.args.self.now.records c.args.lookup_options.dnssec_ok c.args.query_type.0 c.args.name.now c.args.first c.args.searches.now
          c.loop-query_type.chain.items c.loop-query_type.seen.items c.loop-query_type.next c.loop-query_type.searches c.loop-query_type-test.searches w.in-Some.target (omega (arith, w.loop-query_type-test.true, c.len.ensures)) (sym w.take.ensures.value ∙ w.in-Some.is)
          (sym (asked w.in-Some.target c.loop-query_type.seen.items) ∙ ap (list_any (λ y. eq_by_cmp name_cmp y w.in-Some.target)) (sym w.deref.ensures.value) ∙ sym w.contains.ensures.value ∙ w.if-contains.false)
          (sym w.in_ok-found.ensures.found ∙ ap (option_map found_set) (no_value w.in_ok-found.field-0 w.in_default-2.not-Some))
          (w.searches-is ∙ w.inner_lookup.ensures.counted)
    ])
