use Rattle.std.proofs.Common.{◌≡◌, ◌==◌, ◌+◌, ◌*◌, ◌≤◌, arith, length, ℕ, true, ap, sym, ◌∙◌, subst, map, List, [], ◌∷◌, ◌++◌}
use Rattle.std.specs.declared.alloc.Global.{Global}
use Rattle.std.specs.declared.vec.Vec.{Vec}
use Rattle.zone_lookup.specs.declared.found.Found.{Found}
use Rattle.zone_proto.specs.Sets.{RRset}
use Rattle.zone_proto.specs.Types.{ANAME}
use Rattle.zone_proto.proofs.Members.{no_items}
use Rattle.zone_lookup.specs.FoundSets.{found_set}
use Rattle.zone_lookup.proofs.AdditionalRuns.{two_runs, one_run, two_listed, one_listed}
use Rattle.zone_lookup.proofs.AdditionalLaws.{first_of_hosts, second_of_hosts, own_type, two_made, one_made}
use Rattle.zone_lookup.specs.Additionals.{run_types, alias_sets, AreAdditionals}
use Rattle.zone_lookup.proofs.inner_in_memory.InnerInMemory.additional_search.Goals as goal
use Rattle.zone_lookup.proofs.inner_in_memory.InnerInMemory.additional_search.Goals.{then-names_host+in_ok-from+in_ok-follow+in_ok-follow-2, else-names_host+in_ok-clone+in_ok-push+in_ok-follow-3}

nothing : (sets : Vec Found Global) (listed after : List RRset) → map found_set sets.items ≡ listed → listed ≡ after → (sets.len == 0) ≡ true → after ≡ []
nothing sets listed after e f h = sym (e ∙ f) ∙ ap (map found_set) (no_items sets.items sets.len sets.ok.0 h)

pub returns-then-is_empty-clause-counted : goal.returns-then-is_empty-clause-counted
returns-then-is_empty-clause-counted g c =
    elim c.if-names_host.branch [
      | then-names_host+in_ok-from+in_ok-follow+in_ok-follow-2 w ↦
          let r = two_runs c.args.self.now.records c.args.lookup_options.dnssec_ok c.args.original_name.now c.args.original_type.0 c.args.next_name
          c.new-seen.result.items w.new-seen-then-names_host.result.items w.in_ok-from.from c.new-sets.result w.follow.new.sets w.follow-then-names_host.new.sets
          c.args.searches.now w.follow.new.searches w.follow-then-names_host.new.searches
          (sym c.names_host.ensures ∙ w.if-names_host.true) c.new-seen.ensures.items w.new-seen-then-names_host.ensures.items w.in_ok-from.ensures.copy.ok
          w.in_ok-follow.ensures.followed w.in_ok-follow-2.ensures.followed in
          (r.0, r.1, w.searches-is ∙ r.2)
      | else-names_host+in_ok-clone+in_ok-push+in_ok-follow-3 w ↦
          let r = one_run c.args.self.now.records c.args.lookup_options.dnssec_ok c.args.original_name.now c.args.original_type.0 c.args.next_name
          w.push.new.list.items c.new-sets.result w.follow-else-names_host.new.sets
          c.args.searches.now w.follow-else-names_host.new.searches
          (sym c.names_host.ensures ∙ w.if-names_host.false)
          (w.in_ok-push.ensures.ok ∙ ap (λ xs. xs ++ w.in_ok-clone.field-0 ∷ []) c.new-seen.ensures.items ∙ ap (λ x. x ∷ []) w.in_ok-clone.ensures.copy.ok)
          w.in_ok-follow-3.ensures.followed in
          (r.0, r.1, w.searches-is ∙ r.2)
    ]

pub returns-clause-counted : goal.returns-clause-counted
returns-clause-counted g c =
    elim c.if-names_host.branch [
      | then-names_host+in_ok-from+in_ok-follow+in_ok-follow-2 w ↦
          let r = two_runs c.args.self.now.records c.args.lookup_options.dnssec_ok c.args.original_name.now c.args.original_type.0 c.args.next_name
          c.new-seen.result.items w.new-seen-then-names_host.result.items w.in_ok-from.from c.new-sets.result w.follow.new.sets w.follow-then-names_host.new.sets
          c.args.searches.now w.follow.new.searches w.follow-then-names_host.new.searches
          (sym c.names_host.ensures ∙ w.if-names_host.true) c.new-seen.ensures.items w.new-seen-then-names_host.ensures.items w.in_ok-from.ensures.copy.ok
          w.in_ok-follow.ensures.followed w.in_ok-follow-2.ensures.followed in
          (r.0, r.1, w.searches-is ∙ r.2)
      | else-names_host+in_ok-clone+in_ok-push+in_ok-follow-3 w ↦
          let r = one_run c.args.self.now.records c.args.lookup_options.dnssec_ok c.args.original_name.now c.args.original_type.0 c.args.next_name
          w.push.new.list.items c.new-sets.result w.follow-else-names_host.new.sets
          c.args.searches.now w.follow-else-names_host.new.searches
          (sym c.names_host.ensures ∙ w.if-names_host.false)
          (w.in_ok-push.ensures.ok ∙ ap (λ xs. xs ++ w.in_ok-clone.field-0 ∷ []) c.new-seen.ensures.items ∙ ap (λ x. x ∷ []) w.in_ok-clone.ensures.copy.ok)
          w.in_ok-follow-3.ensures.followed in
          (r.0, r.1, w.searches-is ∙ r.2)
    ]

pub returns-then-is_empty-clause-additionals : goal.returns-then-is_empty-clause-additionals
returns-then-is_empty-clause-additionals g c =
    elim c.if-names_host.branch [
      | then-names_host+in_ok-from+in_ok-follow+in_ok-follow-2 w ↦
          subst (AreAdditionals c.args.self.now.records c.args.lookup_options.dnssec_ok c.args.original_name.now c.args.original_type.0 c.args.next_name)
          (nothing c.into_vec-sets.result c.if-names_host.sets _ c.into_vec-sets.ensures w.sets-is (sym c.is_empty.ensures ∙ c.if-is_empty.true))
          (two_listed c.args.self.now.records c.args.lookup_options.dnssec_ok c.args.original_name.now c.args.original_type.0 c.args.next_name
          c.new-seen.result.items w.new-seen-then-names_host.result.items w.in_ok-from.from c.new-sets.result w.follow.new.sets w.follow-then-names_host.new.sets
          c.args.searches.now w.follow.new.searches w.follow-then-names_host.new.searches
          (sym c.names_host.ensures ∙ w.if-names_host.true) c.new-seen.ensures.items w.new-seen-then-names_host.ensures.items w.in_ok-from.ensures.copy.ok c.new-sets.ensures
          w.in_ok-follow.ensures.followed w.in_ok-follow-2.ensures.followed)
      | else-names_host+in_ok-clone+in_ok-push+in_ok-follow-3 w ↦
          subst (AreAdditionals c.args.self.now.records c.args.lookup_options.dnssec_ok c.args.original_name.now c.args.original_type.0 c.args.next_name)
          (nothing c.into_vec-sets.result c.if-names_host.sets _ c.into_vec-sets.ensures w.sets-is (sym c.is_empty.ensures ∙ c.if-is_empty.true))
          (one_listed c.args.self.now.records c.args.lookup_options.dnssec_ok c.args.original_name.now c.args.original_type.0 c.args.next_name
          w.push.new.list.items c.new-sets.result w.follow-else-names_host.new.sets
          c.args.searches.now w.follow-else-names_host.new.searches
          (sym c.names_host.ensures ∙ w.if-names_host.false)
          (w.in_ok-push.ensures.ok ∙ ap (λ xs. xs ++ w.in_ok-clone.field-0 ∷ []) c.new-seen.ensures.items ∙ ap (λ x. x ∷ []) w.in_ok-clone.ensures.copy.ok)
          c.new-sets.ensures
          w.in_ok-follow-3.ensures.followed)
    ]

pub returns-in_err-follow-clause-at_most : goal.returns-in_err-follow-clause-at_most
returns-in_err-follow-clause-at_most g c =
    two_made c.args.original_type.0 c.args.searches.now c.follow.new.searches (1 + alias_sets c.args.self.now.records) c.args.searches.now (sym c.names_host.ensures ∙ c.if-names_host.true)
    (omega arith) (c.follow.ensures.at_most ANAME first_of_hosts)

pub returns-in_err-follow-2-clause-at_most : goal.returns-in_err-follow-2-clause-at_most
returns-in_err-follow-2-clause-at_most g c =
    two_made c.args.original_type.0 c.args.searches.now c.follow-then-names_host.new.searches (1 + alias_sets c.args.self.now.records) c.follow.new.searches (sym c.names_host.ensures ∙ c.if-names_host.true)
    (c.follow.ensures.at_most ANAME first_of_hosts) (c.follow-then-names_host.ensures.at_most ANAME second_of_hosts)

pub returns-in_err-follow-3-clause-at_most : goal.returns-in_err-follow-3-clause-at_most
returns-in_err-follow-3-clause-at_most g c =
    let none = sym c.names_host.ensures ∙ c.if-names_host.false in
    one_made c.args.original_type.0 c.args.searches.now c.follow-else-names_host.new.searches (1 + alias_sets c.args.self.now.records) none
    (c.follow-else-names_host.ensures.at_most c.args.original_type.0 (own_type c.args.original_type.0 none))

pub returns-then-is_empty-clause-at_most : goal.returns-then-is_empty-clause-at_most
returns-then-is_empty-clause-at_most g c =
    let few : ℕ = 1 + alias_sets c.args.self.now.records in
    let t = c.args.original_type.0 in
    elim c.if-names_host.branch [
      | then-names_host+in_ok-from+in_ok-follow+in_ok-follow-2 w ↦
          subst (λ after. after ≤ c.args.searches.now + length (run_types t) * few) (sym w.searches-is)
          (two_made t c.args.searches.now w.follow-then-names_host.new.searches few w.follow.new.searches (sym c.names_host.ensures ∙ w.if-names_host.true)
          (w.follow.ensures.at_most ANAME first_of_hosts) (w.follow-then-names_host.ensures.at_most ANAME second_of_hosts))
      | else-names_host+in_ok-clone+in_ok-push+in_ok-follow-3 w ↦
          let none = sym c.names_host.ensures ∙ w.if-names_host.false in
          subst (λ after. after ≤ c.args.searches.now + length (run_types t) * few) (sym w.searches-is)
          (one_made t c.args.searches.now w.follow-else-names_host.new.searches few none (w.follow-else-names_host.ensures.at_most t (own_type t none)))
    ]

pub returns-clause-at_most : goal.returns-clause-at_most
returns-clause-at_most g c =
    let few : ℕ = 1 + alias_sets c.args.self.now.records in
    let t = c.args.original_type.0 in
    elim c.if-names_host.branch [
      | then-names_host+in_ok-from+in_ok-follow+in_ok-follow-2 w ↦
          subst (λ after. after ≤ c.args.searches.now + length (run_types t) * few) (sym w.searches-is)
          (two_made t c.args.searches.now w.follow-then-names_host.new.searches few w.follow.new.searches (sym c.names_host.ensures ∙ w.if-names_host.true)
          (w.follow.ensures.at_most ANAME first_of_hosts) (w.follow-then-names_host.ensures.at_most ANAME second_of_hosts))
      | else-names_host+in_ok-clone+in_ok-push+in_ok-follow-3 w ↦
          let none = sym c.names_host.ensures ∙ w.if-names_host.false in
          subst (λ after. after ≤ c.args.searches.now + length (run_types t) * few) (sym w.searches-is)
          (one_made t c.args.searches.now w.follow-else-names_host.new.searches few none (w.follow-else-names_host.ensures.at_most t (own_type t none)))
    ]
