use Rattle.std.proofs.Common.{◌≡◌, ◌⊎◌, ◌≤◌, ◌+◌, ℕ, inl, inr, arith, ap, sym, ◌∙◌, refl}
use Rattle.std.specs.Prelude.{Some, option_map}
use Rattle.zone_map.specs.Zones.{Sets, IsZone}
use Rattle.zone_lookup.specs.Additionals.{run_target, alias_sets}
use Rattle.zone_lookup.specs.FoundSets.{found_set}
use Rattle.zone_lookup.proofs.Chasing.{no_value}
use Rattle.zone_lookup.proofs.AdditionalRuns.{begins, goes_on, smaller, turned, not_turned, ends_seen, ends_unfound, ends_nowhere}
use Rattle.zone_lookup.proofs.AdditionalLaws.{short_run}
use Rattle.zone_lookup.proofs.inner_in_memory.InnerInMemory.follow.Goals as goal

pub loop-search_type-init : goal.loop-search_type-init
loop-search_type-init g c = record {
  goes = begins
      c.args.self.now.records c.args.lookup_options.dnssec_ok c.args.search_type.0 c.args.seen.items c.args.from c.args.sets.now c.args.searches.now c.new-seen.result c.new-seen.ensures;
  zoned = inr refl;
}

pub returns-in_default-clause-followed : goal.returns-in_default-clause-followed
returns-in_default-clause-followed g c =
    ends_unfound
    c.args.self.now.records c.args.lookup_options.dnssec_ok c.args.search_type.0 c.args.seen.items c.args.from c.args.sets.now c.args.searches.now
    c.loop-search_type.sets c.loop-search_type.sets c.loop-search_type.seen c.loop-search_type.name c.loop-search_type.searches c.inner_lookup.new.searches
    c.loop-search_type.invariant.goes
    (sym c.contains.ensures ∙ c.loop-search_type-test.true)
    c.inner_lookup.ensures.counted
    (sym c.in_ok-found.ensures.found ∙ ap (option_map found_set) (no_value c.in_ok-found.field-0 c.in_default.not-Some)) refl

pub returns-in_default-target-clause-followed : goal.returns-in_default-target-clause-followed
returns-in_default-target-clause-followed g c =
    ends_nowhere
    c.args.self.now.records c.args.lookup_options.dnssec_ok c.args.search_type.0 c.args.seen.items c.args.from c.args.sets.now c.args.searches.now
    c.loop-search_type.sets c.list_new.new.self c.loop-search_type.seen c.loop-search_type.name c.loop-search_type.searches c.inner_lookup.new.searches
    c.loop-search_type.invariant.goes
    (sym c.contains.ensures ∙ c.loop-search_type-test.true)
    c.inner_lookup.ensures.counted
    (found_set c.in-Some.found)
    (sym c.in_ok-found.ensures.found ∙ ap (option_map found_set) c.in-Some.is)
    (sym (c.in_ok-target.ensures.target ∙ ap (run_target c.args.search_type.0) c.set.ensures) ∙ no_value c.in_ok-target.target c.in_default-target.not-Some)
    c.in_ok-list_new.ensures.listed

pub loop-search_type-smaller : goal.loop-search_type-smaller
loop-search_type-smaller g c =
    smaller
    c.args.self.now.records c.args.lookup_options.dnssec_ok c.args.search_type.0 c.args.seen.items c.args.from c.args.sets.now c.args.searches.now
    c.loop-search_type.sets c.list_new.new.self c.loop-search_type.seen c.loop-search_type.name c.loop-search_type.searches c.inner_lookup.new.searches
    c.loop-search_type.invariant.goes
    (sym c.contains.ensures ∙ c.loop-search_type-test.true)
    c.inner_lookup.ensures.counted
    (found_set c.in-Some.found) c.in-Some-target.next c.push.new.self c.in-Some-target.next
    (sym c.in_ok-found.ensures.found ∙ ap (option_map found_set) c.in-Some.is)
    (sym (c.in_ok-target.ensures.target ∙ ap (run_target c.args.search_type.0) c.set.ensures) ∙ c.in-Some-target.is)
    c.in_ok-push.ensures.ok refl

pub loop-search_type-preserved : goal.loop-search_type-preserved
loop-search_type-preserved g c = record {
  goes = goes_on
      c.args.self.now.records c.args.lookup_options.dnssec_ok c.args.search_type.0 c.args.seen.items c.args.from c.args.sets.now c.args.searches.now
      c.loop-search_type.sets c.list_new.new.self c.loop-search_type.seen c.loop-search_type.name c.loop-search_type.searches c.inner_lookup.new.searches
      c.loop-search_type.invariant.goes
      (sym c.contains.ensures ∙ c.loop-search_type-test.true)
      c.inner_lookup.ensures.counted
      (found_set c.in-Some.found) c.in-Some-target.next c.push.new.self c.in-Some-target.next
      (sym c.in_ok-found.ensures.found ∙ ap (option_map found_set) c.in-Some.is)
      (sym (c.in_ok-target.ensures.target ∙ ap (run_target c.args.search_type.0) c.set.ensures) ∙ c.in-Some-target.is)
      c.in_ok-list_new.ensures.listed c.in_ok-push.ensures.ok refl;
  zoned = inl c.inner_lookup.ensures.zone;
}

pub returns-clause-followed : goal.returns-clause-followed
returns-clause-followed g c =
    ends_seen
    c.args.self.now.records c.args.lookup_options.dnssec_ok c.args.search_type.0 c.args.seen.items c.args.from c.args.sets.now c.args.searches.now
    c.loop-search_type.sets c.loop-search_type.seen c.loop-search_type.name c.loop-search_type.searches c.loop-search_type.invariant.goes
    (sym c.contains.ensures ∙ c.loop-search_type-test.false)

pub returns-in_err-found-clause-at_most : goal.returns-in_err-found-clause-at_most
returns-in_err-found-clause-at_most g c u among =
    short_run c.args.self.now.records c.inner_lookup.ensures.zone c.args.lookup_options.dnssec_ok c.args.seen.items u c.args.search_type.0 among (Some c.args.from) c.args.searches.now c.inner_lookup.new.searches
    (turned
    c.args.self.now.records c.args.lookup_options.dnssec_ok c.args.search_type.0 c.args.seen.items c.args.from c.args.sets.now c.args.searches.now
    c.loop-search_type.sets c.loop-search_type.sets c.loop-search_type.seen c.loop-search_type.name c.loop-search_type.searches c.inner_lookup.new.searches
    c.loop-search_type.invariant.goes
    (sym c.contains.ensures ∙ c.loop-search_type-test.true)
    c.inner_lookup.ensures.counted)

pub returns-in_default-clause-at_most : goal.returns-in_default-clause-at_most
returns-in_default-clause-at_most g c u among =
    short_run c.args.self.now.records c.inner_lookup.ensures.zone c.args.lookup_options.dnssec_ok c.args.seen.items u c.args.search_type.0 among (Some c.args.from) c.args.searches.now c.inner_lookup.new.searches
    (turned
    c.args.self.now.records c.args.lookup_options.dnssec_ok c.args.search_type.0 c.args.seen.items c.args.from c.args.sets.now c.args.searches.now
    c.loop-search_type.sets c.loop-search_type.sets c.loop-search_type.seen c.loop-search_type.name c.loop-search_type.searches c.inner_lookup.new.searches
    c.loop-search_type.invariant.goes
    (sym c.contains.ensures ∙ c.loop-search_type-test.true)
    c.inner_lookup.ensures.counted)

pub returns-in_err-target-clause-at_most : goal.returns-in_err-target-clause-at_most
returns-in_err-target-clause-at_most g c u among =
    short_run c.args.self.now.records c.inner_lookup.ensures.zone c.args.lookup_options.dnssec_ok c.args.seen.items u c.args.search_type.0 among (Some c.args.from) c.args.searches.now c.inner_lookup.new.searches
    (turned
    c.args.self.now.records c.args.lookup_options.dnssec_ok c.args.search_type.0 c.args.seen.items c.args.from c.args.sets.now c.args.searches.now
    c.loop-search_type.sets c.loop-search_type.sets c.loop-search_type.seen c.loop-search_type.name c.loop-search_type.searches c.inner_lookup.new.searches
    c.loop-search_type.invariant.goes
    (sym c.contains.ensures ∙ c.loop-search_type-test.true)
    c.inner_lookup.ensures.counted)

pub returns-in_err-list_new-clause-at_most : goal.returns-in_err-list_new-clause-at_most
returns-in_err-list_new-clause-at_most g c u among =
    short_run c.args.self.now.records c.inner_lookup.ensures.zone c.args.lookup_options.dnssec_ok c.args.seen.items u c.args.search_type.0 among (Some c.args.from) c.args.searches.now c.inner_lookup.new.searches
    (turned
    c.args.self.now.records c.args.lookup_options.dnssec_ok c.args.search_type.0 c.args.seen.items c.args.from c.args.sets.now c.args.searches.now
    c.loop-search_type.sets c.loop-search_type.sets c.loop-search_type.seen c.loop-search_type.name c.loop-search_type.searches c.inner_lookup.new.searches
    c.loop-search_type.invariant.goes
    (sym c.contains.ensures ∙ c.loop-search_type-test.true)
    c.inner_lookup.ensures.counted)

pub returns-in_default-target-clause-at_most : goal.returns-in_default-target-clause-at_most
returns-in_default-target-clause-at_most g c u among =
    short_run c.args.self.now.records c.inner_lookup.ensures.zone c.args.lookup_options.dnssec_ok c.args.seen.items u c.args.search_type.0 among (Some c.args.from) c.args.searches.now c.inner_lookup.new.searches
    (turned
    c.args.self.now.records c.args.lookup_options.dnssec_ok c.args.search_type.0 c.args.seen.items c.args.from c.args.sets.now c.args.searches.now
    c.loop-search_type.sets c.loop-search_type.sets c.loop-search_type.seen c.loop-search_type.name c.loop-search_type.searches c.inner_lookup.new.searches
    c.loop-search_type.invariant.goes
    (sym c.contains.ensures ∙ c.loop-search_type-test.true)
    c.inner_lookup.ensures.counted)

pub returns-in_err-push-clause-at_most : goal.returns-in_err-push-clause-at_most
returns-in_err-push-clause-at_most g c u among =
    short_run c.args.self.now.records c.inner_lookup.ensures.zone c.args.lookup_options.dnssec_ok c.args.seen.items u c.args.search_type.0 among (Some c.args.from) c.args.searches.now c.inner_lookup.new.searches
    (turned
    c.args.self.now.records c.args.lookup_options.dnssec_ok c.args.search_type.0 c.args.seen.items c.args.from c.args.sets.now c.args.searches.now
    c.loop-search_type.sets c.loop-search_type.sets c.loop-search_type.seen c.loop-search_type.name c.loop-search_type.searches c.inner_lookup.new.searches
    c.loop-search_type.invariant.goes
    (sym c.contains.ensures ∙ c.loop-search_type-test.true)
    c.inner_lookup.ensures.counted)

-- a run of no turn searches nothing
within : (m : Sets) (before after few : ℕ) → IsZone m ⊎ (after ≡ before) → (IsZone m → after ≤ before + few) → after ≤ before + few
within m before after few (inl zone) h = h zone
within m before after few (inr same) h = omega (arith, same)

pub returns-clause-at_most : goal.returns-clause-at_most
returns-clause-at_most g c u among =
    within c.args.self.now.records c.args.searches.now c.loop-search_type.searches (1 + alias_sets c.args.self.now.records) c.loop-search_type.invariant.zoned
    (λ zone. short_run c.args.self.now.records zone c.args.lookup_options.dnssec_ok c.args.seen.items u c.args.search_type.0 among (Some c.args.from) c.args.searches.now c.loop-search_type.searches
    (not_turned
    c.args.self.now.records c.args.lookup_options.dnssec_ok c.args.search_type.0 c.args.seen.items c.args.from c.args.sets.now c.args.searches.now
    c.loop-search_type.sets c.loop-search_type.seen c.loop-search_type.name c.loop-search_type.searches c.loop-search_type.invariant.goes))
