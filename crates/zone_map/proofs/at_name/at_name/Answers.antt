use Rattle.std.proofs.Common.{Bor, arith, refl, ℕ, ◌<◌, ◌≤◌, subst, true≢false, Ordering, Less, Equal, Greater, ◌≡◌, ◌==◌, true, false, sym, ap, ◌∙◌}
use Rattle.std.specs.Prelude.{Option, Some, None, option_copied}
use Rattle.std.specs.List.{list_any}
use Rattle.std.specs.Option.{option_or}
use Rattle.std.specs.Ordering.{eq_by_cmp, nat_cmp, is_ge, MatchOrdering}
use Rattle.std.proofs.lemmas.Cmp.{ranked}
use Rattle.zone_proto.specs.declared.rr_key.RrKey.{RrKey}
use Rattle.zone_proto.specs.Names.{name_cmp}
use Rattle.zone_proto.specs.Types.{NS, SOA}
use Rattle.zone_map.specs.Direct.{types_for}
use Rattle.zone_map.proofs.AnyTypes.{Ascends}
use Rattle.zone_map.proofs.AtName.{first_set, first_over, first_passed, rest_ascends, later_differs, none_noted, none_left, whole_type, whole_exact, whole_ascends, type_listed}
use Rattle.zone_map.proofs.FirstKeys.{front_key, whole_first, first_known, first_stays}
use Rattle.zone_map.proofs.Neighbours.{not_false, not_true, from_key, front_types, front_over, front_noted, all_noted, front_is_whole}
use Rattle.zone_map.proofs.at_name.at_name.Goals as goal

-- where nothing was found and nothing is left, or something was found, that is the whole
enough : {X : Type 0} (o rest whole : Option X) → (o ≡ None → rest ≡ None) → option_or o rest ≡ whole → o ≡ whole
enough None rest whole e h = sym (e refl) ∙ h
enough (Some x) rest whole e h = h

alone : {X : Type 0} (o rest whole : Option X) → rest ≡ None → option_or o rest ≡ whole → o ≡ whole
alone o rest whole e h = enough o rest whole (λ _. e) h

-- of keys that are lent, the first stays
noted_first : (before : Option (Bor RrKey)) (k : Bor RrKey) (after : Option (Bor RrKey)) → after ≡ option_or before (Some k) → option_copied after ≡ option_or (option_copied before) (Some k.now)
noted_first before k after e = ap option_copied e ∙ by before
  where
    by : (o : Option (Bor RrKey)) → option_copied (option_or o (Some k)) ≡ option_or (option_copied o) (Some k.now)
    by None = refl
    by (Some j) = refl

at_least : (t u : ℕ) → true ≡ is_ge (nat_cmp t u) → u ≤ t
at_least t u h = by (nat_cmp t u) refl h
  where
    by : (o : Ordering) → o ≡ nat_cmp t u → true ≡ is_ge o → u ≤ t
    by Less e g = absurd (true≢false g)
    by Equal e g = let told : MatchOrdering Equal (t < u) (t ≡ u) (u < t) = ranked t u Equal e in let same : t ≡ u = told in omega (arith, same)
    by Greater e g = let told : MatchOrdering Greater (t < u) (t ≡ u) (u < t) = ranked t u Greater e in let later : u < t = told in omega (arith, later)

pub loop-key-init : goal.loop-key-init
loop-key-init c =
    let first : c.into_iter-key-iterator.result ≡ from_key c.args.least.now c.args.records.now =
    c.into_iter-key-iterator.ensures.into_iter_gives ∙ c.from-key-items.ensures.sets ∙ ap (from_key c.args.least.now) c.as_map.ensures.entries in
    record {
      exact = ap (first_set (λ u. list_any (λ v. u == v) (types_for c.args.record_type.0)) c.args.least.now.name) first;
      ns = ap (first_set (λ u. NS == u) c.args.least.now.name) first;
      soa = ap (λ es. list_any (λ u. SOA == u) (front_types c.args.least.now.name es)) first;
      first = ap front_key first;
      ascend =
          subst (λ es. Ascends (front_types c.args.least.now.name es)) (sym first)
          (whole_ascends c.args.least.now c.args.records.now c.as_map.result.now c.requires c.from-key-items.ensures.ordered c.as_map.ensures.entries);
    }

pub loop-key-preserved : goal.loop-key-preserved
loop-key-preserved c =
    let same : eq_by_cmp name_cmp c.in-Some.key.now.name c.args.least.now.name ≡ true = not_false _ (sym c.ne.ensures ∙ c.if-ne.false) in
    record {
      exact =
          first_passed (λ u. list_any (λ v. u == v) (types_for c.args.record_type.0)) c.args.least.now.name _ c.next.new.self (c.in-Some.key.now, c.in-Some.set.now) (option_copied c.loop-key.here.exact) _ _
          c.in-Some.ensures.steps same c.with-here.ensures.exact c.loop-key.invariant.exact;
      ns =
          first_passed (λ u. NS == u) c.args.least.now.name _ c.next.new.self (c.in-Some.key.now, c.in-Some.set.now) (option_copied c.loop-key.here.ns) _ _
          c.in-Some.ensures.steps same c.with-here.ensures.ns c.loop-key.invariant.ns;
      soa =
          front_noted (λ u. SOA == u) c.args.least.now.name _ c.next.new.self (c.in-Some.key.now, c.in-Some.set.now) c.in-Some.ensures.steps c.loop-key.here.owns_soa _ _
          same c.with-here.ensures.soa c.loop-key.invariant.soa;
      first =
          first_stays _ c.next.new.self (c.in-Some.key.now, c.in-Some.set.now) (option_copied c.loop-key.here.first) (option_copied c.with-here.result.first) _
          c.in-Some.ensures.steps (c.with-here.ensures.first ∙ noted_first c.loop-key.here.first c.in-Some.key c.or-here.result c.or-here.ensures) c.loop-key.invariant.first;
      ascend = rest_ascends c.args.least.now.name _ c.next.new.self (c.in-Some.key.now, c.in-Some.set.now) c.in-Some.ensures.steps same c.loop-key.invariant.ascend;
    }

pub returns-in-None-clause-exact : goal.returns-in-None-clause-exact
returns-in-None-clause-exact c =
    alone (option_copied c.loop-key.here.exact) _ _
    (ap (first_set (λ u. list_any (λ v. u == v) (types_for c.args.record_type.0)) c.args.least.now.name) c.in-None.ensures.steps.0) c.loop-key.invariant.exact
    ∙ whole_exact c.args.least.now c.args.records.now c.as_map.result.now c.requires c.from-key-items.ensures.ordered c.as_map.ensures.entries c.args.record_type.0

pub returns-in-None-clause-ns : goal.returns-in-None-clause-ns
returns-in-None-clause-ns c =
    alone (option_copied c.loop-key.here.ns) _ _ (ap (first_set (λ u. NS == u) c.args.least.now.name) c.in-None.ensures.steps.0) c.loop-key.invariant.ns
    ∙ whole_type c.args.least.now c.args.records.now c.as_map.result.now c.requires c.from-key-items.ensures.ordered c.as_map.ensures.entries NS

pub returns-in-None-clause-soa : goal.returns-in-None-clause-soa
returns-in-None-clause-soa c =
    all_noted c.loop-key.here.owns_soa _ _ (ap (λ es. list_any (λ u. SOA == u) (front_types c.args.least.now.name es)) c.in-None.ensures.steps.0) c.loop-key.invariant.soa
    ∙ front_is_whole (λ u. SOA == u) c.args.least.now c.args.records.now c.as_map.result.now c.requires c.from-key-items.ensures.ordered c.as_map.ensures.entries
    ∙ type_listed c.args.records.now c.args.least.now.name SOA

pub returns-then-ne-clause-exact : goal.returns-then-ne-clause-exact
returns-then-ne-clause-exact c =
    let other : eq_by_cmp name_cmp c.in-Some.key.now.name c.args.least.now.name ≡ false = not_true _ (sym c.ne.ensures ∙ c.if-ne.true) in
    alone (option_copied c.loop-key.here.exact) _ _
    (first_over (λ u. list_any (λ v. u == v) (types_for c.args.record_type.0)) c.args.least.now.name _ c.next.new.self (c.in-Some.key.now, c.in-Some.set.now) c.in-Some.ensures.steps other)
    c.loop-key.invariant.exact
    ∙ whole_exact c.args.least.now c.args.records.now c.as_map.result.now c.requires c.from-key-items.ensures.ordered c.as_map.ensures.entries c.args.record_type.0

pub returns-then-ne-clause-ns : goal.returns-then-ne-clause-ns
returns-then-ne-clause-ns c =
    let other : eq_by_cmp name_cmp c.in-Some.key.now.name c.args.least.now.name ≡ false = not_true _ (sym c.ne.ensures ∙ c.if-ne.true) in
    alone (option_copied c.loop-key.here.ns) _ _
    (first_over (λ u. NS == u) c.args.least.now.name _ c.next.new.self (c.in-Some.key.now, c.in-Some.set.now) c.in-Some.ensures.steps other) c.loop-key.invariant.ns
    ∙ whole_type c.args.least.now c.args.records.now c.as_map.result.now c.requires c.from-key-items.ensures.ordered c.as_map.ensures.entries NS

pub returns-then-ne-clause-soa : goal.returns-then-ne-clause-soa
returns-then-ne-clause-soa c =
    let other : eq_by_cmp name_cmp c.in-Some.key.now.name c.args.least.now.name ≡ false = not_true _ (sym c.ne.ensures ∙ c.if-ne.true) in
    all_noted c.loop-key.here.owns_soa _ _
    (front_over (λ u. SOA == u) c.args.least.now.name _ c.next.new.self (c.in-Some.key.now, c.in-Some.set.now) c.in-Some.ensures.steps other) c.loop-key.invariant.soa
    ∙ front_is_whole (λ u. SOA == u) c.args.least.now c.args.records.now c.as_map.result.now c.requires c.from-key-items.ensures.ordered c.as_map.ensures.entries
    ∙ type_listed c.args.records.now c.args.least.now.name SOA

pub returns-then-ge-clause-exact : goal.returns-then-ge-clause-exact
returns-then-ge-clause-exact c =
    let same : eq_by_cmp name_cmp c.in-Some.key.now.name c.args.least.now.name ≡ true = not_false _ (sym c.ne.ensures ∙ c.if-ne.false) in
    let high : c.last_awaited.result.0 ≤ c.in-Some.key.now.record_type.0 = at_least c.in-Some.key.now.record_type.0 c.last_awaited.result.0 c.if-ge.ensures in
    enough (option_copied c.with-here.result.exact) _ _
    (λ none.
    none_left c.args.least.now.name _ c.next.new.self (c.in-Some.key.now, c.in-Some.set.now) c.in-Some.ensures.steps same c.loop-key.invariant.ascend
    (λ u. list_any (λ v. u == v) (types_for c.args.record_type.0)) (λ u h. c.last_awaited.ensures.exact none u (omega (arith, h, high))))
    (first_passed (λ u. list_any (λ v. u == v) (types_for c.args.record_type.0)) c.args.least.now.name _ c.next.new.self (c.in-Some.key.now, c.in-Some.set.now) (option_copied c.loop-key.here.exact) _ _
    c.in-Some.ensures.steps same c.with-here.ensures.exact c.loop-key.invariant.exact)
    ∙ whole_exact c.args.least.now c.args.records.now c.as_map.result.now c.requires c.from-key-items.ensures.ordered c.as_map.ensures.entries c.args.record_type.0

pub returns-then-ge-clause-ns : goal.returns-then-ge-clause-ns
returns-then-ge-clause-ns c =
    let same : eq_by_cmp name_cmp c.in-Some.key.now.name c.args.least.now.name ≡ true = not_false _ (sym c.ne.ensures ∙ c.if-ne.false) in
    let high : c.last_awaited.result.0 ≤ c.in-Some.key.now.record_type.0 = at_least c.in-Some.key.now.record_type.0 c.last_awaited.result.0 c.if-ge.ensures in
    alone (option_copied c.with-here.result.ns) _ _
    (none_left c.args.least.now.name _ c.next.new.self (c.in-Some.key.now, c.in-Some.set.now) c.in-Some.ensures.steps same c.loop-key.invariant.ascend
    (λ u. NS == u) (λ u h. later_differs NS u (omega (arith, h, high, c.last_awaited.ensures.known))))
    (first_passed (λ u. NS == u) c.args.least.now.name _ c.next.new.self (c.in-Some.key.now, c.in-Some.set.now) (option_copied c.loop-key.here.ns) _ _
    c.in-Some.ensures.steps same c.with-here.ensures.ns c.loop-key.invariant.ns)
    ∙ whole_type c.args.least.now c.args.records.now c.as_map.result.now c.requires c.from-key-items.ensures.ordered c.as_map.ensures.entries NS

pub returns-then-ge-clause-soa : goal.returns-then-ge-clause-soa
returns-then-ge-clause-soa c =
    let same : eq_by_cmp name_cmp c.in-Some.key.now.name c.args.least.now.name ≡ true = not_false _ (sym c.ne.ensures ∙ c.if-ne.false) in
    let high : c.last_awaited.result.0 ≤ c.in-Some.key.now.record_type.0 = at_least c.in-Some.key.now.record_type.0 c.last_awaited.result.0 c.if-ge.ensures in
    all_noted c.with-here.result.owns_soa _ _
    (none_noted c.args.least.now.name _ c.next.new.self (c.in-Some.key.now, c.in-Some.set.now) c.in-Some.ensures.steps same c.loop-key.invariant.ascend
    (λ u. SOA == u) (λ u h. later_differs SOA u (omega (arith, h, high, c.last_awaited.ensures.known))))
    (front_noted (λ u. SOA == u) c.args.least.now.name _ c.next.new.self (c.in-Some.key.now, c.in-Some.set.now) c.in-Some.ensures.steps c.loop-key.here.owns_soa _ _
    same c.with-here.ensures.soa c.loop-key.invariant.soa)
    ∙ front_is_whole (λ u. SOA == u) c.args.least.now c.args.records.now c.as_map.result.now c.requires c.from-key-items.ensures.ordered c.as_map.ensures.entries
    ∙ type_listed c.args.records.now c.args.least.now.name SOA

pub returns-in-None-clause-first : goal.returns-in-None-clause-first
returns-in-None-clause-first c =
    alone (option_copied c.loop-key.here.first) _ _ (ap front_key c.in-None.ensures.steps.0) c.loop-key.invariant.first
    ∙ whole_first c.args.least.now c.args.records.now c.requires

pub returns-then-ne-clause-first : goal.returns-then-ne-clause-first
returns-then-ne-clause-first c =
    first_known _ c.next.new.self (c.in-Some.key.now, c.in-Some.set.now) (option_copied c.loop-key.here.first) (option_copied c.or-here.result) _
    c.in-Some.ensures.steps (noted_first c.loop-key.here.first c.in-Some.key c.or-here.result c.or-here.ensures) c.loop-key.invariant.first
    ∙ whole_first c.args.least.now c.args.records.now c.requires

pub returns-then-ge-clause-first : goal.returns-then-ge-clause-first
returns-then-ge-clause-first c =
    first_known _ c.next.new.self (c.in-Some.key.now, c.in-Some.set.now) (option_copied c.loop-key.here.first) (option_copied c.with-here.result.first) _
    c.in-Some.ensures.steps (c.with-here.ensures.first ∙ noted_first c.loop-key.here.first c.in-Some.key c.or-here.result c.or-here.ensures) c.loop-key.invariant.first
    ∙ whole_first c.args.least.now c.args.records.now c.requires
