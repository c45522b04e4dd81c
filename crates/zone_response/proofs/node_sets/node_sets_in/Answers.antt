use Rattle.std.proofs.Common.{Bor, arith, ℕ, ◌<◌, ◌≤◌, refl, subst, true≢false, Ordering, Less, Equal, Greater, ◌≡◌, ◌==◌, true, false, sym, ap, ◌∙◌}
use Rattle.std.specs.Prelude.{Option, Some, None, option_copied}
use Rattle.std.specs.Option.{option_or}
use Rattle.std.specs.Ordering.{eq_by_cmp, nat_cmp, is_ge, MatchOrdering}
use Rattle.std.proofs.lemmas.Cmp.{ranked}
use Rattle.zone_proto.specs.declared.rr_key.RrKey.{RrKey}
use Rattle.zone_proto.specs.Names.{name_cmp}
use Rattle.zone_proto.specs.Types.{NS}
use Rattle.zone_map.proofs.AnyTypes.{Ascends}
use Rattle.zone_map.proofs.AtName.{first_set, first_over, first_passed, rest_ascends, later_differs, none_left, whole_type, whole_ascends}
use Rattle.zone_map.proofs.FirstKeys.{front_key, whole_first, first_known, first_stays}
use Rattle.zone_map.proofs.Neighbours.{not_false, not_true, from_key, front_types}
use Rattle.zone_response.proofs.node_sets.node_sets_in.Goals as goal

-- where nothing is left, what was found is the whole
alone : {X : Type 0} (o rest whole : Option X) → rest ≡ None → option_or o rest ≡ whole → o ≡ whole
alone None rest whole e h = sym e ∙ h
alone (Some x) rest whole e h = h

-- of keys that are lent, the first stays
noted_first : (before : Option (Bor RrKey)) (k : Bor RrKey) (after : Option (Bor RrKey)) → after ≡ option_or before (Some k) → option_copied after ≡ option_or (option_copied before) (Some k.now)
noted_first before k after e = ap option_copied e ∙ by before
  where
    by : (o : Option (Bor RrKey)) → option_copied (option_or o (Some k)) ≡ option_or (option_copied o) (Some k.now)
    by None = refl
    by (Some j) = refl

at_least : (t u : ℕ) → true ≡ is_ge (nat_cmp t u) → u ≤ t
at_least t u h = by (nat_cmp t u) refl h
  where
    by : (o : Ordering) → o ≡ nat_cmp t u → true ≡ is_ge o → u ≤ t
    by Less e g = absurd (true≢false g)
    by Equal e g = let told : MatchOrdering Equal (t < u) (t ≡ u) (u < t) = ranked t u Equal e in let same : t ≡ u = told in omega (arith, same)
    by Greater e g = let told : MatchOrdering Greater (t < u) (t ≡ u) (u < t) = ranked t u Greater e in let later : u < t = told in omega (arith, later)

pub loop-key-init : goal.loop-key-init
loop-key-init c =
    let first : c.into_iter-key-iterator.result ≡ from_key c.args.least.now c.args.sets.now = c.into_iter-key-iterator.ensures.into_iter_gives ∙ c.requires.from in
    record {
      ns = ap (first_set (λ u. NS == u) c.args.least.now.name) first;
      first_asked = ap (first_set (λ u. c.args.first_asked.0 == u) c.args.least.now.name) first;
      second_asked = ap (first_set (λ u. c.args.second_asked.0 == u) c.args.least.now.name) first;
      first = ap front_key first;
      ascend =
          subst (λ es. Ascends (front_types c.args.least.now.name es)) (sym first)
          (whole_ascends c.args.least.now c.args.sets.now c.args.sets.now c.requires.least c.requires.ordered refl);
    }

pub loop-key-preserved : goal.loop-key-preserved
loop-key-preserved c =
    let same : eq_by_cmp name_cmp c.in-Some.key.now.name c.args.least.now.name ≡ true = not_false _ (sym c.ne.ensures ∙ c.if-ne.false) in
    record {
      ns =
          first_passed (λ u. NS == u) c.args.least.now.name _ c.next.new.self (c.in-Some.key.now, c.in-Some.set.now) (option_copied c.loop-key.here.ns) _ _
          c.in-Some.ensures.steps same c.with-here.ensures.ns c.loop-key.invariant.ns;
      first_asked =
          first_passed (λ u. c.args.first_asked.0 == u) c.args.least.now.name _ c.next.new.self (c.in-Some.key.now, c.in-Some.set.now) (option_copied c.loop-key.here.first_asked) _ _
          c.in-Some.ensures.steps same c.with-here.ensures.first_asked c.loop-key.invariant.first_asked;
      second_asked =
          first_passed (λ u. c.args.second_asked.0 == u) c.args.least.now.name _ c.next.new.self (c.in-Some.key.now, c.in-Some.set.now) (option_copied c.loop-key.here.second_asked) _ _
          c.in-Some.ensures.steps same c.with-here.ensures.second_asked c.loop-key.invariant.second_asked;
      first =
          first_stays _ c.next.new.self (c.in-Some.key.now, c.in-Some.set.now) (option_copied c.loop-key.here.first) (option_copied c.with-here.result.first) _
          c.in-Some.ensures.steps (c.with-here.ensures.first ∙ noted_first c.loop-key.here.first c.in-Some.key c.or-here.result c.or-here.ensures) c.loop-key.invariant.first;
      ascend = rest_ascends c.args.least.now.name _ c.next.new.self (c.in-Some.key.now, c.in-Some.set.now) c.in-Some.ensures.steps same c.loop-key.invariant.ascend;
    }

pub returns-in-None-clause-ns : goal.returns-in-None-clause-ns
returns-in-None-clause-ns c =
    alone (option_copied c.loop-key.here.ns) _ _ (ap (first_set (λ u. NS == u) c.args.least.now.name) c.in-None.ensures.steps.0) c.loop-key.invariant.ns
    ∙ whole_type c.args.least.now c.args.sets.now c.args.sets.now c.requires.least c.requires.ordered refl NS

pub returns-in-None-clause-first_asked : goal.returns-in-None-clause-first_asked
returns-in-None-clause-first_asked c =
    alone (option_copied c.loop-key.here.first_asked) _ _ (ap (first_set (λ u. c.args.first_asked.0 == u) c.args.least.now.name) c.in-None.ensures.steps.0) c.loop-key.invariant.first_asked
    ∙ whole_type c.args.least.now c.args.sets.now c.args.sets.now c.requires.least c.requires.ordered refl c.args.first_asked.0

pub returns-in-None-clause-second_asked : goal.returns-in-None-clause-second_asked
returns-in-None-clause-second_asked c =
    alone (option_copied c.loop-key.here.second_asked) _ _ (ap (first_set (λ u. c.args.second_asked.0 == u) c.args.least.now.name) c.in-None.ensures.steps.0) c.loop-key.invariant.second_asked
    ∙ whole_type c.args.least.now c.args.sets.now c.args.sets.now c.requires.least c.requires.ordered refl c.args.second_asked.0

pub returns-then-ne-clause-ns : goal.returns-then-ne-clause-ns
returns-then-ne-clause-ns c =
    let second_asked : eq_by_cmp name_cmp c.in-Some.key.now.name c.args.least.now.name ≡ false = not_true _ (sym c.ne.ensures ∙ c.if-ne.true) in
    alone (option_copied c.loop-key.here.ns) _ _
    (first_over (λ u. NS == u) c.args.least.now.name _ c.next.new.self (c.in-Some.key.now, c.in-Some.set.now) c.in-Some.ensures.steps second_asked) c.loop-key.invariant.ns
    ∙ whole_type c.args.least.now c.args.sets.now c.args.sets.now c.requires.least c.requires.ordered refl NS

pub returns-then-ne-clause-first_asked : goal.returns-then-ne-clause-first_asked
returns-then-ne-clause-first_asked c =
    let second_asked : eq_by_cmp name_cmp c.in-Some.key.now.name c.args.least.now.name ≡ false = not_true _ (sym c.ne.ensures ∙ c.if-ne.true) in
    alone (option_copied c.loop-key.here.first_asked) _ _
    (first_over (λ u. c.args.first_asked.0 == u) c.args.least.now.name _ c.next.new.self (c.in-Some.key.now, c.in-Some.set.now) c.in-Some.ensures.steps second_asked) c.loop-key.invariant.first_asked
    ∙ whole_type c.args.least.now c.args.sets.now c.args.sets.now c.requires.least c.requires.ordered refl c.args.first_asked.0

pub returns-then-ne-clause-second_asked : goal.returns-then-ne-clause-second_asked
returns-then-ne-clause-second_asked c =
    let second_asked : eq_by_cmp name_cmp c.in-Some.key.now.name c.args.least.now.name ≡ false = not_true _ (sym c.ne.ensures ∙ c.if-ne.true) in
    alone (option_copied c.loop-key.here.second_asked) _ _
    (first_over (λ u. c.args.second_asked.0 == u) c.args.least.now.name _ c.next.new.self (c.in-Some.key.now, c.in-Some.set.now) c.in-Some.ensures.steps second_asked) c.loop-key.invariant.second_asked
    ∙ whole_type c.args.least.now c.args.sets.now c.args.sets.now c.requires.least c.requires.ordered refl c.args.second_asked.0

pub returns-then-ge-clause-ns : goal.returns-then-ge-clause-ns
returns-then-ge-clause-ns c =
    let same : eq_by_cmp name_cmp c.in-Some.key.now.name c.args.least.now.name ≡ true = not_false _ (sym c.ne.ensures ∙ c.if-ne.false) in
    let high : c.last_of-last.result.0 ≤ c.in-Some.key.now.record_type.0 = at_least c.in-Some.key.now.record_type.0 c.last_of-last.result.0 c.if-ge.ensures in
    let known : NS ≤ c.last_of-last.result.0 = c.last_of-last.ensures.ns in
    alone (option_copied c.with-here.result.ns) _ _
    (none_left c.args.least.now.name _ c.next.new.self (c.in-Some.key.now, c.in-Some.set.now) c.in-Some.ensures.steps same c.loop-key.invariant.ascend
    (λ u. NS == u) (λ u h. later_differs NS u (omega (arith, h, high, known))))
    (first_passed (λ u. NS == u) c.args.least.now.name _ c.next.new.self (c.in-Some.key.now, c.in-Some.set.now) (option_copied c.loop-key.here.ns) _ _
    c.in-Some.ensures.steps same c.with-here.ensures.ns c.loop-key.invariant.ns)
    ∙ whole_type c.args.least.now c.args.sets.now c.args.sets.now c.requires.least c.requires.ordered refl NS

pub returns-then-ge-clause-first_asked : goal.returns-then-ge-clause-first_asked
returns-then-ge-clause-first_asked c =
    let same : eq_by_cmp name_cmp c.in-Some.key.now.name c.args.least.now.name ≡ true = not_false _ (sym c.ne.ensures ∙ c.if-ne.false) in
    let high : c.last_of-last.result.0 ≤ c.in-Some.key.now.record_type.0 = at_least c.in-Some.key.now.record_type.0 c.last_of-last.result.0 c.if-ge.ensures in
    let known : c.args.first_asked.0 ≤ c.last_of-last.result.0 = c.last_of-last.ensures.first_asked in
    alone (option_copied c.with-here.result.first_asked) _ _
    (none_left c.args.least.now.name _ c.next.new.self (c.in-Some.key.now, c.in-Some.set.now) c.in-Some.ensures.steps same c.loop-key.invariant.ascend
    (λ u. c.args.first_asked.0 == u) (λ u h. later_differs c.args.first_asked.0 u (omega (arith, h, high, known))))
    (first_passed (λ u. c.args.first_asked.0 == u) c.args.least.now.name _ c.next.new.self (c.in-Some.key.now, c.in-Some.set.now) (option_copied c.loop-key.here.first_asked) _ _
    c.in-Some.ensures.steps same c.with-here.ensures.first_asked c.loop-key.invariant.first_asked)
    ∙ whole_type c.args.least.now c.args.sets.now c.args.sets.now c.requires.least c.requires.ordered refl c.args.first_asked.0

pub returns-then-ge-clause-second_asked : goal.returns-then-ge-clause-second_asked
returns-then-ge-clause-second_asked c =
    let same : eq_by_cmp name_cmp c.in-Some.key.now.name c.args.least.now.name ≡ true = not_false _ (sym c.ne.ensures ∙ c.if-ne.false) in
    let high : c.last_of-last.result.0 ≤ c.in-Some.key.now.record_type.0 = at_least c.in-Some.key.now.record_type.0 c.last_of-last.result.0 c.if-ge.ensures in
    let known : c.args.second_asked.0 ≤ c.last_of-last.result.0 = c.last_of-last.ensures.second_asked in
    alone (option_copied c.with-here.result.second_asked) _ _
    (none_left c.args.least.now.name _ c.next.new.self (c.in-Some.key.now, c.in-Some.set.now) c.in-Some.ensures.steps same c.loop-key.invariant.ascend
    (λ u. c.args.second_asked.0 == u) (λ u h. later_differs c.args.second_asked.0 u (omega (arith, h, high, known))))
    (first_passed (λ u. c.args.second_asked.0 == u) c.args.least.now.name _ c.next.new.self (c.in-Some.key.now, c.in-Some.set.now) (option_copied c.loop-key.here.second_asked) _ _
    c.in-Some.ensures.steps same c.with-here.ensures.second_asked c.loop-key.invariant.second_asked)
    ∙ whole_type c.args.least.now c.args.sets.now c.args.sets.now c.requires.least c.requires.ordered refl c.args.second_asked.0

pub returns-in-None-clause-first : goal.returns-in-None-clause-first
returns-in-None-clause-first c =
    alone (option_copied c.loop-key.here.first) _ _ (ap front_key c.in-None.ensures.steps.0) c.loop-key.invariant.first
    ∙ whole_first c.args.least.now c.args.sets.now c.requires.least

pub returns-then-ne-clause-first : goal.returns-then-ne-clause-first
returns-then-ne-clause-first c =
    first_known _ c.next.new.self (c.in-Some.key.now, c.in-Some.set.now) (option_copied c.loop-key.here.first) (option_copied c.or-here.result) _
    c.in-Some.ensures.steps (noted_first c.loop-key.here.first c.in-Some.key c.or-here.result c.or-here.ensures) c.loop-key.invariant.first
    ∙ whole_first c.args.least.now c.args.sets.now c.requires.least

pub returns-then-ge-clause-first : goal.returns-then-ge-clause-first
returns-then-ge-clause-first c =
    first_known _ c.next.new.self (c.in-Some.key.now, c.in-Some.set.now) (option_copied c.loop-key.here.first) (option_copied c.with-here.result.first) _
    c.in-Some.ensures.steps (c.with-here.ensures.first ∙ noted_first c.loop-key.here.first c.in-Some.key c.or-here.result c.or-here.ensures) c.loop-key.invariant.first
    ∙ whole_first c.args.least.now c.args.sets.now c.requires.least
