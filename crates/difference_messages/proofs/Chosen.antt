-- The steps that answer a secondary lead to the newest version
use Rattle.std.proofs.Common.{◌≡◌, ℕ, zero, suc, ◌<◌, not, Bool, true, false, true≢false, List, [], ◌∷◌, length, get_or, drop, map, refl, sym, ap, ◌∙◌, subst, arith, drop-cons}
use Rattle.std.specs.Prelude.{◌||◌, Option, Some, None, if◌then◌else◌}
use Rattle.std.specs.List.{list_any, position}
use Rattle.std.proofs.lemmas.Bool.{eqb-true}
use Rattle.std.proofs.lemmas.List.Quantifiers.{position-Some}
use Rattle.zone_proto.specs.Names.{Name, lower}
use Rattle.zone_proto.specs.Sets.{RRset, first_serial}
use Rattle.zone_proto.specs.Types.{SOA}
use Rattle.zone_map.specs.Zones.{Sets, set_at}
use Rattle.zone_proto.specs.Serials.{is_newer}
use Rattle.shown_zones.specs.Steps.{step_of, IsStep}
use Rattle.shown_zones.specs.declared.step.ZoneStep.{ZoneStep}
use Rattle.incremental_laws.specs.Versions.{IsVersion, Leads}
use Rattle.difference_messages.specs.declared.choosing.DifferenceReply.TheVariants.{StartOfAuthority, StepsFrom, WholeZone}
use Rattle.difference_messages.specs.Choosing.{begins_at, from_place, is_serial}
use Rattle.difference_messages.specs.Versions.{Chained, RepliesLead}

chosen : (b c : Bool) (p : Option ℕ) (k : ℕ) → (if not b then StartOfAuthority else (if c then WholeZone else from_place p)) ≡ StepsFrom k
    → (b ≡ true) × (c ≡ false) × (p ≡ Some k)
chosen false c p k h = absurd cc
chosen true true p k h = absurd cc
chosen true false None k h = absurd cc
chosen true false (Some j) k h = let e : j ≡ k = cc in (refl, refl, ap (λ n. Some n) e)

neither : (a b : Bool) → (a || b) ≡ false → (a ≡ false) × (b ≡ false)
neither true b h = absurd (true≢false h)
neither false b h = (refl, h)

none_behind : (n k : ℕ) (ss : List ZoneStep) → list_any (begins_at n) ss ≡ false → list_any (begins_at n) (drop k ss) ≡ false
none_behind n zero ss h = h
none_behind n (suc k) [] h = h
none_behind n (suc k) (s ∷ ss) h = none_behind n k ss (neither (begins_at n s) (list_any (begins_at n) ss) h).1

-- the serial at which a step from a version begins
old_serial : (o : Name) (n : ℕ) (a : Sets) (s : RRset) → IsVersion o n a → set_at a (lower o) SOA ≡ Some s → first_serial s.records ≡ Some n
old_serial o n a s v found =
    let e : Some v.soa ≡ Some s = sym v.stands ∙ found in
    let same : v.soa ≡ s = cc in
    ap (λ (t : RRset). first_serial t.records) (sym same) ∙ v.serial_is

chain_from : (o : Name) (n : ℕ) (a : Sets) (ss : List ZoneStep) (m : ℕ) (z : Sets) (k : ℕ) → k < length ss → Chained o n a (map step_of ss) m z
    → (i : ℕ) × (b : Sets) × Chained o i b (map step_of (drop k ss)) m z
chain_from o n a ss m z zero lt chain = (n, a, chain)
chain_from o n a [] m z (suc k) lt chain = absurd (omega (arith, lt))
chain_from o n a (s ∷ ss) m z (suc k) lt chain = chain_from o chain.1 chain.2 ss m z k (omega (arith, lt)) chain.4

leads_on : (o : Name) (n : ℕ) (a : Sets) (s : ZoneStep) (ss : List ZoneStep) (m : ℕ) (z : Sets) → Chained o n a (map step_of (s ∷ ss)) m z
    → list_any (begins_at m) ss ≡ false → Leads o n a (map step_of (s ∷ ss)) m z
leads_on o n a s [] m z chain none =
    let end = chain.4 in (
      chain.0,
      subst (λ (i : ℕ). IsVersion o i z) end.0 (subst (λ (y : Sets). IsVersion o chain.1 y) end.1 end.2),
      subst (λ (y : Sets). IsStep (lower o) a y (step_of s)) end.1 chain.3,
    )
leads_on o n a s (t ∷ ss) m z chain none =
    let next = chain.4 in
    let parts = neither (begins_at m t) (list_any (begins_at m) ss) none in (
      chain.0,
      chain.1,
      chain.2,
      chain.3,
      sym (ap (is_serial m) (old_serial o chain.1 chain.2 t.old_soa next.0 next.3.old_soa)) ∙ parts.0,
      leads_on o chain.1 chain.2 t ss m z next parts.1,
    )

pub replies_lead : RepliesLead
replies_lead o first held newest a z steps k chain reply =
    let is = chosen (is_newer newest held) (list_any (begins_at newest) steps) (position (begins_at held) steps) k reply in
    let place : (d : ZoneStep) → (k < length steps) × (begins_at held (get_or steps k d) ≡ true) =
    λ d. let found = position-Some (begins_at held) steps k d is.2 in (found.0, found.1) in
    by steps is.2 chain is.0 is.1 place
  where
    end : (i : ℕ) (b : Sets) (s : ZoneStep) (ss : List ZoneStep) → Chained o i b (map step_of (s ∷ ss)) newest z → list_any (begins_at newest) (s ∷ ss) ≡ false
        → begins_at held s ≡ true → (c : Sets) × Leads o held c (map step_of (s ∷ ss)) newest z
    end i b s ss chain none begins =
        let serial : first_serial s.old_soa.records ≡ Some i = old_serial o i b s.old_soa chain.0 chain.3.old_soa in
        let same : i ≡ held = eqb-true i held (sym (ap (is_serial held) serial) ∙ begins) in
        (b, subst (λ (n : ℕ). Leads o n b (map step_of (s ∷ ss)) newest z) same (leads_on o i b s ss newest z chain (neither (begins_at newest s) (list_any (begins_at newest) ss) none).1))

    by : (all : List ZoneStep) → position (begins_at held) all ≡ Some k → Chained o first a (map step_of all) newest z → is_newer newest held ≡ true → list_any (begins_at newest) all ≡ false
        → ((d : ZoneStep) → (k < length all) × (begins_at held (get_or all k d) ≡ true))
        → (k < length all) × (is_newer newest held ≡ true) × (b : Sets) × Leads o held b (map step_of (drop k all)) newest z
    by [] found chain newer none place = absurd cc
    by (d ∷ ds) found chain newer none place =
        let all : List ZoneStep = d ∷ ds in
        let lt : k < length all = (place d).0 in
        let from = chain_from o first a all newest z k lt chain in
        let cut : drop k all ≡ get_or all k d ∷ drop (suc k) all = drop-cons all k d lt in
        let lead = end from.0 from.1 (get_or all k d) (drop (suc k) all) (subst (λ (ss : List ZoneStep). Chained o from.0 from.1 (map step_of ss) newest z) cut from.2)
        (ap (list_any (begins_at newest)) (sym cut) ∙ none_behind newest k all none) (place d).1 in
        (lt, newer, lead.0, subst (λ (ss : List ZoneStep). Leads o held lead.0 (map step_of ss) newest z) (sym cut) lead.1)
