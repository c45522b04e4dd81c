-- Kept steps lead to the newest version
use Rattle.std.proofs.Common.{◌≡◌, ℕ, zero, suc, Bool, true, false, true≢false, ◌==◌, not, List, [], ◌∷◌, ◌++◌, drop, map, refl, sym, ap, ◌∙◌, subst, eq-eqb}
use Rattle.std.specs.Prelude.{◌||◌, if◌then◌else◌, Option, Some, None}
use Rattle.std.specs.List.{list_any}
use Rattle.zone_proto.specs.Names.{Name, lower}
use Rattle.zone_proto.specs.Sets.{RRset, first_serial}
use Rattle.zone_map.specs.Zones.{Sets}
use Rattle.zone_proto.specs.Serials.{is_newer}
use Rattle.shown_zones.specs.Steps.{step_of, IsStep}
use Rattle.shown_zones.specs.declared.step.ZoneStep.{ZoneStep}
use Rattle.incremental_laws.specs.Versions.{Leads}
use Rattle.difference_messages.specs.Choosing.{begins_at, is_serial}
use Rattle.kept_steps.specs.Giving.{from_only}
use Rattle.kept_steps.specs.KeptLaws.{first_of, GivenStepsLead, IsSent, KeptStepsLeadOn, LeadFrom, LeadOn, Version}
use Rattle.kept_steps.proofs.Newest.{newest_is_end}

-- ---- one more step

first_more : (vs : List Version) (z next : Version) → first_of (vs ++ z ∷ []) next ≡ first_of vs z
first_more [] z next = refl
first_more (v ∷ vs) z next = refl

lead_more : (o : Name) (vs : List Version) (ss : List ZoneStep) (z next : Version) (s : ZoneStep) → LeadOn o vs ss z → IsStep (lower o) z.sets next.sets (step_of s)
    → IsSent o next → LeadOn o (vs ++ z ∷ []) (ss ++ s ∷ []) next
lead_more o [] [] z next s h step sent = (h, step, sent)
lead_more o [] (t ∷ ss) z next s h step sent = absurd h
lead_more o (v ∷ vs) [] z next s h step sent = absurd h
lead_more o (v ∷ vs) (t ∷ ss) z next s h step sent =
    (h.0, subst (λ (w : Version). IsStep (lower o) v.sets w.sets (step_of t)) (sym (first_more vs z next)) h.1, lead_more o vs ss z next s h.2 step sent)

lead_behind : (o : Name) (k : ℕ) (vs : List Version) (ss : List ZoneStep) (z : Version) → LeadOn o vs ss z → LeadOn o (drop k vs) (drop k ss) z
lead_behind o zero vs ss z h = h
lead_behind o (suc k) [] [] z h = h
lead_behind o (suc k) [] (s ∷ ss) z h = absurd h
lead_behind o (suc k) (v ∷ vs) [] z h = absurd h
lead_behind o (suc k) (v ∷ vs) (s ∷ ss) z h = lead_behind o k vs ss z h.2

pub kept_steps_lead_on : KeptStepsLeadOn
kept_steps_lead_on o vs ss z next s most h step sent =
    let end = newest_is_end most (ss ++ s ∷ []) in (
      end.0,
      subst (λ (xs : List ZoneStep). LeadOn o (drop end.0 (vs ++ z ∷ [])) xs next) (sym end.1)
          (lead_behind o end.0 (vs ++ z ∷ []) (ss ++ s ∷ []) next (lead_more o vs ss z next s h step sent)),
    )

-- ---- from a version on

neither : (a b : Bool) → (a || b) ≡ false → (a ≡ false) × (b ≡ false)
neither true b h = absurd (true≢false h)
neither false b h = (refl, h)

or_true : (a b : Bool) → b ≡ true → (a || b) ≡ true
or_true true b h = refl
or_true false b h = h

-- a step from a version begins at its serial
begins : (o : Name) (n : ℕ) (v : Version) (b : Sets) (s : ZoneStep) → IsSent o v → IsStep (lower o) v.sets b (step_of s) → begins_at n s ≡ (v.serial == n)
begins o n v b s sent step =
    let e : Some sent.soa ≡ Some s.old_soa = sym sent.stands ∙ step.old_soa in
    let same : sent.soa ≡ s.old_soa = cc in
    ap (is_serial n) (ap (λ (t : RRset). first_serial t.records) (sym same) ∙ sent.serial_is)

leads : (o : Name) (v : Version) (vs : List Version) (s : ZoneStep) (ss : List ZoneStep) (z : Version) → LeadOn o (v ∷ vs) (s ∷ ss) z
    → list_any (begins_at z.serial) ss ≡ false → Leads o v.serial v.sets (map step_of (s ∷ ss)) z.serial z.sets
leads o v [] s [] z h none = (h.0, h.2, h.1)
leads o v [] s (t ∷ ss) z h none = absurd h.2
leads o v (w ∷ vs) s [] z h none = absurd h.2
leads o v (w ∷ vs) s (t ∷ ss) z h none =
    let next = h.2 in
    let parts = neither (begins_at z.serial t) (list_any (begins_at z.serial) ss) none in (
      h.0,
      w.serial,
      w.sets,
      h.1,
      sym (begins o z.serial w (first_of vs z).sets t next.0 next.1) ∙ parts.0,
      leads o w vs t ss z next parts.1,
    )

-- no version has a serial at which no step begins
none_from : (o : Name) (held : ℕ) (given : List ZoneStep) (vs : List Version) (ss : List ZoneStep) (z : Version) → LeadOn o vs ss z
    → list_any (begins_at held) ss ≡ false → LeadFrom o held given z vs
none_from o held given [] ss z h none = tt
none_from o held given (v ∷ vs) [] z h none = absurd h
none_from o held given (v ∷ vs) (s ∷ ss) z h none =
    let parts = neither (begins_at held s) (list_any (begins_at held) ss) none in (
      λ same. absurd (true≢false (sym (eq-eqb v.serial held same) ∙ sym (begins o held v (first_of vs z).sets s h.0 h.1) ∙ parts.0)),
      none_from o held given vs ss z h.2 parts.1,
    )

abbrev pub has_serial : ℕ → List Version → Bool
has_serial n vs = list_any (λ (v : Version). v.serial == n) vs

-- the steps from the only one that begins at a serial
from_version : (o : Name) (held : ℕ) (given : List ZoneStep) (vs : List Version) (ss : List ZoneStep) (z : Version) → LeadOn o vs ss z
    → list_any (begins_at z.serial) ss ≡ false → from_only held ss ≡ Some given → (has_serial held vs ≡ true) × LeadFrom o held given z vs
unfolding from_only
from_version o held given [] [] z h none is = absurd cc
from_version o held given [] (s ∷ ss) z h none is = absurd h
from_version o held given (v ∷ vs) [] z h none is = absurd h
from_version o held given (v ∷ vs) (s ∷ ss) z h none is =
    let parts = neither (begins_at z.serial s) (list_any (begins_at z.serial) ss) none in
    by (begins_at held s) (list_any (begins_at held) ss) (begins o held v (first_of vs z).sets s h.0 h.1) refl is
    (λ (f : from_only held ss ≡ Some given). from_version o held given vs ss z h.2 parts.1 f)
  where
    by : (b c : Bool) → b ≡ (v.serial == held) → list_any (begins_at held) ss ≡ c → (if b then (if c then None else Some (s ∷ ss)) else from_only held ss) ≡ Some given
        → (from_only held ss ≡ Some given → (has_serial held vs ≡ true) × LeadFrom o held given z vs)
        → (has_serial held (v ∷ vs) ≡ true) × LeadFrom o held given z (v ∷ vs)
    by true true e f is other = absurd cc
    by true false e f is other =
        let all : given ≡ s ∷ ss = cc in
        let parts = neither (begins_at z.serial s) (list_any (begins_at z.serial) ss) none in (
          ap (λ (b : Bool). b || has_serial held vs) (sym e),
          (
            λ same. subst (λ (n : ℕ). Leads o n v.sets (map step_of given) z.serial z.sets) same
                (subst (λ (xs : List ZoneStep). Leads o v.serial v.sets (map step_of xs) z.serial z.sets) (sym all) (leads o v vs s ss z h parts.1)),
            none_from o held given vs ss z h.2 f,
          ),
        )
    by false c e f is other =
        let tail = other is in
        (or_true (v.serial == held) (has_serial held vs) tail.0, (λ same. absurd (true≢false (sym (eq-eqb v.serial held same) ∙ sym e)), tail.1))

-- why steps are given
given_for : (b c : Bool) (r : Option (List ZoneStep)) (given : List ZoneStep) → (if not b || c then None else r) ≡ Some given
    → (b ≡ true) × (c ≡ false) × (r ≡ Some given)
given_for false c r given h = absurd cc
given_for true true r given h = absurd cc
given_for true false r given h = (refl, refl, h)

pub given_steps_lead : GivenStepsLead
given_steps_lead o vs ss given z held h is =
    let parts = given_for (is_newer z.serial held) (list_any (begins_at z.serial) ss) (from_only held ss) given is in
    let lead = from_version o held given vs ss z h parts.1 parts.2 in
    (parts.0, lead.0, lead.1)
