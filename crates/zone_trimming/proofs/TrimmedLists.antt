-- Lists of types by their numbers, and what is left of them at a delegation
use Rattle.std.proofs.Common.{◌≡◌, ℕ, Bool, true, false, not, ◌&&◌, ◌||◌, cond, List, [], ◌∷◌, map, refl, ap, ◌∙◌, subst, eqb-true, eq-eqb}
use Rattle.std.specs.Prelude.{filter, ◌==◌}
use Rattle.std.specs.List.{Contains, list_any}
use Rattle.zone_proto.specs.declared.record_type.RecordType.{RecordType}
use Rattle.zone_proto.specs.Types.{NS, CNAME, SOA, DS, RRSIG, NSEC, NSEC3}
use Rattle.zone_proto.proofs.Members.{In-Contains, Contains-In, In-filter, In-from_filter, In-from_any, any_from_In}
use Rattle.zone_denial.proofs.Chain.NsecSecured.{numbers_back}
use Rattle.zone_trimming.specs.Trimming.{has_type, stays_listed, trimmed_types}

abbrev pub has : List ℕ → ℕ → Bool
has ts t = list_any (λ u. u == t) ts

abbrev pub cuts : List ℕ → Bool
cuts ts = has ts NS && not (has ts SOA)

abbrev pub stays : List ℕ → ℕ → Bool
stays ts t = (t == NS) || ((t == CNAME) || ((t == DS) || ((t == NSEC) || ((t == NSEC3) || ((t == RRSIG) && (has ts DS || has ts NSEC))))))

abbrev pub left : List ℕ → List ℕ
left ts = cond (cuts ts) (filter (stays ts) ts) ts

abbrev pub typed : List ℕ → List RecordType
typed ts = map (λ t. record { 0 = t }) ts

-- ---- they are those of the definition

same_has : (ts : List ℕ) (t : ℕ) → has_type (typed ts) t ≡ has ts t
same_has [] t = refl
same_has (u ∷ ts) t = ap (λ b. (u == t) || b) (same_has ts t)

same_stays : (ts : List ℕ) (t : ℕ) → stays_listed (typed ts) t ≡ stays ts t
same_stays ts t = λ i. (t == NS) || ((t == CNAME) || ((t == DS) || ((t == NSEC) || ((t == NSEC3) || ((t == RRSIG) && (same_has ts DS i || same_has ts NSEC i))))))

kept_numbers : (p : ℕ → Bool) (ts : List ℕ) → map (λ (t : RecordType). t.0) (filter (λ (t : RecordType). p t.0) (typed ts)) ≡ filter p ts
kept_numbers p [] = refl
kept_numbers p (t ∷ ts) = by (p t) (kept_numbers p ts)
  where
    by : (b : Bool) → map (λ (t : RecordType). t.0) (filter (λ (t : RecordType). p t.0) (typed ts)) ≡ filter p ts
        → map (λ (t : RecordType). t.0) (cond b (record { 0 = t } ∷ filter (λ (t : RecordType). p t.0) (typed ts)) (filter (λ (t : RecordType). p t.0) (typed ts))) ≡ cond b (t ∷ filter p ts) (filter p ts)
    by true ih = ap (λ us. t ∷ us) ih
    by false ih = ih

pub same_left : (ts : List ℕ) → map (λ (t : RecordType). t.0) (trimmed_types (typed ts)) ≡ left ts
same_left ts =
    (λ i. map (λ (t : RecordType). t.0) (cond (same_has ts NS i && not (same_has ts SOA i)) (filter (λ (t : RecordType). same_stays ts t.0 i) (typed ts)) (typed ts)))
    ∙ by (cuts ts)
  where
    by : (b : Bool) → map (λ (t : RecordType). t.0) (cond b (filter (λ (t : RecordType). stays ts t.0) (typed ts)) (typed ts)) ≡ cond b (filter (stays ts) ts) ts
    by true = kept_numbers (stays ts) ts
    by false = numbers_back ts

-- ---- what they have

pub has_from : (ts : List ℕ) (t : ℕ) → Contains ts t → has ts t ≡ true
has_from ts t c = any_from_In (λ u. u == t) t ts (Contains-In t ts c) (eq-eqb t t refl)

pub from_has : (ts : List ℕ) (t : ℕ) → has ts t ≡ true → Contains ts t
from_has ts t e =
    let r = In-from_any (λ u. u == t) ts e in
    subst (λ u. Contains ts u) (eqb-true r.0 t r.2) (In-Contains r.0 ts r.1)

pub from_left : (ts : List ℕ) (t : ℕ) → Contains (left ts) t → Contains ts t
from_left ts t c = by (cuts ts) c
  where
    by : (b : Bool) → Contains (cond b (filter (stays ts) ts) ts) t → Contains ts t
    by true c = In-Contains t ts (In-from_filter (stays ts) t ts (Contains-In t (filter (stays ts) ts) c)).0
    by false c = c

pub in_left : (ts : List ℕ) (t : ℕ) → Contains ts t → stays ts t ≡ true → Contains (left ts) t
in_left ts t c h = by (cuts ts)
  where
    by : (b : Bool) → Contains (cond b (filter (stays ts) ts) ts) t
    by true = In-Contains t (filter (stays ts) ts) (In-filter (stays ts) t ts (Contains-In t ts c) h)
    by false = c

pub all_left : (ts : List ℕ) → cuts ts ≡ false → left ts ≡ ts
all_left ts e = ap (λ b. cond b (filter (stays ts) ts) ts) e
