-- A walk up the suffixes of a name looks for the nearest delegation: what the name says itself, and what the names above it say
use Rattle.std.proofs.Common.{◌≡◌, ℕ, Bool, true, false, cond, not, ◌&&◌, [], ◌∷◌, drop, refl, sym, ap, ◌∙◌, arith}
use Rattle.std.specs.Prelude.{Option, Some, None, find, ◌==◌, is_some, unwrap_or}
use Rattle.std.specs.Option.{option_or}
use Rattle.zone_proto.specs.Names.{Name, name_eq, suffixes}
use Rattle.zone_proto.specs.Sets.{RRset}
use Rattle.zone_proto.specs.Types.{NS, SOA, DS}
use Rattle.zone_proto.proofs.Names.Tree.{name_eq_itself}
use Rattle.zone_map.specs.Zones.{Sets, set_at, owns}
use Rattle.zone_map.specs.Direct.{is_delegated, is_delegated_for, referral_at, referral, exact, direct}
use Rattle.zone_map.specs.Walks.{referral_above, own_referral}
use Rattle.zone_map.proofs.Delegations.{find_same, suffix_length, shorter_differs, others_count, and_true}

-- ---- what the name itself says

own_case : (s : Option RRset) (o a d e : Bool) → e ≡ true
    → cond (o && not (d && e && not a)) (Some (cond a None s)) None ≡ cond o (cond a (Some None) (cond d None (Some s))) None
own_case s false a d e h = refl
own_case s true true true true h = refl
own_case s true true false true h = refl
own_case s true false true true h = refl
own_case s true false false true h = refl
own_case s true a d false h = cc

own_is : (m : Sets) (n : Name) (t : ℕ) → (n ≡ [] → ⊥)
    → own_referral m n t ≡ cond (owns m n NS) (cond (owns m n SOA) (Some None) (cond (t == DS) None (Some (set_at m n NS)))) None
own_is m [] t h = absurd (h refl)
own_is m (l ∷ n) t h = own_case (set_at m (l ∷ n) NS) (owns m (l ∷ n) NS) (owns m (l ∷ n) SOA) (t == DS) (name_eq (l ∷ n) (l ∷ n)) (name_eq_itself (l ∷ n))

pub own_cut : (m : Sets) (n : Name) (t : ℕ) (s : RRset) → (n ≡ [] → ⊥) → set_at m n NS ≡ Some s → owns m n SOA ≡ false
    → own_referral m n t ≡ cond (t == DS) None (Some (Some s))
own_cut m n t s h e a =
    own_is m n t h
    ∙ ap (λ (o : Option RRset). cond (is_some o) (cond (owns m n SOA) (Some None) (cond (t == DS) None (Some o))) None) e
    ∙ ap (λ b. cond b (Some None) (cond (t == DS) None (Some (Some s)))) a

-- ---- the referral: the name's own, else that of the names above it

pub referral_split : (m : Sets) (n : Name) (t : ℕ) → referral m n t ≡ unwrap_or (own_referral m n t) (referral_above m (drop 1 n))
referral_split m [] t = refl
referral_split m (l ∷ n) t = by (is_delegated_for m (l ∷ n) t (l ∷ n))
  where
    above : find (is_delegated_for m (l ∷ n) t) (suffixes n) ≡ find (is_delegated m) (suffixes n)
    above = find_same (is_delegated_for m (l ∷ n) t) (is_delegated m) (suffixes n)
        (λ a i.
        let differs : name_eq a (l ∷ n) ≡ false = shorter_differs a (l ∷ n) (omega (arith, suffix_length n a i)) in
        and_true (is_delegated m a) (not ((t == DS) && name_eq a (l ∷ n) && not (owns m (l ∷ n) SOA))) (others_count (t == DS) (name_eq a (l ∷ n)) (owns m (l ∷ n) SOA) differs))

    by : (b : Bool) → referral_at m (cond b (Some (l ∷ n)) (find (is_delegated_for m (l ∷ n) t) (suffixes n)))
        ≡ unwrap_or (cond b (Some (referral_at m (Some (l ∷ n)))) None) (referral_above m n)
    by true = refl
    by false = ap (referral_at m) above

-- the referral above a name is that for a query of NS, which the name passes on where it says nothing itself
above_split : (m : Sets) (n : Name) → referral_above m n ≡ unwrap_or (own_referral m n NS) (referral_above m (drop 1 n))
above_split m n =
    ap (referral_at m) (find_same (is_delegated m) (is_delegated_for m n NS) (suffixes n) (λ a i. sym (and_true (is_delegated m a) true refl)))
    ∙ referral_split m n NS

pub above_passed : (m : Sets) (n : Name) → own_referral m n NS ≡ None → referral_above m n ≡ referral_above m (drop 1 n)
above_passed m n e = above_split m n ∙ ap (λ o. unwrap_or o (referral_above m (drop 1 n))) e

pub above_own : (m : Sets) (n : Name) (r : Option RRset) → own_referral m n NS ≡ Some r → referral_above m n ≡ r
above_own m n r e = above_split m n ∙ ap (λ o. unwrap_or o (referral_above m (drop 1 n))) e

-- ---- the direct set

direct_split : (m : Sets) (n : Name) (t : ℕ) → direct m n t ≡ option_or (unwrap_or (own_referral m n t) (referral_above m (drop 1 n))) (exact m n t)
direct_split m n t = ap (λ r. option_or r (exact m n t)) (referral_split m n t)

pub direct_above : (m : Sets) (n : Name) (t : ℕ) (r : Option RRset) → own_referral m n t ≡ None → referral_above m (drop 1 n) ≡ r → direct m n t ≡ option_or r (exact m n t)
direct_above m n t r e h =
    direct_split m n t
    ∙ ap (λ o. option_or (unwrap_or o (referral_above m (drop 1 n))) (exact m n t)) e
    ∙ ap (λ p. option_or p (exact m n t)) h

pub direct_own : (m : Sets) (n : Name) (t : ℕ) (r : Option RRset) → own_referral m n t ≡ Some r → direct m n t ≡ option_or r (exact m n t)
direct_own m n t r e = direct_split m n t ∙ ap (λ o. option_or (unwrap_or o (referral_above m (drop 1 n))) (exact m n t)) e
