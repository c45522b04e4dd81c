-- A type put into a list of types behind those that are less
use Rattle.std.proofs.Common.{◌≡◌, ℕ, suc, ◌+◌, ◌<◌, ◌≤◌, List, [], ◌∷◌, map, length, get_or, cond, true, false, true≢false, ◌==◌, eq-eqb, eqb-true, refl, sym, ap, ◌∙◌, subst, arith, Ordering, Less, Equal, Greater}
use Rattle.std.specs.Prelude.{nat_lt}
use Rattle.std.specs.List.{prefix_len, insert}
use Rattle.std.specs.Ordering.{nat_cmp, match_ordering, MatchOrdering}
use Rattle.std.proofs.lemmas.Cmp.{ranked}
use Rattle.std.proofs.lemmas.List.{get_or_read}
use Rattle.std.proofs.Math.Numerals.{one-add}
use Rattle.std.proofs.lemmas.Bool.Decides.{nat_tests}
use Rattle.zone_proto.specs.declared.record_type.RecordType.{RecordType}
use Rattle.zone_denial.specs.TypeLists.{joined}

-- how many types in front are less
abbrev pub place_of : RecordType → List RecordType → ℕ
place_of t us = prefix_len (λ (u : RecordType). nat_lt u.0 t.0) us

-- the numbers of types
abbrev pub numbers : List RecordType → List ℕ
numbers us = map (λ (u : RecordType). u.0) us

module _ (t : RecordType) where
  -- the list that a type is in, and the list that it is put into
  abbrev Kept : List RecordType → Type 0
  Kept us = place_of t us < length us → (get_or us (place_of t us) t).0 ≡ t.0 → numbers us ≡ joined nat_cmp t.0 (numbers us)

  abbrev Put : List RecordType → Type 0
  Put us = (place_of t us < length us → (get_or us (place_of t us) t).0 ≡ t.0 → ⊥) → numbers (insert us (place_of t us) t) ≡ joined nat_cmp t.0 (numbers us)

  less : (u : RecordType) → u.0 < t.0 → nat_lt u.0 t.0 ≡ true
  less u h = grind (arith, nat_tests)

  not_less : (u : RecordType) → t.0 ≤ u.0 → nat_lt u.0 t.0 ≡ false
  not_less u h = grind (arith, nat_tests)

  -- a type's place behind one that is less, and before one that isn't
  place_later : (u : RecordType) (us : List RecordType) → u.0 < t.0 → place_of t (u ∷ us) ≡ suc (place_of t us)
  place_later u us h = ap (λ b. cond b (1 + place_of t us) 0) (less u h) ∙ one-add (place_of t us)

  place_here : (u : RecordType) (us : List RecordType) → t.0 ≤ u.0 → place_of t (u ∷ us) ≡ 0
  place_here u us h = ap (λ b. cond b (1 + place_of t us) 0) (not_less u h)

  -- what is to be shown of a list by its first type, given the place
  abbrev KeptAt : RecordType → List RecordType → Ordering → ℕ → Type 0
  KeptAt u us r k = k < length (u ∷ us) → (get_or (u ∷ us) k t).0 ≡ t.0 → u.0 ∷ numbers us ≡ match_ordering r (t.0 ∷ u.0 ∷ numbers us) (u.0 ∷ numbers us) (u.0 ∷ joined nat_cmp t.0 (numbers us))

  abbrev PutAt : RecordType → List RecordType → Ordering → ℕ → Type 0
  PutAt u us r k = (k < length (u ∷ us) → (get_or (u ∷ us) k t).0 ≡ t.0 → ⊥)
      → numbers (insert (u ∷ us) k t) ≡ match_ordering r (t.0 ∷ u.0 ∷ numbers us) (u.0 ∷ numbers us) (u.0 ∷ joined nat_cmp t.0 (numbers us))

  pub kept : (us : List RecordType) → Kept us
  kept [] = λ h e. absurd (omega arith)
  kept (u ∷ us) = by (nat_cmp t.0 u.0) (ranked t.0 u.0 (nat_cmp t.0 u.0) refl) (kept us)
    where
      by : (r : Ordering) → MatchOrdering r (t.0 < u.0) (t.0 ≡ u.0) (u.0 < t.0) → Kept us → KeptAt u us r (place_of t (u ∷ us))
      by Less h ih = subst (KeptAt u us Less) (sym (place_here u us (omega arith))) (λ l e. absurd (omega arith))
      by Equal h ih = subst (KeptAt u us Equal) (sym (place_here u us (omega arith))) (λ l e. refl)
      by Greater h ih = subst (KeptAt u us Greater) (sym (place_later u us h)) (λ l e. ap (λ ns. u.0 ∷ ns) (ih (omega arith) e))

  pub put : (us : List RecordType) → Put us
  put [] = λ h. refl
  put (u ∷ us) = by (nat_cmp t.0 u.0) (ranked t.0 u.0 (nat_cmp t.0 u.0) refl) (put us)
    where
      by : (r : Ordering) → MatchOrdering r (t.0 < u.0) (t.0 ≡ u.0) (u.0 < t.0) → Put us → PutAt u us r (place_of t (u ∷ us))
      by Less h ih = subst (PutAt u us Less) (sym (place_here u us (omega arith))) (λ f. refl)
      by Equal h ih = subst (PutAt u us Equal) (sym (place_here u us (omega arith))) (λ f. absurd (f (omega arith) (sym h)))
      by Greater h ih = subst (PutAt u us Greater) (sym (place_later u us h)) (λ f. ap (λ ns. u.0 ∷ ns) (ih (λ l e. f (omega arith) e)))

-- ---- as the program finds it, at a place k

pub kept_by : (t x : RecordType) (us : List RecordType) (k n : ℕ) → k ≡ place_of t us → n ≡ length us → k < n → x ≡ get_or us k x → (x.0 == t.0) ≡ true → numbers us ≡ joined nat_cmp t.0 (numbers us)
kept_by t x us k n place len h is e =
    let lt : place_of t us < length us = omega arith in
    let there : x ≡ get_or us (place_of t us) x = is ∙ ap (λ i. get_or us i x) place in
    kept t us lt (ap (λ (u : RecordType). u.0) (sym (get_or_read us (place_of t us) x lt there t)) ∙ eqb-true x.0 t.0 e)

pub put_past : (t : RecordType) (us vs : List RecordType) (k n : ℕ) → k ≡ place_of t us → n ≡ length us → n ≤ k → vs ≡ insert us k t → numbers vs ≡ joined nat_cmp t.0 (numbers us)
put_past t us vs k n place len h is =
    ap numbers (is ∙ ap (λ i. insert us i t) place) ∙ put t us (λ l e. absurd (omega arith))

pub put_by : (t x : RecordType) (us vs : List RecordType) (k n : ℕ) → k ≡ place_of t us → n ≡ length us → k < n → x ≡ get_or us k x → (x.0 == t.0) ≡ false → vs ≡ insert us k t → numbers vs ≡ joined nat_cmp t.0 (numbers us)
put_by t x us vs k n place len h there other is =
    let found : x ≡ get_or us (place_of t us) x = there ∙ ap (λ i. get_or us i x) place in
    let differs : (place_of t us < length us → (get_or us (place_of t us) t).0 ≡ t.0 → ⊥) =
    λ l e. true≢false (sym (eq-eqb x.0 t.0 (ap (λ (u : RecordType). u.0) (get_or_read us (place_of t us) x l found t) ∙ e)) ∙ other) in
    ap numbers (is ∙ ap (λ i. insert us i t) place) ∙ put t us differs

-- types are those of their numbers
pub of_numbers : (us : List RecordType) → us ≡ map (λ n. record { 0 = n }) (numbers us)
of_numbers [] = refl
of_numbers (u ∷ us) = ap (λ (vs : List RecordType). u ∷ vs) (of_numbers us)
