-- The walk from a name up to the closest encloser that NSEC3 records show
use Rattle.std.proofs.Common.{◌≡◌, ℕ, ◌==◌, ◌&&◌, ◌||◌, not, suc, Bool, true, false, cond, List, [], ◌∷◌, ◌++◌, length, drop, Option, Some, None, find, refl, sym, ap, ◌∙◌, arith, eq-eqb, ne_eqb, true≢false}
use Rattle.std.specs.List.{list_any}
use Rattle.std.proofs.lemmas.List.{length-append}
use Rattle.zone_proto.specs.Names.{Name, base_name, name_eq, is_above, is_at_or_above, proper_ancestors, suffixes}
use Rattle.denial_validation.specs.Encloser.{next_closer}
use Rattle.denial_validation.specs.Nsec3Proofs.{is_matched, is_handing_on, is_of_encloser, is_handed_on, shown_encloser}
use Rattle.denial_validation.specs.Nsec3Records.{Nsec3Record}
use Rattle.denial_validation.proofs.ListTests.{list_any-neither}

find_suffix : (p : Name → Bool) (n : Name) → find p (suffixes n) ≡ cond (p n) (Some n) (find p (proper_ancestors n))
find_suffix p [] = refl
find_suffix p (l ∷ ls) = refl

-- no name above the apex is at or below it
none_above : (apex : Name) (m : Name → Bool) (n : Name) → is_at_or_above apex n ≡ false → find (λ a. is_at_or_above apex a && m a) (suffixes n) ≡ None
none_above apex m [] h = ap (λ b. cond (b && m []) (Some []) None) h
none_above apex m (l ∷ ls) h =
    ap (λ b. cond (b && m (l ∷ ls)) (Some (l ∷ ls)) (find (λ a. is_at_or_above apex a && m a) (suffixes ls))) h
    ∙ none_above apex m ls (rest (name_eq apex (l ∷ ls)) (is_at_or_above apex ls) h)
  where
    rest : (here below : Bool) → (here || below) ≡ false → below ≡ false
    rest true below e = absurd (true≢false e)
    rest false below e = e

module _ (apex : Name) (hash : Name → Option (List ℕ)) (rs : List Nsec3Record) where
  -- at the apex and above it the walk ends
  pub walk_ends : (n : Name) → is_above apex n ≡ false → shown_encloser apex hash rs n ≡ None
  walk_ends [] h = refl
  walk_ends (l ∷ ls) h = none_above apex (is_matched apex hash rs) ls h

  -- below the apex the parent is looked at
  step : (l : List ℕ) (ls : Name) → is_above apex (l ∷ ls) ≡ true → shown_encloser apex hash rs (l ∷ ls) ≡ cond (is_matched apex hash rs ls) (Some ls) (shown_encloser apex hash rs ls)
  step l ls h = find_suffix (λ a. is_at_or_above apex a && is_matched apex hash rs a) ls ∙ ap (λ b. cond (b && is_matched apex hash rs ls) (Some ls) (shown_encloser apex hash rs ls)) h

  -- a record matches it: it is the encloser
  pub walk_found : (n : Name) → is_above apex n ≡ true → is_matched apex hash rs (drop 1 n) ≡ true → shown_encloser apex hash rs n ≡ Some (base_name n)
  walk_found [] h m = absurd (true≢false (sym h))
  walk_found (l ∷ ls) h m = step l ls h ∙ ap (λ b. cond b (Some ls) (shown_encloser apex hash rs ls)) m

  -- none does: it goes on
  pub walk_on : (n : Name) → is_above apex n ≡ true → is_matched apex hash rs (drop 1 n) ≡ false → shown_encloser apex hash rs n ≡ shown_encloser apex hash rs (drop 1 n)
  walk_on [] h m = absurd (true≢false (sym h))
  walk_on (l ∷ ls) h m = step l ls h ∙ ap (λ b. cond b (Some ls) (shown_encloser apex hash rs ls)) m

-- ---- the walk up to the apex, for a name that hands on what is below it

any_suffix : (p : Name → Bool) (n : Name) → list_any p (suffixes n) ≡ p n || list_any p (proper_ancestors n)
any_suffix p [] = refl
any_suffix p (l ∷ ls) = refl

none_passes_above : (apex : Name) (m : Name → Bool) (n : Name) → is_at_or_above apex n ≡ false → list_any (λ a. is_at_or_above apex a && m a) (suffixes n) ≡ false
none_passes_above apex m [] h = ap (λ b. (b && m []) || false) h
none_passes_above apex m (l ∷ ls) h =
    ap (λ b. (b && m (l ∷ ls)) || list_any (λ a. is_at_or_above apex a && m a) (suffixes ls)) h
    ∙ none_passes_above apex m ls (rest (name_eq apex (l ∷ ls)) (is_at_or_above apex ls) h)
  where
    rest : (here below : Bool) → (here || below) ≡ false → below ≡ false
    rest true below e = absurd (true≢false e)
    rest false below e = e

module _ (apex : Name) (hash : Name → Option (List ℕ)) (rs : List Nsec3Record) where
  -- at the apex and above it the walk ends
  pub referral_ends : (n : Name) → is_above apex n ≡ false → is_handed_on apex hash rs n ≡ false
  referral_ends [] h = refl
  referral_ends (l ∷ ls) h = none_passes_above apex (is_handing_on apex hash rs) ls h

  referral_step : (l : List ℕ) (ls : Name) → is_above apex (l ∷ ls) ≡ true → is_handed_on apex hash rs (l ∷ ls) ≡ is_handing_on apex hash rs ls || is_handed_on apex hash rs ls
  referral_step l ls h =
      any_suffix (λ a. is_at_or_above apex a && is_handing_on apex hash rs a) ls ∙ ap (λ b. (b && is_handing_on apex hash rs ls) || is_handed_on apex hash rs ls) h

  -- the parent hands it on
  pub referral_found : (n : Name) → is_above apex n ≡ true → is_handing_on apex hash rs (drop 1 n) ≡ true → is_handed_on apex hash rs n ≡ true
  referral_found [] h m = absurd (true≢false (sym h))
  referral_found (l ∷ ls) h m = referral_step l ls h ∙ ap (λ b. b || is_handed_on apex hash rs ls) m

  -- it doesn't: the walk goes on
  pub referral_on : (n : Name) → is_above apex n ≡ true → is_handing_on apex hash rs (drop 1 n) ≡ false → is_handed_on apex hash rs n ≡ is_handed_on apex hash rs (drop 1 n)
  referral_on [] h m = absurd (true≢false (sym h))
  referral_on (l ∷ ls) h m = referral_step l ls h ∙ ap (λ b. b || is_handed_on apex hash rs ls) m

  -- where no record is of a name that hands on, none is handed on
  pub no_referral : (n : Name) → list_any (λ r. not (is_of_encloser r)) rs ≡ false → is_handed_on apex hash rs n ≡ false
  no_referral n none = all (proper_ancestors n)
    where
      never : (b : Bool) → (b && false) ≡ false
      never true = refl
      never false = refl

      all : (ns : List Name) → list_any (λ a. is_at_or_above apex a && is_handing_on apex hash rs a) ns ≡ false
      all [] = refl
      all (a ∷ more) =
          ap (λ b. (is_at_or_above apex a && b) || list_any (λ k. is_at_or_above apex k && is_handing_on apex hash rs k) more) (list_any-neither _ (λ r. not (is_of_encloser r)) rs none)
          ∙ ap (λ b. b || list_any (λ k. is_at_or_above apex k && is_handing_on apex hash rs k) more) (never (is_at_or_above apex a)) ∙ all more

-- the base of a name is the name without its first label
pub base_is_drop : (n : Name) → base_name n ≡ drop 1 n
base_is_drop [] = refl
base_is_drop (l ∷ ls) = refl

pub base_of_base : (n : Name) → drop 1 (drop 1 n) ≡ base_name (base_name n)
base_of_base [] = refl
base_of_base (l ∷ []) = refl
base_of_base (l ∷ k ∷ ks) = refl

-- what has passed of a name below the apex, and a label more
pub passed_on : (apex n q front : Name) → is_above apex n ≡ true → q ≡ front ++ n → (f : Name) × (q ≡ f ++ drop 1 n)
passed_on apex [] q front h e = absurd (true≢false (sym h))
passed_on apex (l ∷ ls) q front h e = let r = by front in (r.0, e ∙ r.1)
  where
    by : (front : Name) → (f : Name) × (front ++ l ∷ ls ≡ f ++ ls)
    by [] = (l ∷ [], refl)
    by (x ∷ front) = let r = by front in (x ∷ r.0, ap (λ ys. x ∷ ys) r.1)

-- where the walk is, the name is the next closer one of its base
pub closer_is : (apex n q front : Name) → is_above apex n ≡ true → q ≡ front ++ n → next_closer q (base_name n) ≡ Some n
closer_is apex [] q front h e = absurd (true≢false (sym h))
closer_is apex (l ∷ ls) q front h e = ap (λ x. next_closer x ls) e ∙ by front
  where
    by : (front : Name) → next_closer (front ++ l ∷ ls) ls ≡ Some (l ∷ ls)
    by [] = ap (λ b. cond b (Some (l ∷ ls)) (find (λ (s : Name). length s == suc (length ls)) (suffixes ls))) (eq-eqb (length (l ∷ ls)) (suc (length ls)) refl)
    by (f ∷ front) =
        ap (λ b. cond b (Some (f ∷ front ++ l ∷ ls)) (find (λ (s : Name). length s == suc (length ls)) (suffixes (front ++ l ∷ ls))))
        (ne_eqb (suc (length (front ++ l ∷ ls))) (suc (length ls)) (λ e. absurd (omega (arith, e, length-append front (l ∷ ls)))))
        ∙ by front
