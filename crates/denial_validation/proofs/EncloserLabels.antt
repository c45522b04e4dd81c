-- The ancestors of a name are distinguished by how many labels they have
use Rattle.std.proofs.Common.{◌≡◌, ◌≢◌, ℕ, ◌≤◌, ◌<◌, Bool, true, false, ◌==◌, ◌&&◌, cond, List, [], ◌∷◌, length, find, Option, Some, None, refl, sym, ap, ◌∙◌, arith, ne_eqb, eqb-true}
use Rattle.std.specs.List.{list_any}
use Rattle.std.specs.Option.{option_map_or}
use Rattle.zone_proto.specs.Names.{Name, name_eq, proper_ancestors, wildcard_under, suffixes}
use Rattle.zone_proto.proofs.Names.NameTree.{name_eq-Decides}
use Rattle.zone_proto.proofs.Names.Tree.{name_eq_itself}
use Rattle.denial_validation.specs.Encloser.{ancestor_of}
use Rattle.denial_validation.specs.NsecProofs.{denies_name, shown_encloser, proves_wildcard_answer}
use Rattle.denial_validation.specs.NsecRecords.{NsecRecord}
use Rattle.denial_validation.proofs.ListTests.{list_any-with}

no_longer : (p : Name → Bool) (n a : Name) → find p (suffixes n) ≡ Some a → length a ≤ length n
no_longer p [] a h = by (p []) h
  where
    by : (passes : Bool) → cond passes (Some []) None ≡ Some a → length a ≤ 0
    by true e = let same : [] ≡ a = cc in omega (arith, ap length same)
    by false e = cc
no_longer p (l ∷ ls) a h = by (p (l ∷ ls)) h (no_longer p ls a)
  where
    by : (passes : Bool) → cond passes (Some (l ∷ ls)) (find p (suffixes ls)) ≡ Some a → (find p (suffixes ls) ≡ Some a → length a ≤ length ls) → length a ≤ length (l ∷ ls)
    by true e up = let same : l ∷ ls ≡ a = cc in omega (arith, ap length same)
    by false e up = omega (arith, up e)

other_name : (a n : Name) → length a ≢ length n → name_eq a n ≡ false
other_name a n differ = by (name_eq a n) refl
  where
    by : (same : Bool) → name_eq a n ≡ same → same ≡ false
    by true e = absurd (differ (ap length ((name_eq-Decides a n).0 e)))
    by false e = refl

module _ (p : Name → Bool) (k : ℕ) where
  -- the suffix that passes has k labels where it is the suffix with k labels
  counted : (n : Name) → option_map_or (λ (e : Name). length e == k) (find p (suffixes n)) false
      ≡ option_map_or (λ a. option_map_or (name_eq a) (find p (suffixes n)) false) (find (λ (a : Name). length a == k) (suffixes n)) false
  counted [] = by (p []) (0 == k) refl
    where
      by : (passes has : Bool) → (0 == k) ≡ has → option_map_or (λ (e : Name). length e == k) (cond passes (Some []) None) false
          ≡ option_map_or (λ (a : Name). option_map_or (name_eq a) (cond passes (Some []) None) false) (cond has (Some []) None) false
      by true true e = e
      by true false e = e
      by false true e = refl
      by false false e = refl
  counted (l ∷ ls) = by (p (l ∷ ls)) (length (l ∷ ls) == k) refl (counted ls)
    where
      -- a suffix of the rest is another name
      shorter : (q : Name → Bool) (a : Name) → find q (suffixes ls) ≡ Some a → length a < length (l ∷ ls)
      shorter q a e = let most : length a ≤ length ls = no_longer q ls a e in omega arith

      not_whole : (found : Option Name) → find (λ (a : Name). length a == k) (suffixes ls) ≡ found → option_map_or (λ a. name_eq a (l ∷ ls)) found false ≡ false
      not_whole None e = refl
      not_whole (Some a) e = let less : length a < length (l ∷ ls) = shorter _ a e in other_name a (l ∷ ls) (omega arith)

      neither : (found : Option Name) → find p (suffixes ls) ≡ found → length (l ∷ ls) ≡ k
          → option_map_or (λ (e : Name). length e == k) found false ≡ option_map_or (name_eq (l ∷ ls)) found false
      neither None e all = refl
      neither (Some a) e all =
          let less : length a < length (l ∷ ls) = shorter p a e in
          ne_eqb (length a) k (omega (arith, all)) ∙ sym (other_name (l ∷ ls) a (omega arith))

      by : (passes has : Bool) → (length (l ∷ ls) == k) ≡ has
          → option_map_or (λ (e : Name). length e == k) (find p (suffixes ls)) false
          ≡ option_map_or (λ a. option_map_or (name_eq a) (find p (suffixes ls)) false) (find (λ (a : Name). length a == k) (suffixes ls)) false
          → option_map_or (λ (e : Name). length e == k) (cond passes (Some (l ∷ ls)) (find p (suffixes ls))) false
          ≡ option_map_or (λ a. option_map_or (name_eq a) (cond passes (Some (l ∷ ls)) (find p (suffixes ls))) false) (cond has (Some (l ∷ ls)) (find (λ (a : Name). length a == k) (suffixes ls))) false
      by true true e up = e ∙ sym (name_eq_itself (l ∷ ls))
      by true false e up = e ∙ sym (not_whole (find (λ (a : Name). length a == k) (suffixes ls)) refl)
      by false true e up = neither (find p (suffixes ls)) refl (eqb-true (length (l ∷ ls)) k e)
      by false false e up = up

  counted_above : (x : Name) → option_map_or (λ (e : Name). length e == k) (find p (proper_ancestors x)) false
      ≡ option_map_or (λ a. option_map_or (name_eq a) (find p (proper_ancestors x)) false) (ancestor_of x k) false
  counted_above [] = refl
  counted_above (l ∷ ls) = counted ls

-- so a number of labels tells which closest encloser is meant
pub answer_by_labels : (apex : Name) (rs : List NsecRecord) (x : Name) (k : ℕ)
    → list_any (λ r. denies_name apex r x && option_map_or (λ (e : Name). length e == k) (shown_encloser r x) false) rs
    ≡ option_map_or (proves_wildcard_answer apex rs x) (ancestor_of x k) false
answer_by_labels apex rs x k =
    list_any-with (λ r. denies_name apex r x) (λ r. option_map_or (λ (e : Name). length e == k) (shown_encloser r x) false)
    (λ a r. option_map_or (λ e. name_eq (wildcard_under a) (wildcard_under e)) (shown_encloser r x) false) (ancestor_of x k)
    (λ r. counted_above _ k x) rs
