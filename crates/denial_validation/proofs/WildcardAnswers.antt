-- Answers that were made from a wildcard, by NSEC3 records: the encloser by its labels, and the walk to the covered name that is
-- nearest to the apex
use Rattle.std.proofs.Common.{◌≡◌, ℕ, ◌==◌, ◌&&◌, ◌||◌, ◌<◌, ◌≤◌, ◌-◌, suc, Bool, true, false, cond, List, [], ◌∷◌, length, drop, Option, Some, None, find, reverse, option_map, refl, sym, ap, ◌∙◌, true≢false, eqb-true, eq-eqb, ne_eqb, arith}
use Rattle.std.specs.Prelude.{filter}
use Rattle.std.specs.Option.{option_map_or, option_or}
use Rattle.std.proofs.lemmas.Grind.{reverse_onto}
use Rattle.std.proofs.lemmas.List.Folds.{find-append}
use Rattle.zone_proto.specs.Names.{Name, base_name, name_eq, is_above, is_at_or_above, proper_ancestors, suffixes}
use Rattle.zone_proto.proofs.Names.Tree.{name_eq_itself}
use Rattle.denial_validation.specs.declared.proof.Proof.{Proof}
use Rattle.denial_validation.specs.declared.proof.Proof.TheVariants.{WildcardAnswer}
use Rattle.denial_validation.specs.Encloser.{ancestor_of, next_closer}
use Rattle.denial_validation.specs.Nsec3Proofs.{is_covered, is_opted_out, covered_closer, wildcard_answer, proves_wildcard_answer}
use Rattle.denial_validation.specs.Nsec3Records.{Nsec3Record}
use Rattle.denial_validation.proofs.ListTests.{find_passes}
use Rattle.denial_validation.proofs.ShownWalk.{base_is_drop}

-- ---- the ancestor with so many labels

either_true : (a b : Bool) → b ≡ true → (a || b) ≡ true
either_true true b h = refl
either_true false b h = h

at_or_above_itself : (n : Name) → is_at_or_above n n ≡ true
at_or_above_itself [] = name_eq_itself []
at_or_above_itself (l ∷ ls) = ap (λ b. b || is_at_or_above (l ∷ ls) ls) (name_eq_itself (l ∷ ls))

above_is_at_or_above : (a n : Name) → is_above a n ≡ true → is_at_or_above a n ≡ true
above_is_at_or_above a [] h = absurd (true≢false (sym h))
above_is_at_or_above a (l ∷ ls) h = either_true (name_eq a (l ∷ ls)) (is_at_or_above a ls) h

find_suffix : (p : Name → Bool) (n : Name) → find p (suffixes n) ≡ cond (p n) (Some n) (find p (proper_ancestors n))
find_suffix p [] = refl
find_suffix p (l ∷ ls) = refl

-- a name has no ancestor with as many labels or more
pub too_many_labels : (n : Name) (k : ℕ) → length n ≤ k → ancestor_of n k ≡ None
too_many_labels [] k h = refl
too_many_labels (l ∷ ls) k h =
    find_suffix (λ (a : Name). length a == k) ls
    ∙ ap (λ b. cond b (Some ls) (ancestor_of ls k)) (ne_eqb (length ls) k (λ e. omega (arith, e)))
    ∙ too_many_labels ls k (omega arith)

-- that with fewer labels, and its next closer name
record IsAncestor (n : Name) (k : ℕ) : Type 0 where
  ancestor : Name
  is : ancestor_of n k ≡ Some ancestor
  above : is_above ancestor n ≡ true
  closer : next_closer n ancestor ≡ Some (drop (length n - suc k) n)
  below : (apex : Name) → is_above apex (drop (length n - suc k) n) ≡ is_at_or_above apex ancestor

ancestor_is : (n : Name) (k : ℕ) → k < length n → IsAncestor n k
ancestor_is [] k h = absurd (omega arith)
ancestor_is (l ∷ ls) k h = by (length ls == k) refl (ancestor_is ls k)
  where
    by : (b : Bool) → (length ls == k) ≡ b → (k < length ls → IsAncestor ls k) → IsAncestor (l ∷ ls) k
    by true e up =
        let same : length ls ≡ k = eqb-true (length ls) k e in
        let none : length (l ∷ ls) - suc k ≡ 0 = omega arith in
        record {
          ancestor = ls;
          is = find_suffix (λ (a : Name). length a == k) ls ∙ ap (λ b. cond b (Some ls) (ancestor_of ls k)) e;
          above = at_or_above_itself ls;
          closer = ap (λ b. cond b (Some (l ∷ ls)) (find (λ (s : Name). length s == suc (length ls)) (suffixes ls))) (eq-eqb (length (l ∷ ls)) (suc (length ls)) refl)
              ∙ ap (λ j. Some (drop j (l ∷ ls))) (sym none);
          below = λ apex. ap (λ j. is_above apex (drop j (l ∷ ls))) none;
        }
    by false e up =
        let fewer : k < length ls = omega (arith, λ (s : length ls ≡ k). true≢false (sym (eq-eqb (length ls) k s) ∙ e)) in
        let of = up fewer in
        let has : length of.ancestor ≡ k = eqb-true (length of.ancestor) k (find_passes (λ (a : Name). length a == k) (proper_ancestors ls) of.ancestor of.is) in
        let more : length (l ∷ ls) - suc k ≡ suc (length ls - suc k) = omega arith in
        record {
          ancestor = of.ancestor;
          is = find_suffix (λ (a : Name). length a == k) ls ∙ ap (λ b. cond b (Some ls) (ancestor_of ls k)) e ∙ of.is;
          above = above_is_at_or_above of.ancestor ls of.above;
          closer = ap (λ b. cond b (Some (l ∷ ls)) (find (λ (s : Name). length s == suc (length of.ancestor)) (suffixes ls))) (ne_eqb (length (l ∷ ls)) (suc (length of.ancestor)) (λ s. omega (arith, s, has, fewer)))
              ∙ of.closer ∙ ap (λ j. Some (drop j (l ∷ ls))) (sym more);
          below = λ apex. ap (λ j. is_above apex (drop j (l ∷ ls))) more ∙ of.below apex;
        }

module _ (apex : Name) (hash : Name → Option (List ℕ)) (rs : List Nsec3Record) where
  pub answer_by_closer : (x : Name) (k : ℕ) → k < length x → is_above apex (drop (length x - suc k) x) ≡ true
      → option_map_or (proves_wildcard_answer apex hash rs x) (ancestor_of x k) false ≡ is_covered apex hash rs (drop (length x - suc k) x)
  answer_by_closer x k h inside =
      let of = ancestor_is x k h in
      ap (λ o. option_map_or (proves_wildcard_answer apex hash rs x) o false) of.is
      ∙ (λ i. (sym (of.below apex) ∙ inside) i && of.above i && option_map_or (is_covered apex hash rs) (of.closer i) false)

  -- an encloser above the apex gives none
  pub no_answer_outside : (x : Name) (k : ℕ) → k < length x → is_above apex (drop (length x - suc k) x) ≡ false
      → option_map_or (proves_wildcard_answer apex hash rs x) (ancestor_of x k) false ≡ false
  no_answer_outside x k h outside =
      let of = ancestor_is x k h in
      ap (λ o. option_map_or (proves_wildcard_answer apex hash rs x) o false) of.is
      ∙ (λ i. (sym (of.below apex) ∙ outside) i && is_above of.ancestor x && option_map_or (is_covered apex hash rs) (next_closer x of.ancestor) false)

  pub no_answer : (x : Name) (k : ℕ) → length x ≤ k → option_map_or (proves_wildcard_answer apex hash rs x) (ancestor_of x k) false ≡ false
  no_answer x k h = ap (λ o. option_map_or (proves_wildcard_answer apex hash rs x) o false) (too_many_labels x k h)

  -- ---- the shortest covered name below the apex

  rest_false : (here below : Bool) → (here || below) ≡ false → below ≡ false
  rest_false true below e = absurd (true≢false e)
  rest_false false below e = e

  not_above : (m : Name) → is_at_or_above apex m ≡ false → is_above apex m ≡ false
  not_above [] e = refl
  not_above (k ∷ ks) e = rest_false (name_eq apex (k ∷ ks)) (is_at_or_above apex ks) e

  none_below : (n : Name) → is_above apex n ≡ false → filter (is_above apex) (suffixes n) ≡ []
  none_below [] h = refl
  none_below (l ∷ ls) h = ap (λ b. cond b ((l ∷ ls) ∷ filter (is_above apex) (suffixes ls)) (filter (is_above apex) (suffixes ls))) h ∙ none_below ls (not_above ls h)

  closer_ends : (n : Name) → is_above apex n ≡ false → covered_closer apex hash rs n ≡ None
  closer_ends n h = ap (λ ns. find (is_covered apex hash rs) (reverse ns)) (none_below n h)

  closer_on : (n : Name) → is_above apex n ≡ true → covered_closer apex hash rs n ≡ option_or (covered_closer apex hash rs (drop 1 n)) (cond (is_covered apex hash rs n) (Some n) None)
  closer_on [] h = absurd (true≢false (sym h))
  closer_on (l ∷ ls) h =
      let below = filter (is_above apex) (suffixes ls) in
      ap (λ b. find (is_covered apex hash rs) (reverse (cond b ((l ∷ ls) ∷ below) below))) h
      ∙ ap (find (is_covered apex hash rs)) (reverse_onto below (l ∷ ls) [])
      ∙ find-append (is_covered apex hash rs) (reverse below) ((l ∷ ls) ∷ [])

  no_answers : (n : Name) → is_above apex n ≡ false → wildcard_answer apex hash rs n ≡ None
  no_answers n h = ap (option_map (λ (c : Name). WildcardAnswer (length (base_name c)) (is_opted_out apex hash rs c))) (closer_ends n h)

  pub answers_end : (n : Name) (found : Option Proof) → is_above apex n ≡ false → option_or (wildcard_answer apex hash rs n) found ≡ found
  answers_end n found h = ap (λ k. option_or k found) (no_answers n h)

  -- the answer by the parent of a name, where it is covered
  abbrev by_parent : Bool → Name → Name → Option Proof → Option Proof
  by_parent covered n rest found = cond covered (Some (WildcardAnswer (length rest) (is_opted_out apex hash rs n))) found

  pub answers_on : (n rest : Name) (covered : Bool) (found : Option Proof) → is_above apex n ≡ true → covered ≡ is_covered apex hash rs n → rest ≡ drop 1 n
      → option_or (wildcard_answer apex hash rs n) found ≡ option_or (wildcard_answer apex hash rs rest) (by_parent covered n rest found)
  answers_on [] rest covered found h cover is = absurd (true≢false (sym h))
  answers_on (l ∷ ls) rest covered found h cover is =
      ap (λ c. option_or (option_map (λ (c : Name). WildcardAnswer (length (base_name c)) (is_opted_out apex hash rs c)) c) found) (closer_on (l ∷ ls) h)
      ∙ ap (λ b. option_or (option_map (λ (c : Name). WildcardAnswer (length (base_name c)) (is_opted_out apex hash rs c)) (option_or (covered_closer apex hash rs ls) (cond b (Some (l ∷ ls)) None))) found) (sym cover)
      ∙ by (covered_closer apex hash rs ls) covered
      ∙ (λ i. option_or (wildcard_answer apex hash rs (sym is i)) (by_parent covered (l ∷ ls) (sym is i) found))
    where
      by : (c : Option Name) (b : Bool) → option_or (option_map (λ (c : Name). WildcardAnswer (length (base_name c)) (is_opted_out apex hash rs c)) (option_or c (cond b (Some (l ∷ ls)) None))) found
          ≡ option_or (option_map (λ (c : Name). WildcardAnswer (length (base_name c)) (is_opted_out apex hash rs c)) c) (by_parent b (l ∷ ls) ls found)
      by (Some c) b = refl
      by None true = refl
      by None false = refl

  -- a step of the walk where the hashed owner of a name is known: outside, not covered, and covered
  pub answers_outside : (n : Name) (found : Option Proof) → is_above apex n ≡ false → option_or (wildcard_answer apex hash rs (base_name n)) found ≡ option_or (wildcard_answer apex hash rs n) found
  answers_outside [] found h = refl
  answers_outside (l ∷ ls) found h = answers_end ls found (not_above ls h) ∙ sym (answers_end (l ∷ ls) found h)

  pub answers_kept : (n : Name) (found : Option Proof) → is_above apex n ≡ true → is_covered apex hash rs n ≡ false
      → option_or (wildcard_answer apex hash rs (base_name n)) found ≡ option_or (wildcard_answer apex hash rs n) found
  answers_kept n found h uncovered = sym (answers_on n (base_name n) false found h (sym uncovered) (base_is_drop n))

  pub answers_new : (n : Name) (k : ℕ) (out : Bool) (found : Option Proof) → is_above apex n ≡ true → is_covered apex hash rs n ≡ true → k ≡ length n → out ≡ is_opted_out apex hash rs n
      → option_or (wildcard_answer apex hash rs (base_name n)) (Some (WildcardAnswer (k - 1) out)) ≡ option_or (wildcard_answer apex hash rs n) found
  answers_new [] k out found h covered count flag = absurd (true≢false (sym h))
  answers_new (l ∷ ls) k out found h covered count flag =
      let same : k - 1 ≡ length ls = omega arith in
      (λ i. option_or (wildcard_answer apex hash rs ls) (Some (WildcardAnswer (same i) (flag i)))) ∙ sym (answers_on (l ∷ ls) ls true found h (sym covered) refl)
