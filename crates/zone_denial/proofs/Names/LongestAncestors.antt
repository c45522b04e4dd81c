-- The longest proper ancestor of a name that passes a test
use Rattle.std.proofs.Common.{◌≡◌, ◌<◌, Bool, true, false, [], ◌∷◌, ◌++◌, length, drop, refl, sym, ap, ◌∙◌, true≢false, ◌⊎◌, inl, inr, arith}
use Rattle.std.specs.Prelude.{Option, Some, None, find}
use Rattle.std.proofs.lemmas.List.{length-append, append_assoc}
use Rattle.zone_proto.specs.Names.{Label, Name, suffixes, IsAtOrAbove, IsAbove, proper_ancestors}
use Rattle.zone_proto.proofs.Names.Tree.{above_cases}
use Rattle.zone_map.proofs.Delegations.{found_above, found_longest, none_found}
use Rattle.zone_denial.proofs.Chain.NsecBelow.{above_at, comparable}

-- ---- names above one another

pub above_below : (a b c : Name) → IsAbove a b → IsAtOrAbove b c → IsAbove a c
above_below a b c (l, f, e) ([], q) = (l, f, q ∙ e)
above_below a b c (l, f, e) (k ∷ g, q) = (k, g ++ (l ∷ f), q ∙ ap (λ w. k ∷ g ++ w) e ∙ sym (append_assoc (k ∷ g) (l ∷ f) a))

pub above_above : (a b c : Name) → IsAtOrAbove a b → IsAbove b c → IsAbove a c
above_above a b c (g, q) (l, f, e) = (l, f ++ g, e ∙ ap (λ w. l ∷ f ++ w) q ∙ sym (append_assoc (l ∷ f) g a))

pub above_shorter : (a n : Name) → IsAbove a n → length a < length n
above_shorter a n (l, f, e) = omega (arith, ap length e, length-append (l ∷ f) a)

-- ---- the longest that passes

pub record IsLongestAbove (p : Name → Bool) (x a : Name) : Type 0 where
  pub found : find p (proper_ancestors x) ≡ Some a
  pub above : IsAbove a x
  pub passes : p a ≡ true
  pub longest : (b : Name) → IsAbove b x → length a < length b → p b ≡ false

module _ (p : Name → Bool) where
  parent : (l : Label) (x b : Name) → IsAbove b (l ∷ x) → IsAtOrAbove b x
  parent l x b (k, f, e) = (f, ap (drop 1) e)

  pub longest_is : (x a : Name) → find p (proper_ancestors x) ≡ Some a → IsLongestAbove p x a
  longest_is [] a e = absurd cc
  longest_is (l ∷ ls) a e =
      let r = found_above p ls a e in
      record {
        found = e;
        above = (l, r.0.0, ap (λ n. l ∷ n) r.0.1);
        passes = r.1;
        longest = λ b u k. found_longest p ls a e b (parent l ls b u) k;
      }

  pub longest_above : (x o : Name) → IsAbove o x → p o ≡ true → (a : Name) × IsLongestAbove p x a
  longest_above [] o (l, f, e) h = absurd cc
  longest_above (l ∷ ls) o above h = by (find p (suffixes ls)) refl
    where
      by : (r : Option Name) → find p (suffixes ls) ≡ r → (a : Name) × IsLongestAbove p (l ∷ ls) a
      by None e = absurd (true≢false (sym h ∙ none_found p ls e o (parent l ls o above)))
      by (Some a) e = (a, longest_is (l ∷ ls) a e)

  -- any other that passes is above it
  pub others_above : (x a b : Name) → IsLongestAbove p x a → IsAbove b x → p b ≡ true → IsAtOrAbove b a
  others_above x a b h above passes = by (comparable u.0 v.0 a b (sym u.1 ∙ v.1))
    where
      u : IsAtOrAbove a x
      u = above_at a x h.above

      v : IsAtOrAbove b x
      v = above_at b x above

      strictly : (a ≡ b) ⊎ IsAbove a b → IsAtOrAbove b a
      strictly (inl e) = ([], e)
      strictly (inr w) = absurd (true≢false (sym passes ∙ h.longest b above (above_shorter a b w)))

      by : IsAtOrAbove a b ⊎ IsAtOrAbove b a → IsAtOrAbove b a
      by (inl w) = strictly (above_cases a b w)
      by (inr w) = w
