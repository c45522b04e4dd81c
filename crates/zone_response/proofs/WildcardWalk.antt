-- The walk up a name to its closest encloser, and the wildcard at that
use Rattle.std.proofs.Common.{◌≡◌, ◌<◌, ◌≤◌, ◌-◌, suc, true, false, cond, [], ◌∷◌, ◌++◌, drop, length, refl, sym, ap, ◌∙◌, subst, arith, length-append, ◌⊎◌, inl, inr}
use Rattle.std.specs.Prelude.{Some, None, find, option_map}
use Rattle.std.proofs.lemmas.List.{append_assoc}
use Rattle.zone_proto.specs.Names.{Label, Name, suffixes, wildcard_under, wildcard_of, wire_length, IsAbove, IsAtOrAbove}
use Rattle.zone_proto.proofs.Names.Tree.{above_cases}
use Rattle.zone_map.specs.Walks.{IsChild}
use Rattle.zone_map.specs.Wildcards.{exists, closest_encloser}
use Rattle.zone_map.specs.Zones.{Sets}
use Rattle.zone_map.proofs.NearestNames.{nearest_here, none_nearest}
use Rattle.zone_response.specs.Neighbours.{NoLongerExists}
use Rattle.zone_response.specs.Wildcards.{source_of_synthesis}

-- a name and a child of it, each without its first label
pub shortened : (n k c d : Name) → (n ≡ [] → ⊥) → k ≡ drop 1 n → IsChild c n → d ≡ drop 1 c → IsChild d k
shortened [] k c d below e child f = absurd (below refl)
shortened (l ∷ n) k c d below e (m, child) f = (l, f ∙ ap (drop 1) child ∙ ap (λ x. l ∷ x) (sym e))

-- the parent of a name
pub parent_above : (n a : Name) → (n ≡ [] → ⊥) → a ≡ drop 1 n → IsAbove a n
parent_above [] a below e = absurd (below refl)
parent_above (l ∷ n) a below e = (l, [], ap (λ b. l ∷ b) (sym e))

pub above_above : (a b n : Name) → IsAbove a b → IsAbove b n → IsAbove a n
above_above a b n (k, f, e) (l, g, h) = (l, g ++ (k ∷ f), h ∙ ap (λ x. l ∷ x) (ap (λ x. g ++ x) e ∙ sym (append_assoc g (k ∷ f) a)))

-- of a name that is above another one, the next longer name above that is a child
child : (k : Label) (f a : Name) → IsChild (drop (length f) ((k ∷ f) ++ a)) a
child k [] a = (k, refl)
child k (j ∷ f) a = child j f a

pub next_longer : (n a : Name) → IsAbove a n → IsChild (drop (length n - suc (length a)) n) a
next_longer n a (k, f, e) =
    let same : length n - suc (length a) ≡ length f = omega (arith, ap length e, length-append (k ∷ f) a) in
    subst (λ x. IsChild x a) (sym (λ i. drop (same i) (e i))) (child k f a)

-- a name has fewer labels than octets
pub labels_fit : (n : Name) → length n ≤ wire_length n
labels_fit [] = omega arith
labels_fit (l ∷ n) = let rest : length n ≤ wire_length n = labels_fit n in omega arith

module _ (m : Sets) where
  -- the root has no encloser
  pub none_of_root : (n : Name) → n ≡ [] → None ≡ source_of_synthesis m n
  none_of_root [] e = refl
  none_of_root (l ∷ n) e = cc

  pub begins : (n a : Name) → (n ≡ [] → ⊥) → a ≡ drop 1 n → find (exists m) (suffixes a) ≡ closest_encloser m n
  begins [] a below e = absurd (below refl)
  begins (l ∷ n) a below e = ap (λ b. find (exists m) (suffixes b)) e

  -- names that don't exist are passed over
  passed_over : (front c : Name) → ((a : Name) → IsAtOrAbove a (front ++ c) → length c < length a → exists m a ≡ false)
      → find (exists m) (suffixes (front ++ c)) ≡ find (exists m) (suffixes c)
  passed_over [] c none = refl
  passed_over (l ∷ front) c none =
      let longer : length c < length (l ∷ (front ++ c)) = omega (arith, length-append front c) in
      ap (λ b. cond b (Some (l ∷ (front ++ c))) (find (exists m) (suffixes (front ++ c)))) (none (l ∷ (front ++ c)) ([], refl) longer)
      ∙ passed_over front c (λ a w more. none a (l ∷ w.0, ap (λ n. l ∷ n) w.1) more)

  module _ (n a : Name) (left : find (exists m) (suffixes a) ≡ closest_encloser m n) where
    -- the name itself is the encloser, and its child the next closer name
    pub at_encloser : (closer : Name) → exists m a ≡ true → IsChild closer a → Some (wildcard_of closer) ≡ source_of_synthesis m n
    at_encloser closer there (l, is) = ap (λ c. Some (wildcard_of c)) is ∙ ap (option_map wildcard_under) (sym (nearest_here m a there) ∙ left)

    pub at_root : a ≡ [] → exists m a ≡ false → None ≡ source_of_synthesis m n
    at_root root absent = ap (option_map wildcard_under) (sym (none_nearest m a root absent) ∙ left)

    pub passed : (b : Name) → IsAbove b a → exists m a ≡ false → NoLongerExists m a (length b) → find (exists m) (suffixes b) ≡ closest_encloser m n
    passed b w absent none =
        sym (ap (λ c. find (exists m) (suffixes c)) w.2 ∙ passed_over (w.0 ∷ w.1) b (λ c v more. by c (above_cases c a (v.0, w.2 ∙ v.1)) more))
        ∙ left
      where
        by : (c : Name) → (c ≡ a) ⊎ IsAbove c a → length b < length c → exists m c ≡ false
        by c (inl e) more = ap (exists m) e ∙ absent
        by c (inr above) more = none c above more
