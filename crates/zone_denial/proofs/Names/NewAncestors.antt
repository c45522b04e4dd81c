-- The ancestors of a name that aren't at or above another, from the highest down
use Rattle.std.proofs.Common.{◌≡◌, ℕ, ◌<◌, length, Bool, true, false, not, cond, List, [], ◌∷◌, ◌++◌, map, drop, reverse, filter, refl, sym, ap, ◌∙◌, subst, true≢false, arith, ◌⊎◌, inl, inr, append_assoc, append-nil, Less}
use Rattle.std.proofs.lemmas.List.{reverse-append, map-append}
use Rattle.zone_proto.specs.Names.{Name, name_cmp, is_at_or_above, suffixes, IsAbove, IsAtOrAbove}
use Rattle.zone_proto.proofs.Members.{In, In-from_append, In-append_left, In-append_right}
use Rattle.zone_proto.proofs.Names.NameTree.{above_test, is_at_or_above_sound, is_at_or_above_complete, above_is_less}
use Rattle.zone_proto.proofs.Names.Tree.{above_cases}
use Rattle.zone_denial.specs.Nsec3Nodes.{new_ancestors}
use Rattle.zone_denial.proofs.Ascending.{Ascends, Ascends-joined}

pub above_later : (a b n : Name) → IsAtOrAbove a b → IsAtOrAbove b n → IsAtOrAbove a n
above_later a b n v w = (w.0 ++ v.0, w.1 ∙ ap (λ x. w.0 ++ x) v.1 ∙ sym (append_assoc w.0 v.0 a))

pub not_at_or_above : (a n : Name) → (IsAtOrAbove a n → ⊥) → is_at_or_above a n ≡ false
not_at_or_above a n h = by (is_at_or_above a n) refl
  where
    by : (b : Bool) → is_at_or_above a n ≡ b → b ≡ false
    by true e = absurd (h (is_at_or_above_sound a n e))
    by false e = refl

root_above : (n : Name) → IsAtOrAbove [] n
root_above n = (n, sym (append-nil n))

above_tail : (l : List ℕ) (ls : Name) → IsAbove ls (l ∷ ls)
above_tail l ls = (l, [], refl)

module _ (last : Name) where
  abbrev is_new : Name → Bool
  is_new a = not (is_at_or_above a last)

  -- above a name that isn't new there is no new one
  none_new : (n : Name) → IsAtOrAbove n last → filter is_new (suffixes n) ≡ []
  none_new [] h = ap (λ b. cond (not b) ([] ∷ []) []) (is_at_or_above_complete [] last h)
  none_new (l ∷ ls) h =
      let upper = above_later ls (l ∷ ls) last (l ∷ [], refl) h in
      ap (λ b. cond (not b) ((l ∷ ls) ∷ filter is_new (suffixes ls)) (filter is_new (suffixes ls))) (is_at_or_above_complete (l ∷ ls) last h) ∙ none_new ls upper

  pub no_new : (n p : Name) → p ≡ drop 1 n → IsAtOrAbove p last → new_ancestors last n ≡ []
  no_new [] p e h = refl
  no_new (l ∷ ls) p e h = ap reverse (none_new ls (subst (λ x. IsAtOrAbove x last) e h))

  one_new : (l : List ℕ) (ls : Name) → is_at_or_above ls last ≡ false → new_ancestors last (l ∷ ls) ≡ new_ancestors last ls ++ ls ∷ []
  one_new l [] h = absurd (true≢false (sym (is_at_or_above_complete [] last (root_above last)) ∙ h))
  one_new l (m ∷ ms) h =
      ap (λ b. reverse (cond (not b) ((m ∷ ms) ∷ filter is_new (suffixes ms)) (filter is_new (suffixes ms)))) h
      ∙ reverse-append ((m ∷ ms) ∷ []) (filter is_new (suffixes ms))

  pub one_more : (n p : Name) → p ≡ drop 1 n → (IsAtOrAbove p last → ⊥) → new_ancestors last n ≡ new_ancestors last p ++ p ∷ []
  one_more [] p e h = absurd (h (subst (λ x. IsAtOrAbove x last) (sym e) (root_above last)))
  one_more (l ∷ ls) p e h = subst (λ x. new_ancestors last (l ∷ ls) ≡ new_ancestors last x ++ x ∷ []) (sym e) (one_new l ls (not_at_or_above ls last (λ w. h (subst (λ x. IsAtOrAbove x last) (sym e) w))))

  pub shorter : (n p : Name) → p ≡ drop 1 n → (IsAtOrAbove p last → ⊥) → length p < length n
  shorter [] p e h = absurd (h (subst (λ x. IsAtOrAbove x last) (sym e) (root_above last)))
  shorter (l ∷ ls) p e h = let s : length p ≡ length ls = ap length e in omega (arith, s)

  -- ---- which these are

  pub new_is : (n a : Name) → In a (new_ancestors last n) → IsAbove a n × (is_at_or_above a last ≡ false)
  new_is [] a i = absurd i
  new_is (l ∷ ls) a i = by (is_at_or_above ls last) refl (λ j. new_is ls a j)
    where
      among : is_at_or_above ls last ≡ false → (In a (new_ancestors last ls) → IsAbove a ls × (is_at_or_above a last ≡ false)) → In a (new_ancestors last ls) ⊎ In a (ls ∷ []) → IsAbove a (l ∷ ls) × (is_at_or_above a last ≡ false)
      among e ih (inl j) = let r = ih j in ((l, r.0.0 ∷ r.0.1, ap (λ (x : Name). l ∷ x) r.0.2), r.1)
      among e ih (inr (inl s)) = (subst (λ x. IsAbove x (l ∷ ls)) s (above_tail l ls), ap (λ x. is_at_or_above x last) (sym s) ∙ e)
      among e ih (inr (inr j)) = absurd j

      by : (b : Bool) → is_at_or_above ls last ≡ b → (In a (new_ancestors last ls) → IsAbove a ls × (is_at_or_above a last ≡ false)) → IsAbove a (l ∷ ls) × (is_at_or_above a last ≡ false)
      by true e ih = absurd (subst (λ (xs : List Name). In a xs) (no_new (l ∷ ls) ls refl (is_at_or_above_sound ls last e)) i)
      by false e ih = among e ih (In-from_append a (new_ancestors last ls) (ls ∷ []) (subst (λ (xs : List Name). In a xs) (one_new l ls e) i))

  pub is_among_new : (n a : Name) → IsAbove a n → is_at_or_above a last ≡ false → In a (new_ancestors last n)
  is_among_new [] a h e = absurd (true≢false (sym ((above_test a []).1 h)))
  is_among_new (l ∷ ls) a h e =
      let at : IsAtOrAbove a ls = is_at_or_above_sound a ls ((above_test a (l ∷ ls)).1 h) in
      let lower = not_at_or_above ls last (λ w. true≢false (sym (is_at_or_above_complete a last (above_later a ls last at w)) ∙ e)) in
      subst (λ (xs : List Name). In a xs) (sym (one_new l ls lower)) (by (above_cases a ls at) (λ w. is_among_new ls a w e))
    where
      by : (a ≡ ls) ⊎ IsAbove a ls → (IsAbove a ls → In a (new_ancestors last ls)) → In a (new_ancestors last ls ++ ls ∷ [])
      by (inl s) ih = In-append_right a (new_ancestors last ls) (ls ∷ []) (inl (sym s))
      by (inr w) ih = In-append_left a (new_ancestors last ls) (ls ∷ []) (ih w)

  pub new_ascend : (n : Name) → Ascends name_cmp (new_ancestors last n)
  new_ascend [] = tt
  new_ascend (l ∷ ls) = by (is_at_or_above ls last) refl (new_ascend ls)
    where
      by : (b : Bool) → is_at_or_above ls last ≡ b → Ascends name_cmp (new_ancestors last ls) → Ascends name_cmp (new_ancestors last (l ∷ ls))
      by true e ih = subst (Ascends name_cmp) (sym (no_new (l ∷ ls) ls refl (is_at_or_above_sound ls last e))) tt
      by false e ih =
          subst (Ascends name_cmp) (sym (one_new l ls e))
          (Ascends-joined name_cmp (new_ancestors last ls) (ls ∷ []) ih ((λ y i. absurd i), tt) (λ x y i j. less x y (new_is ls x i).0 j))
        where
          less : (x y : Name) → IsAbove x ls → In y (ls ∷ []) → name_cmp x y ≡ Less
          less x y h (inl s) = ap (name_cmp x) (sym s) ∙ above_is_less x ls h
          less x y h (inr j) = absurd j

-- ---- as the program puts them behind others

abbrev pub empty_nodes : List Name → List (Name × List ℕ)
empty_nodes ns = map (λ (n : Name). (n, [])) ns

pub one_more_node : (last n p : Name) (old new : List (Name × List ℕ)) → p ≡ drop 1 n → (IsAtOrAbove p last → ⊥) → new ≡ old ++ empty_nodes (new_ancestors last p) → new ++ (p, []) ∷ [] ≡ old ++ empty_nodes (new_ancestors last n)
one_more_node last n p old new e h is =
    ap (λ ns. ns ++ (p, []) ∷ []) is
    ∙ append_assoc old (empty_nodes (new_ancestors last p)) ((p, []) ∷ [])
    ∙ ap (λ ns. old ++ ns) (sym (map-append (λ (n : Name). (n, [])) (new_ancestors last p) (p ∷ [])) ∙ ap empty_nodes (sym (one_more last n p e h)))
