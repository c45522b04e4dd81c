-- What a closest encloser proof says, by whichever NSEC3 records of a zone, with opt-out or without
use Rattle.std.proofs.Common.{◌≡◌, ◌<◌, ℕ, suc, Bool, true, false, not, ◌&&◌, List, length, refl, sym, ap, ◌∙◌, true≢false, ◌⊎◌, inl, inr, arith, eqb-true}
use Rattle.std.specs.Prelude.{Option, Some, None, find, ◌==◌}
use Rattle.std.specs.List.{list_any}
use Rattle.std.specs.Option.{option_map_or}
use Rattle.zone_proto.specs.Names.{Name, is_above, is_at_or_above, IsAtOrAbove, IsAbove, proper_ancestors}
use Rattle.zone_proto.proofs.Members.{In, In-from_any, and_left, and_right, not_true}
use Rattle.zone_proto.proofs.Names.NameTree.{above_test}
use Rattle.zone_proto.proofs.Names.Tree.{above_cases}
use Rattle.zone_map.proofs.Delegations.{found_above}
use Rattle.zone_denial.proofs.Names.LongestAncestors.{above_shorter, IsLongestAbove, longest_is}
use Rattle.zone_denial.proofs.Chain.NsecBelow.{above_through, comparable}
use Rattle.denial_validation.specs.Encloser.{next_closer}
use Rattle.denial_validation.specs.Nsec3Proofs.{covers, is_matched, is_encloser, shown_encloser, encloser_and}
use Rattle.denial_validation.specs.Nsec3Records.{Nsec3Record}

-- ---- names one longer than another

shorter : (k n : Name) → IsAtOrAbove k n → (k ≡ n) ⊎ (length k < length n)
shorter k n u = by (above_cases k n u)
  where
    by : (k ≡ n) ⊎ IsAbove k n → (k ≡ n) ⊎ (length k < length n)
    by (inl e) = inl e
    by (inr w) = inr (above_shorter k n w)

-- how two ancestors of x lie
pub sides : (x a b : Name) → IsAtOrAbove a x → IsAtOrAbove b x → IsAbove a b ⊎ ((a ≡ b) ⊎ IsAbove b a)
sides x a b u v = by (comparable u.0 v.0 a b (sym u.1 ∙ v.1))
  where
    upper : (a ≡ b) ⊎ IsAbove a b → IsAbove a b ⊎ ((a ≡ b) ⊎ IsAbove b a)
    upper (inl e) = inr (inl e)
    upper (inr w) = inl w

    lower : (b ≡ a) ⊎ IsAbove b a → IsAbove a b ⊎ ((a ≡ b) ⊎ IsAbove b a)
    lower (inl e) = inr (inl (sym e))
    lower (inr w) = inr (inr w)

    by : IsAtOrAbove a b ⊎ IsAtOrAbove b a → IsAbove a b ⊎ ((a ≡ b) ⊎ IsAbove b a)
    by (inl w) = upper (above_cases a b w)
    by (inr w) = lower (above_cases b a w)

-- of two ancestors of x the shorter is above the longer
pub shorter_above : (x k n : Name) → IsAtOrAbove k x → IsAtOrAbove n x → length k < length n → IsAbove k n
shorter_above x k n u v l = by (sides x k n u v)
  where
    by : IsAbove k n ⊎ ((k ≡ n) ⊎ IsAbove n k) → IsAbove k n
    by (inl w) = w
    by (inr (inl e)) = absurd (omega (arith, ap length e, l))
    by (inr (inr w)) = absurd (omega (arith, above_shorter n k w, l))

-- the next closer name of an encloser at or below the origin is below the origin
pub closer_inside : (origin x b c : Name) → IsAtOrAbove origin b → IsAtOrAbove b x → IsAtOrAbove c x → length c ≡ suc (length b) → IsAbove origin c
closer_inside origin x b c inside above at longer = shorter_above x origin c (above_through origin b x inside above) at (by (shorter origin b inside))
  where
    by : (origin ≡ b) ⊎ (length origin < length b) → length origin < length c
    by (inl e) = omega (arith, ap length e, longer)
    by (inr s) = omega (arith, s, longer)

-- ---- the proof

module _ (origin : Name) (hash : Name → Option (List ℕ)) (rs : List Nsec3Record) where
  abbrev pub shows : Name → Bool
  shows n = is_at_or_above origin n && is_matched origin hash rs n

  -- its parts
  pub record IsProved (cover : Nsec3Record → Bool) (x : Name) (rest : Name → Bool) : Type 0 where
    pub up : IsAbove origin x
    pub unmatched : is_matched origin hash rs x ≡ false
    pub encloser : Name
    pub shown : IsLongestAbove shows x encloser
    pub encloses : is_encloser origin hash rs encloser ≡ true
    pub closer : Name
    pub at : IsAtOrAbove closer x
    pub longer : length closer ≡ suc (length encloser)
    pub covering : (r : Nsec3Record) × In r rs × (covers origin hash r closer && cover r ≡ true)
    pub passes : rest encloser ≡ true

  pub parts : (cover : Nsec3Record → Bool) (x : Name) (rest : Name → Bool) → encloser_and origin hash rs cover x rest ≡ true → IsProved cover x rest
  parts cover x rest p = by (shown_encloser origin hash rs x) refl (and_right (is_above origin x && not (is_matched origin hash rs x)) (option_map_or proved (shown_encloser origin hash rs x) false) p)
    where
      covered_one : Name → Bool
      covered_one c = list_any (λ r. covers origin hash r c && cover r) rs

      proved : Name → Bool
      proved b = is_encloser origin hash rs b && option_map_or covered_one (next_closer x b) false && rest b

      first : is_above origin x && not (is_matched origin hash rs x) ≡ true
      first = and_left (is_above origin x && not (is_matched origin hash rs x)) (option_map_or proved (shown_encloser origin hash rs x) false) p

      by : (o : Option Name) → find shows (proper_ancestors x) ≡ o → option_map_or proved o false ≡ true → IsProved cover x rest
      by None e q = absurd (true≢false (sym q))
      by (Some b) e q = with_closer (next_closer x b) refl (and_right (is_encloser origin hash rs b) (option_map_or covered_one (next_closer x b) false) two)
        where
          two : is_encloser origin hash rs b && option_map_or covered_one (next_closer x b) false ≡ true
          two = and_left (is_encloser origin hash rs b && option_map_or covered_one (next_closer x b) false) (rest b) q

          with_closer : (o : Option Name) → next_closer x b ≡ o → option_map_or covered_one o false ≡ true → IsProved cover x rest
          with_closer None d k = absurd (true≢false (sym k))
          with_closer (Some c) d k =
              let found = found_above (λ (s : Name). length s == suc (length b)) x c d in
              record {
                up = (above_test origin x).0 (and_left (is_above origin x) (not (is_matched origin hash rs x)) first);
                unmatched = not_true (is_matched origin hash rs x) (and_right (is_above origin x) (not (is_matched origin hash rs x)) first);
                encloser = b;
                shown = longest_is shows x b e;
                encloses = and_left (is_encloser origin hash rs b) (option_map_or covered_one (next_closer x b) false) two;
                closer = c;
                at = found.0;
                longer = eqb-true (length c) (suc (length b)) found.1;
                covering = In-from_any (λ r. covers origin hash r c && cover r) rs k;
                passes = and_right (is_encloser origin hash rs b && option_map_or covered_one (next_closer x b) false) (rest b) q;
              }
