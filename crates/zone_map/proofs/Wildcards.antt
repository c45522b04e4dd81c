-- The wildcard at the closest encloser is that of the closest encloser
use Rattle.std.proofs.Common.{◌≡◌, ◌||◌, Bool, true, false, cond, [], ◌∷◌, refl, sym, ap, ◌∙◌}
use Rattle.std.specs.Prelude.{Option, Some, None, find, option_map}
use Rattle.zone_proto.specs.Names.{Name, IsAbove, IsAtOrAbove, is_root, suffixes, is_wildcard, wildcard_under}
use Rattle.zone_map.specs.Zones.{Sets}
use Rattle.zone_map.specs.Wildcards.{exists, closest_encloser, asked_wildcard}
use Rattle.zone_map.specs.SearchLaws.{IsClosestEncloser, WildcardIsOfClosestEncloser}
use Rattle.zone_map.proofs.Delegations.{found_above, found_longest, none_found}

module _ (m : Sets) where
  closest : (n a : Name) → closest_encloser m n ≡ Some a → IsClosestEncloser m n a
  closest [] a e = absurd cc
  closest (l ∷ n) a e =
      let r = found_above (exists m) n a e in
      record {
        above = (l, r.0.0, ap (λ x. l ∷ x) r.0.1);
        there = r.1;
        longest = λ b u k. found_longest (exists m) n a e b (below b u) k;
      }
    where
      below : (b : Name) → IsAbove b (l ∷ n) → IsAtOrAbove b n
      below b (x, f, g) = (f, cc)

  -- what it takes that a wildcard is asked
  record IsAsked (n s : Name) : Type 0 where
    plain : is_wildcard n ≡ false
    absent : exists m n ≡ false
    encloser : Name
    is_encloser : closest_encloser m n ≡ Some encloser
    wildcard_name : s ≡ wildcard_under encloser

  asked : (n s : Name) → asked_wildcard m n ≡ Some s → IsAsked n s
  asked n s e = by (is_root n) (is_wildcard n) refl (exists m n) refl e
    where
      of : is_wildcard n ≡ false → exists m n ≡ false → (o : Option Name) → closest_encloser m n ≡ o → option_map wildcard_under o ≡ Some s → IsAsked n s
      of p q None f g = absurd cc
      of p q (Some a) f g = let same : wildcard_under a ≡ s = cc in record { plain = p; absent = q; encloser = a; is_encloser = f; wildcard_name = sym same }

      by : (r b : Bool) → is_wildcard n ≡ b → (x : Bool) → exists m n ≡ x → cond (r || b || x) None (option_map wildcard_under (closest_encloser m n)) ≡ Some s → IsAsked n s
      by true b p x q g = absurd cc
      by false true p x q g = absurd cc
      by false false p true q g = absurd cc
      by false false p false q g = of p q (closest_encloser m n) refl g

  none_exists : (n : Name) → asked_wildcard m n ≡ None → is_wildcard n ≡ false → exists m n ≡ false → (b : Name) → IsAbove b n → exists m b ≡ false
  none_exists [] e p q b (x, f, g) = absurd cc
  none_exists (l ∷ n) e p q b (x, f, g) = none_found (exists m) n (of (find (exists m) (suffixes n)) refl (sym (λ i. cond (p i || q i) None (option_map wildcard_under (find (exists m) (suffixes n)))) ∙ e)) b (f, cc)
    where
      of : (o : Option Name) → find (exists m) (suffixes n) ≡ o → option_map wildcard_under o ≡ None → find (exists m) (suffixes n) ≡ None
      of None f g = f
      of (Some a) f g = absurd cc

pub wildcard_is_of_closest_encloser : WildcardIsOfClosestEncloser
wildcard_is_of_closest_encloser = record {
  plain = λ m n s e. (asked m n s e).plain;
  absent = λ m n s e. (asked m n s e).absent;
  encloser = λ m n s e. let a = asked m n s e in (a.encloser, a.wildcard_name, closest m n a.encloser a.is_encloser);
  none = λ m n e p q b u. none_exists m n e p q b u;
}
