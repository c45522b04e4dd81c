-- What is found by name among values in the order of their names, of which one was put in place of the one of its name
use Rattle.std.proofs.Common.{◌≡◌, ◌∙◌, Bool, true, false, cond, List, [], ◌∷◌, refl, sym, ap, Ordering, Less, Equal, Greater}
use Rattle.std.proofs.lemmas.Cmp.{eq_by_cmp_equiv}
use Rattle.std.specs.List.{find}
use Rattle.std.specs.Ordering.{eq_by_cmp, is_eq, match_ordering, ordering_reverse}
use Rattle.std.specs.Prelude.{Option, Some}
use Rattle.zone_proto.specs.NameLaws.{exact_names}
use Rattle.zone_proto.specs.Names.{Name, name_cmp}
use Rattle.zone_proto.proofs.Names.Tree.{name_order}
use Rattle.zone_origins.specs.InOrder.{put_in_order}

module _ {Z : Type 0} (name_of : Z → Name) where
  -- a value is that of a name
  abbrev Is : Name → Z → Bool
  Is n z = eq_by_cmp name_cmp (name_of z) n

  -- a value of another name is passed over
  passed : (n : Name) (z : Z) (zs : List Z) → Is n z ≡ false → find (Is n) (z ∷ zs) ≡ find (Is n) zs
  passed n z zs h = ap (λ (b : Bool). cond b (Some z) (find (Is n) zs)) h

  pub others_stay : (n : Name) (z : Z) (zs : List Z) → Is n z ≡ false → find (Is n) (put_in_order name_of z zs) ≡ find (Is n) zs
  others_stay n z [] h = passed n z [] h
  others_stay n z (y ∷ ys) h = by (name_cmp (name_of z) (name_of y)) refl (others_stay n z ys h)
    where
      by : (c : Ordering) → name_cmp (name_of z) (name_of y) ≡ c → find (Is n) (put_in_order name_of z ys) ≡ find (Is n) ys
          → find (Is n) (match_ordering c (z ∷ y ∷ ys) (z ∷ ys) (y ∷ put_in_order name_of z ys)) ≡ find (Is n) (y ∷ ys)
      by Less e up = passed n z (y ∷ ys) h
      by Equal e up =
          passed n z ys h ∙ sym (passed n y ys (ap (λ (o : Name). eq_by_cmp name_cmp o n) (sym (exact_names (name_of z) (name_of y) e)) ∙ h))
      by Greater e up = ap (λ (found : Option Z). cond (Is n y) (Some y) found) up

  -- the value that was put is found
  pub found_put : (z : Z) (zs : List Z) → find (Is (name_of z)) (put_in_order name_of z zs) ≡ Some z
  found_put z zs = among zs
    where
      itself : Is (name_of z) z ≡ true
      itself = (eq_by_cmp_equiv name_order.total).refl (name_of z)

      first : (ys : List Z) → find (Is (name_of z)) (z ∷ ys) ≡ Some z
      first ys = ap (λ (b : Bool). cond b (Some z) (find (Is (name_of z)) ys)) itself

      apart : (y : Z) → name_cmp (name_of z) (name_of y) ≡ Greater → Is (name_of z) y ≡ false
      apart y e = ap is_eq (name_order.total.antisymm (name_of y) (name_of z) ∙ ap ordering_reverse e)

      among : (ys : List Z) → find (Is (name_of z)) (put_in_order name_of z ys) ≡ Some z
      among [] = first []
      among (y ∷ ys) = by (name_cmp (name_of z) (name_of y)) refl (among ys)
        where
          by : (c : Ordering) → name_cmp (name_of z) (name_of y) ≡ c → find (Is (name_of z)) (put_in_order name_of z ys) ≡ Some z
              → find (Is (name_of z)) (match_ordering c (z ∷ y ∷ ys) (z ∷ ys) (y ∷ put_in_order name_of z ys)) ≡ Some z
          by Less e up = first (y ∷ ys)
          by Equal e up = first ys
          by Greater e up = passed (name_of z) y (put_in_order name_of z ys) (apart y e) ∙ up
