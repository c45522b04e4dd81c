-- A name one label below the origin of its zone
use Rattle.std.proofs.Common.{◌≡◌, ◌-◌, ◌<◌, true, [], ◌∷◌, ◌++◌, drop, length, sym, ap, arith, length-append}
use Rattle.std.specs.Prelude.{Some}
use Rattle.zone_proto.specs.Names.{Name, wildcard_of, is_at_or_above}
use Rattle.zone_proto.proofs.Names.NameTree.{is_at_or_above_sound}
use Rattle.zone_map.specs.Walks.{IsChild}
use Rattle.zone_map.specs.Zones.{Sets}
use Rattle.zone_response.specs.Neighbours.{NoLongerOwns}
use Rattle.zone_response.specs.Wildcards.{source_of_synthesis, IsUnderApex}
use Rattle.zone_response.proofs.NextKeys.{shorter_above}
use Rattle.zone_response.proofs.WildcardWalk.{begins, at_encloser}

-- of names of a zone, one that has a label more than its origin is one label below it
of_front : (front top x : Name) → x ≡ front ++ top → length x - length top ≡ 1 → IsChild x top
of_front [] top x e more = absurd (omega (arith, ap length e, more))
of_front (l ∷ []) top x e more = (l, e)
of_front (l ∷ (k ∷ f)) top x e more = absurd (omega (arith, ap length e, length-append f top, more))

pub child_by_length : (top x : Name) → is_at_or_above top x ≡ true → length x - length top ≡ 1 → IsChild x top
child_by_length top x inside more = let r = is_at_or_above_sound top x inside in of_front r.0 top x r.1 more

module _ (m : Sets) (origin x : Name) where
  -- no other name is above it that has as many labels as the origin, or more
  pub none_longer : IsUnderApex m origin x → NoLongerOwns m x (length origin)
  none_longer u = λ a t above longer. absurd (omega (arith, shorter_above a x above, longer, ap length u.child.1))

  pub longer_by_one : IsUnderApex m origin x → length origin < length x
  longer_by_one u = omega (arith, ap length u.child.1)

  -- its closest encloser is the origin
  pub source_under_apex : IsUnderApex m origin x → Some (wildcard_of x) ≡ source_of_synthesis m x
  source_under_apex u =
      let below : x ≡ [] → ⊥ = λ e. absurd (omega (arith, ap length e, ap length u.child.1)) in
      at_encloser m x origin (begins m x origin below (sym (ap (drop 1) u.child.1))) x u.there u.child
