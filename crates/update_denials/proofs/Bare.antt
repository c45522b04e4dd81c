-- A zone without the sets that are made where it is signed
use Rattle.std.proofs.Common.{◌≡◌, ℕ, Bool, true, false, ◌&&◌, cond, sym, ap, ◌∙◌, refl, subst}
use Rattle.std.specs.Prelude.{Option, Some, None, filter, is_some}
use Rattle.std.specs.List.{list_any}
use Rattle.std.specs.Map.{keys_of}
use Rattle.std.proofs.lemmas.Map.Made.{is_some-lookup}
use Rattle.std.proofs.lemmas.Map.Views.{any-filter_same}
use Rattle.zone_proto.specs.Types.{is_derived}
use Rattle.zone_proto.specs.Keys.{key, key_eq}
use Rattle.zone_proto.specs.Sets.{RRset}
use Rattle.zone_proto.specs.Names.{Name}
use Rattle.zone_proto.proofs.Ordering.KeyOrder.{key_same}
use Rattle.zone_map.specs.Puts.{without_all}
use Rattle.zone_map.specs.Zones.{Sets, IsZone, set_at}
use Rattle.zone_map.proofs.Putting.{found_without_all}
use Rattle.zone_signing.proofs.Changes.{IsZone-without_all}
use Rattle.update_denials.specs.Prepared.{is_made, IsUnsecured}

-- without the sets under the keys of these types, no set of such a type is left, and each other one stands as it did
pub unsecured_left : (m : Sets) → IsZone m → IsUnsecured m (without_all m (filter is_made (keys_of m)))
unsecured_left m zone = record { zone = IsZone-without_all m (filter is_made (keys_of m)) zone; each = each }
  where
    by : (b : Bool) (o : Option RRset) → cond (b && is_some o) None o ≡ cond b None o
    by true None = refl
    by true (Some s) = refl
    by false o = refl

    each : (n : Name) (t : ℕ) → set_at (without_all m (filter is_made (keys_of m))) n t ≡ cond (is_derived t) None (set_at m n t)
    each n t =
        let q = key n t in
        let told : list_any (key_eq q) (filter is_made (keys_of m)) ≡ is_derived t && is_some (set_at m n t) =
        any-filter_same (key_eq q) is_made (is_made q) (λ k same. ap is_made (sym (key_same q k same))) (keys_of m)
        ∙ ap (λ b. is_made q && b) (sym (is_some-lookup (key_eq q) m)) in
        found_without_all m (filter is_made (keys_of m)) q zone.ordered ∙ ap (λ b. cond b None (set_at m n t)) told ∙ by (is_derived t) (set_at m n t)
