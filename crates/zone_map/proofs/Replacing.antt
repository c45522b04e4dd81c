-- A set of a zone in the place of another is put there
use Rattle.std.proofs.Common.{◌≡◌, Bool, true, false, cond, refl, sym, ap, ◌∙◌, subst}
use Rattle.std.specs.Prelude.{Option, Some, None, if◌then◌else◌, is_some}
use Rattle.std.specs.BTreeMap.{insert_entry}
use Rattle.std.specs.Cmp.{eq_by_cmp_equiv}
use Rattle.std.specs.List.Sorted.{IsStrictlySortedBy}
use Rattle.std.specs.Map.{lookup, keys_of, set_value}
use Rattle.std.proofs.lemmas.Map.{keys-set_value, lookup-set_value}
use Rattle.zone_proto.specs.declared.rr_key.RrKey.{RrKey}
use Rattle.zone_proto.specs.Keys.{key, key_cmp, key_eq}
use Rattle.zone_proto.specs.Sets.{RRset}
use Rattle.zone_proto.proofs.Ordering.KeyLaws.{key_cmp_total}
use Rattle.zone_proto.proofs.Ordering.KeyOrder.{key_same}
use Rattle.zone_map.specs.Zones.{Sets, owns, put, IsStoredAt, IsZone}
use Rattle.zone_map.proofs.Putting.{same_entries, set_value_absent}
use Rattle.zone_map.proofs.Stored.{put_apart, put_found, sorted_put, IsZone-put}

module _ (m : Sets) (k : RrKey) (v : RRset) (zone : IsZone m) where
  ordered : IsStrictlySortedBy key_cmp (keys_of (set_value (key_eq k) m v))
  ordered = subst (IsStrictlySortedBy key_cmp) (sym (keys-set_value (key_eq k) m v)) zone.ordered

  -- where a set stands
  set_is_put : (stood : RRset) → lookup (key_eq k) m ≡ Some stood → set_value (key_eq k) m v ≡ insert_entry key_cmp m k v
  set_is_put stood h = same_entries (set_value (key_eq k) m v) (insert_entry key_cmp m k v) ordered (sorted_put m k v zone.ordered) (λ q. found q ∙ by q (key_eq k q) refl)
    where
      found : (q : RrKey) → lookup (key_eq q) (set_value (key_eq k) m v) ≡ cond (key_eq k q) (Some v) (lookup (key_eq q) m)
      found q = lookup-set_value (eq_by_cmp_equiv key_cmp_total) (key_eq k) (λ x y e. ap (λ j. key_eq j y) (key_same k x e)) q v m (ap is_some h)

      by : (q : RrKey) (b : Bool) → key_eq k q ≡ b → cond (key_eq k q) (Some v) (lookup (key_eq q) m) ≡ lookup (key_eq q) (insert_entry key_cmp m k v)
      by q true g =
          ap (λ b. cond b (Some v) (lookup (key_eq q) m)) g
          ∙ sym (put_found m k v)
          ∙ ap (λ (x : RrKey). lookup (key_eq x) (insert_entry key_cmp m k v)) (key_same k q g)
      by q false g =
          ap (λ b. cond b (Some v) (lookup (key_eq q) m)) g
          ∙ sym (put_apart m k q v ((eq_by_cmp_equiv key_cmp_total).symm q k ∙ g))

  pub replaced : set_value (key_eq k) m v ≡ (if owns m k.name k.record_type.0 then put m k.name k.record_type.0 v else m)
  replaced = by (lookup (key_eq k) m) refl
    where
      by : (o : Option RRset) → lookup (key_eq k) m ≡ o → set_value (key_eq k) m v ≡ (if is_some o then put m k.name k.record_type.0 v else m)
      by None h = set_value_absent (key_eq k) m v h
      by (Some s) h = set_is_put s h

  pub IsZone-replaced : IsStoredAt k.name k.record_type.0 v → IsZone (set_value (key_eq k) m v)
  IsZone-replaced h = subst IsZone (sym replaced) (by (owns m k.name k.record_type.0))
    where
      by : (b : Bool) → IsZone (if b then put m k.name k.record_type.0 v else m)
      by true = IsZone-put m k v zone h
      by false = zone
