-- The record map as the list of its sets, and the map of such a list
use Rattle.std.proofs.Common.{◌≡◌, get_or, refl, sym, ◌∙◌, subst}
use Rattle.std.specs.Prelude.{Option, Some, None, IfSome}
use Rattle.std.specs.List.Sorted.{IsStrictlySortedBy}
use Rattle.std.specs.Map.{lookup, keys_of, update_all}
use Rattle.std.specs.Cmp.{eq_by_cmp_equiv}
use Rattle.std.proofs.lemmas.Map.Keys.{IsDistinct-from_sorted}
use Rattle.std.proofs.lemmas.Map.Made.{IfSome-update_all, update_all_none}
use Rattle.zone_proto.specs.declared.rr_key.RrKey.{RrKey}
use Rattle.zone_proto.specs.Keys.{key, key_cmp, key_eq}
use Rattle.zone_proto.specs.Sets.{RRset}
use Rattle.zone_proto.proofs.Ordering.KeyLaws.{key_cmp_total}
use Rattle.zone_proto.proofs.Ordering.KeyOrder.{key_same}
use Rattle.zone_frozen.proofs.UnderKeys.{found_at_place}
use Rattle.zone_map.specs.Zones.{Sets, IsStoredAt, AreStored, IsZone}

-- sets that are under their own keys make the sets of a zone
pub IsZone-last : (es m : Sets) → AreStored es → IsStrictlySortedBy key_cmp (keys_of m) → ((q : RrKey) → lookup (key_eq q) m ≡ update_all key_eq (λ _. None) es q) → IsZone m
IsZone-last es m h sorted u = record { ordered = sorted; stored = λ n t s e. by (key n t) s e }
  where
    by : (q : RrKey) (s : RRset) → lookup (key_eq q) m ≡ Some s → IsStoredAt q.name q.record_type.0 s
    by q s e =
        let P = λ (v : RRset). IsStoredAt q.name q.record_type.0 v in
        let one = IfSome-update_all key_eq P q (λ _. None) es tt (λ k d lt same. subst (λ (x : RrKey). IsStoredAt x.name x.record_type.0 (get_or es k d).1) (key_same _ q same) (h k d lt)) in
        subst (λ (o : Option RRset). IfSome o P) (sym (u q) ∙ e) one

-- each set of a zone is under its key
pub AreStored-zone : (es : Sets) → IsZone es → AreStored es
AreStored-zone es zone k d lt = let e = get_or es k d in zone.stored e.0.name e.0.record_type.0 e.1 (found_at_place e.0 es k d zone.ordered lt refl)

-- stored sets in the order of their keys are those of a zone
pub IsZone-rows : (es : Sets) → IsStrictlySortedBy key_cmp (keys_of es) → AreStored es → IsZone es
IsZone-rows es sorted stored =
    IsZone-last es es stored sorted (λ q. sym (update_all_none (eq_by_cmp_equiv key_cmp_total) key_eq (λ x y. refl) es q (IsDistinct-from_sorted key_cmp (keys_of es) sorted)))
