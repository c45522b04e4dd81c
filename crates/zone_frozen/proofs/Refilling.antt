-- The map that is made of the sets of another one has these
use Rattle.std.proofs.Common.{◌≡◌, refl, ◌∙◌}
use Rattle.std.specs.BTreeMap.{BTreeMap, IsFromIterResult}
use Rattle.std.specs.Cmp.{eq_by_cmp_equiv}
use Rattle.std.specs.List.Sorted.{IsStrictlySortedBy}
use Rattle.std.specs.Map.{keys_of}
use Rattle.std.proofs.lemmas.Map.Keys.{IsDistinct-from_sorted}
use Rattle.std.proofs.lemmas.Map.Lookups.{btree_map_from_get}
use Rattle.std.proofs.lemmas.Map.Made.{update_all_none}
use Rattle.zone_proto.specs.declared.rr_key.RrKey.{RrKey}
use Rattle.zone_proto.specs.Keys.{key_cmp, key_eq}
use Rattle.zone_proto.specs.Sets.{RRset}
use Rattle.zone_proto.proofs.Ordering.KeyLaws.{key_cmp_total, exact_keys}

pub refilled_same : (m made : BTreeMap RrKey RRset) → IsStrictlySortedBy key_cmp (keys_of m.entries) → IsFromIterResult key_cmp m.entries made → made.entries ≡ m.entries
refilled_same m made sorted from =
    btree_map_from_get key_cmp_total made m from.1 sorted
    (λ q. from.0 q ∙ update_all_none (eq_by_cmp_equiv key_cmp_total) key_eq (λ x y. refl) m.entries q (IsDistinct-from_sorted key_cmp (keys_of m.entries) sorted)) exact_keys
