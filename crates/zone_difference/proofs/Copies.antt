-- A map that is made of the sets of a zone has these sets
use Rattle.std.proofs.Common.{◌≡◌, ℕ, refl, ◌∙◌}
use Rattle.std.specs.Cmp.{eq_by_cmp_equiv}
use Rattle.std.specs.Map.{keys_of}
use Rattle.std.proofs.lemmas.Map.Keys.{IsDistinct-from_sorted}
use Rattle.std.proofs.lemmas.Map.Made.{update_all_none}
use Rattle.zone_proto.specs.Keys.{key_cmp, key_eq}
use Rattle.zone_proto.specs.Names.{Name}
use Rattle.zone_proto.proofs.Ordering.KeyLaws.{key_cmp_total}
use Rattle.zone_map.specs.Zones.{Sets, set_at, last_at, IsZone}
use Rattle.zone_map.proofs.Putting.{same_entries}

pub copy_is : (es made : Sets) → IsZone es → IsZone made → ((n : Name) (t : ℕ) → set_at made n t ≡ last_at es n t) → made ≡ es
copy_is es made had zone found =
    same_entries made es zone.ordered had.ordered
    (λ q. found q.name q.record_type.0 ∙ update_all_none (eq_by_cmp_equiv key_cmp_total) key_eq (λ x y. refl) es q (IsDistinct-from_sorted key_cmp (keys_of es) had.ordered))
