-- What is found among sets of denial whose lists were trimmed
use Rattle.std.proofs.Common.{◌≡◌, ℕ, [], ◌∷◌, map, refl, sym, ap, ◌∙◌, subst}
use Rattle.std.specs.Cmp.{eq_by_cmp_equiv}
use Rattle.std.specs.List.Sorted.{IsStrictlySortedBy}
use Rattle.std.specs.Map.{keys_of}
use Rattle.std.proofs.lemmas.Map.Keys.{IsDistinct-from_sorted}
use Rattle.std.proofs.lemmas.Map.Made.{update_all_none}
use Rattle.zone_proto.specs.declared.rr_key.RrKey.{RrKey}
use Rattle.zone_proto.specs.Keys.{key, key_cmp, key_eq}
use Rattle.zone_proto.specs.Names.{Name}
use Rattle.zone_proto.specs.Sets.{RRset}
use Rattle.zone_proto.proofs.Ordering.KeyLaws.{key_cmp_total}
use Rattle.zone_map.specs.Zones.{Sets, set_at, last_at, IsZone}
use Rattle.zone_signing.proofs.Changes.{changed, lookup-changed}
use Rattle.zone_trimming.specs.Trimming.{trimmed_set, trimmed_at}

-- sets under their keys, each with its list trimmed
abbrev pub turned : Sets → Sets
turned es = map (λ (e : RrKey × RRset). (e.0, trimmed_set e.1)) es

same_keys : (h : RrKey → RRset → RRset) (m : Sets) → keys_of (changed h m) ≡ keys_of m
same_keys h [] = refl
same_keys h (e ∷ es) = ap (λ ks. e.0 ∷ ks) (same_keys h es)

pub last_trimmed : (m : Sets) → IsZone m → (n : Name) (t : ℕ) → last_at (turned m) n t ≡ trimmed_at (set_at m) n t
last_trimmed m zone n t =
    let all = changed (λ k s. trimmed_set s) m in
    update_all_none (eq_by_cmp_equiv key_cmp_total) key_eq (λ x y. refl) all (key n t) (IsDistinct-from_sorted key_cmp (keys_of all) (subst (IsStrictlySortedBy key_cmp) (sym (same_keys (λ k s. trimmed_set s) m)) zone.ordered))
    ∙ lookup-changed (λ k s. trimmed_set s) (key n t) m
