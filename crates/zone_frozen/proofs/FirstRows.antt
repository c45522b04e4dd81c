-- A set that is before those of a map comes first in it
use Rattle.std.proofs.Common.{◌≡◌, ◌++◌, [], ◌∷◌, refl, ap}
use Rattle.std.specs.Ordering.{match_ordering}
use Rattle.std.specs.BTreeMap.{insert_entry}
use Rattle.std.specs.List.Sorted.{IsStrictlySortedBy}
use Rattle.std.specs.Map.{keys_of}
use Rattle.std.proofs.lemmas.Map.Keys.{sorted_head, sorted_tail}
use Rattle.zone_proto.specs.declared.rr_key.RrKey.{RrKey}
use Rattle.zone_proto.specs.Keys.{key_cmp}
use Rattle.zone_proto.specs.Sets.{RRset}
use Rattle.zone_frozen.specs.Sets.{Sets}

-- the end of a list in order is in order
pub sorted_end : (front : Sets) (es : Sets) → IsStrictlySortedBy key_cmp (keys_of (front ++ es)) → IsStrictlySortedBy key_cmp (keys_of es)
sorted_end [] es sorted = sorted
sorted_end (e ∷ front) es sorted = sorted_end front es (sorted_tail key_cmp e.0 (keys_of (front ++ es)) sorted)

pub inserted_first : (k : RrKey) (s : RRset) (es : Sets) → IsStrictlySortedBy key_cmp (keys_of ((k, s) ∷ es)) → insert_entry key_cmp es k s ≡ (k, s) ∷ es
inserted_first k s [] sorted = refl
inserted_first k s (e ∷ es) sorted =
    ap (λ o. match_ordering o ((k, s) ∷ e ∷ es) ((e.0, s) ∷ es) (e ∷ insert_entry key_cmp es k s)) (sorted_head key_cmp k (keys_of (e ∷ es)) sorted).0

-- no sets are in order
pub sorted_none : (m : Sets) → m ≡ [] → IsStrictlySortedBy key_cmp (keys_of m)
unfolding IsStrictlySortedBy
sorted_none [] is = tt
sorted_none (e ∷ m) is = absurd cc
