-- What is found under the keys of a map whose keys ascend
use Rattle.std.proofs.Common.{◌≡◌, cond, List, [], ◌∷◌, refl, ap, ◌∙◌, Less}
use Rattle.std.specs.Prelude.{Some, None}
use Rattle.std.specs.List.{AllByRecursion}
use Rattle.std.specs.List.Sorted.{IsStrictlySortedBy}
use Rattle.std.specs.Map.{lookup, keys_of}
use Rattle.std.specs.Ordering.{is_eq, ordering_reverse}
use Rattle.zone_proto.specs.declared.rr_key.RrKey.{RrKey}
use Rattle.zone_proto.specs.Keys.{key_cmp, key_eq}
use Rattle.zone_proto.proofs.Ordering.KeyLaws.{key_cmp_total}
use Rattle.zone_proto.proofs.Ordering.KeyOrder.{key_itself}

module _ {V : Type 0} where
  -- under a key before all others nothing
  pub absent : (k : RrKey) (es : List (RrKey × V)) → AllByRecursion (λ q. key_cmp k q ≡ Less) (keys_of es) → lookup (key_eq k) es ≡ None
  absent k [] h = refl
  absent k (e ∷ es) h = ap (λ o. cond (is_eq o) (Some e.1) (lookup (key_eq k) es)) h.0 ∙ absent k es h.1

  found_behind : (e : RrKey × V) (xs es : List (RrKey × V)) → AllByRecursion (λ q. key_cmp e.0 q ≡ Less) (keys_of es)
      → AllByRecursion (λ (x : RrKey × V). lookup (key_eq x.0) xs ≡ Some x.1) es → AllByRecursion (λ (x : RrKey × V). lookup (key_eq x.0) (e ∷ xs) ≡ Some x.1) es
  found_behind e xs [] above found = tt
  found_behind e xs (x ∷ es) above found =
      (ap (λ o. cond (is_eq o) (Some e.1) (lookup (key_eq x.0) xs)) (key_cmp_total.antisymm x.0 e.0 ∙ ap ordering_reverse above.0) ∙ found.0, found_behind e xs es above.1 found.1)

  -- under the key of each entry its value
  pub entries_found : (es : List (RrKey × V)) → IsStrictlySortedBy key_cmp (keys_of es) → AllByRecursion (λ (e : RrKey × V). lookup (key_eq e.0) es ≡ Some e.1) es
  unfolding IsStrictlySortedBy
  entries_found [] sorted = tt
  entries_found (e ∷ es) sorted =
      (ap (λ b. cond b (Some e.1) (lookup (key_eq e.0) es)) (key_itself e.0), found_behind e es es sorted.0 (entries_found es sorted.1))
