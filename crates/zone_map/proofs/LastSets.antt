-- What is among the sets up to a key is the set under its own key
use Rattle.std.proofs.Common.{◌≡◌, Bool, true, false, cond, [], ◌∷◌, ◌++◌, refl, sym, ap, ◌∙◌, true≢false, Ordering, Less, Equal, Greater}
use Rattle.std.specs.Prelude.{Some, None, is_some}
use Rattle.std.specs.BTreeMap.Range.{range_contains}
use Rattle.std.specs.Ordering.{is_eq, ordering_reverse}
use Rattle.std.specs.List.{AllByRecursion}
use Rattle.std.specs.List.Sorted.{IsStrictlySortedBy}
use Rattle.std.specs.Map.{keys_of, lookup}
use Rattle.std.specs.declared.ops.Bound.TheVariants.{Included, Unbounded}
use Rattle.std.proofs.lemmas.Map.Keys.{sorted_head, sorted_tail}
use Rattle.zone_proto.specs.declared.rr_key.RrKey.{RrKey}
use Rattle.zone_proto.specs.Keys.{key_cmp, key_eq}
use Rattle.zone_proto.specs.Sets.{RRset}
use Rattle.zone_proto.proofs.Ordering.KeyOrder.{key_itself, key_same}
use Rattle.zone_frozen.specs.Sets.{sets_upto}
use Rattle.zone_frozen.proofs.SetsFrom.{key_order}
use Rattle.zone_map.specs.Zones.{Sets}

-- a key that is found among those above another isn't that
apart : (f q : RrKey) (es : Sets) → AllByRecursion (λ y. key_cmp f y ≡ Less) (keys_of es) → is_some (lookup (key_eq q) es) ≡ true → key_eq q f ≡ false
apart f q [] above found = absurd cc
apart f q (e ∷ es) above found = by (key_eq q e.0) refl found (apart f q es above.1)
  where
    by : (b : Bool) → key_eq q e.0 ≡ b → is_some (cond b (Some e.1) (lookup (key_eq q) es)) ≡ true → (is_some (lookup (key_eq q) es) ≡ true → key_eq q f ≡ false) → key_eq q f ≡ false
    by true g h others = ap (λ j. key_eq j f) (key_same q e.0 g) ∙ ap is_eq (key_order.total.antisymm e.0 f ∙ ap ordering_reverse above.0)
    by false g h others = others h

pub among_upto : (k : RrKey) (e : RrKey × RRset) (m front rest : Sets) → IsStrictlySortedBy key_cmp (keys_of m) → sets_upto m k ≡ front ++ e ∷ rest → lookup (key_eq e.0) m ≡ Some e.1
among_upto k e [] [] rest sorted is = absurd cc
among_upto k e [] (f ∷ front) rest sorted is = absurd cc
among_upto k e (f ∷ m) front rest sorted is =
    by (range_contains key_cmp Unbounded (Included k) f.0) front is (λ other h. among_upto k e m other rest (sorted_tail key_cmp f.0 (keys_of m) sorted) h)
  where
    behind : lookup (key_eq e.0) m ≡ Some e.1 → lookup (key_eq e.0) (f ∷ m) ≡ Some e.1
    behind found =
        ap (λ b. cond b (Some f.1) (lookup (key_eq e.0) m)) (apart f.0 e.0 m (sorted_head key_cmp f.0 (keys_of m) sorted) (ap is_some found)) ∙ found

    by : (b : Bool) → (front : Sets) → cond b (f ∷ sets_upto m k) (sets_upto m k) ≡ front ++ e ∷ rest
        → ((other : Sets) → sets_upto m k ≡ other ++ e ∷ rest → lookup (key_eq e.0) m ≡ Some e.1) → lookup (key_eq e.0) (f ∷ m) ≡ Some e.1
    by true [] h i =
        let same : f ≡ e = cc in
        ap (λ (x : RrKey × RRset). lookup (key_eq e.0) (x ∷ m)) same ∙ ap (λ b. cond b (Some e.1) (lookup (key_eq e.0) m)) (key_itself e.0)
    by true (x ∷ front) h i = let left : sets_upto m k ≡ front ++ e ∷ rest = cc in behind (i front left)
    by false front h i = behind (i front h)
