-- What a pass over sets leaves: sets in order
use Rattle.std.proofs.Common.{◌≡◌, Bool, true, false, cond, [], ◌∷◌, sym, ap, ◌∙◌, subst, Less}
use Rattle.std.specs.List.{AllByRecursion}
use Rattle.std.specs.List.Retain.{RetainsInTurn}
use Rattle.std.specs.List.Sorted.{IsStrictlySortedBy}
use Rattle.std.specs.Map.{keys_of}
use Rattle.std.specs.Map.Calls.{RetainsPairs}
use Rattle.zone_proto.specs.declared.rr_key.RrKey.{RrKey}
use Rattle.zone_proto.specs.Keys.{key_cmp}
use Rattle.zone_proto.specs.Sets.{RRset}
use Rattle.zone_frozen.specs.Sets.{Sets}

module _ {F : Type 0} (T : F → RrKey → RRset → Bool → RRset → F → Type 0) where
  others_kept : (P : RrKey → Type 0) (f : F) (es kept : Sets) → RetainsPairs T f es kept → AllByRecursion P (keys_of es) → AllByRecursion P (keys_of kept)
  others_kept P f [] kept r a = subst (λ (m : Sets). AllByRecursion P (keys_of m)) (sym r) tt
  others_kept P f (e ∷ es) kept (b, w, f', rest, t, more, is) a =
      subst (λ (m : Sets). AllByRecursion P (keys_of m)) (sym is) (by b (others_kept P f' es rest more a.1))
    where
      by : (b : Bool) → AllByRecursion P (keys_of rest) → AllByRecursion P (keys_of (cond b ((e.0, w) ∷ rest) rest))
      by true i = (a.0, i)
      by false i = i

  pub sorted_kept : (f : F) (es kept : Sets) → RetainsPairs T f es kept → IsStrictlySortedBy key_cmp (keys_of es) → IsStrictlySortedBy key_cmp (keys_of kept)
  unfolding IsStrictlySortedBy
  sorted_kept f [] kept r sorted = subst (λ (m : Sets). IsStrictlySortedBy key_cmp (keys_of m)) (sym r) tt
  sorted_kept f (e ∷ es) kept (b, w, f', rest, t, more, is) sorted =
      subst (λ (m : Sets). IsStrictlySortedBy key_cmp (keys_of m)) (sym is) (by b (sorted_kept f' es rest more sorted.1))
    where
      by : (b : Bool) → IsStrictlySortedBy key_cmp (keys_of rest) → IsStrictlySortedBy key_cmp (keys_of (cond b ((e.0, w) ∷ rest) rest))
      by true i = (others_kept (λ y. key_cmp e.0 y ≡ Less) f' es rest more sorted.0, i)
      by false i = i

-- a pass over the rows of a list that leaves each key is one over sets by their keys
module _ {C F : Type 0} (R : C → RrKey × RRset → Bool → C → RrKey × RRset → Type 0) (T : F → RrKey → RRset → Bool → RRset → F → Type 0) (state : C → F)
    (step : (c : C) (e : RrKey × RRset) (b : Bool) (d : C) (f : RrKey × RRset) → R c e b d f → (f.0 ≡ e.0) × T (state c) e.0 e.1 b f.1 (state d)) where
  pub retained : (c : C) (es kept : Sets) → RetainsInTurn R c es kept → RetainsPairs T (state c) es kept
  retained c [] kept r = r
  retained c (e ∷ es) kept (b, d, f, t, rest, more, is) =
      (b, f.1, state d, rest, (step c e b d f t).1, retained d es rest more, is ∙ ap (λ (k : RrKey). cond b ((k, f.1) ∷ rest) rest) (step c e b d f t).0)
