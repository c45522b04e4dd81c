-- What is found among some of the sets of a zone
use Rattle.std.proofs.Common.{◌≡◌, Bool, true, false, cond, [], ◌∷◌, refl, sym, ap, ◌∙◌, subst, Less}
use Rattle.std.specs.Prelude.{Option, Some, None, filter, if◌then◌else◌}
use Rattle.std.specs.List.{AllByRecursion}
use Rattle.std.specs.List.Sorted.{IsStrictlySortedBy}
use Rattle.std.specs.Map.{lookup, keys_of}
use Rattle.std.proofs.lemmas.Map.Keys.{sorted_head, sorted_tail}
use Rattle.std.proofs.lemmas.Map.Made.{is_some-lookup}
use Rattle.zone_proto.specs.declared.rr_key.RrKey.{RrKey}
use Rattle.zone_proto.specs.Keys.{key_cmp, key_eq}
use Rattle.zone_proto.specs.Sets.{RRset}
use Rattle.zone_proto.proofs.Ordering.KeyOrder.{key_same, key_itself}
use Rattle.zone_map.specs.Zones.{Sets}
use Rattle.zone_map.proofs.Ahead.{none_above}
use Rattle.zone_map.proofs.Putting.{none_of}

pub none_found : (q : RrKey) (es : Sets) → AllByRecursion (λ k. key_cmp q k ≡ Less) (keys_of es) → lookup (key_eq q) es ≡ None
none_found q es above = none_of (lookup (key_eq q) es) (is_some-lookup (key_eq q) es ∙ none_above q (keys_of es) above)

abbrev pub InOrder : Sets → Type 0
InOrder es = IsStrictlySortedBy key_cmp (keys_of es)

-- a set that is found is left if it passes
abbrev pub left_of : (RrKey → RRset → Bool) → RrKey → Option RRset → Option RRset
left_of r q None = None
left_of r q (Some s) = if r q s then Some s else None

above_filter : (k : RrKey) (r : RrKey → RRset → Bool) (es : Sets) → AllByRecursion (λ q. key_cmp k q ≡ Less) (keys_of es) → AllByRecursion (λ q. key_cmp k q ≡ Less) (keys_of (filter (λ e. r e.0 e.1) es))
above_filter k r [] a = tt
above_filter k r (e ∷ es) a = by (r e.0 e.1) (above_filter k r es a.1)
  where
    by : (b : Bool) → AllByRecursion (λ q. key_cmp k q ≡ Less) (keys_of (filter (λ e. r e.0 e.1) es))
        → AllByRecursion (λ q. key_cmp k q ≡ Less) (keys_of (cond b (e ∷ filter (λ e. r e.0 e.1) es) (filter (λ e. r e.0 e.1) es)))
    by true i = (a.0, i)
    by false i = i

pub filter_in_order : (r : RrKey → RRset → Bool) (es : Sets) → InOrder es → InOrder (filter (λ e. r e.0 e.1) es)
unfolding IsStrictlySortedBy
filter_in_order r [] s = tt
filter_in_order r (e ∷ es) s = by (r e.0 e.1) (filter_in_order r es s.1)
  where
    by : (b : Bool) → InOrder (filter (λ e. r e.0 e.1) es) → InOrder (cond b (e ∷ filter (λ e. r e.0 e.1) es) (filter (λ e. r e.0 e.1) es))
    by true i = (above_filter e.0 r es s.0, i)
    by false i = i

-- what is found among those that pass
pub found_filter : (r : RrKey → RRset → Bool) (es : Sets) → InOrder es → (q : RrKey) → lookup (key_eq q) (filter (λ e. r e.0 e.1) es) ≡ left_of r q (lookup (key_eq q) es)
found_filter r [] s q = refl
found_filter r (e ∷ es) s q = by (key_eq q e.0) refl (r e.0 e.1) refl (found_filter r es (sorted_tail key_cmp e.0 (keys_of es) s) q)
  where
    fs : Sets
    fs = filter (λ e. r e.0 e.1) es

    by : (b : Bool) → key_eq q e.0 ≡ b → (p : Bool) → r e.0 e.1 ≡ p → lookup (key_eq q) (filter (λ e. r e.0 e.1) es) ≡ left_of r q (lookup (key_eq q) es)
        → lookup (key_eq q) (cond p (e ∷ filter (λ e. r e.0 e.1) es) (filter (λ e. r e.0 e.1) es)) ≡ left_of r q (cond b (Some e.1) (lookup (key_eq q) es))
    by true g true h i =
        let same : q ≡ e.0 = key_same q e.0 g in
        let passed : r q e.1 ≡ true = ap (λ k. r k e.1) same ∙ h in
        ap (λ b. cond b (Some e.1) (lookup (key_eq q) (filter (λ e. r e.0 e.1) es))) g ∙ sym (ap (λ b. if b then Some e.1 else None) passed)
    by true g false h i =
        let same : q ≡ e.0 = key_same q e.0 g in
        let failed : r q e.1 ≡ false = ap (λ k. r k e.1) same ∙ h in
        let none : lookup (key_eq q) es ≡ None = none_found q es (subst (λ (k : RrKey). AllByRecursion (λ j. key_cmp k j ≡ Less) (keys_of es)) (sym same) (sorted_head key_cmp e.0 (keys_of es) s)) in
        i ∙ ap (left_of r q) none ∙ sym (ap (λ b. if b then Some e.1 else None) failed)
    by false g true h i = ap (λ b. cond b (Some e.1) (lookup (key_eq q) (filter (λ e. r e.0 e.1) es))) g ∙ i
    by false g false h i = i

-- what holds of each set that is found holds of each
pub each_found : (R : RrKey → RRset → Type 0) (es : Sets) → InOrder es → ((q : RrKey) (s : RRset) → lookup (key_eq q) es ≡ Some s → R q s) → AllByRecursion (λ (e : RrKey × RRset). R e.0 e.1) es
each_found R [] s f = tt
each_found R (e ∷ es) s f = (
  f e.0 e.1 (ap (λ b. cond b (Some e.1) (lookup (key_eq e.0) es)) (key_itself e.0)),
  each_found R es (sorted_tail key_cmp e.0 (keys_of es) s) (λ q v h. by q v h (key_eq q e.0) refl),
)
  where
    by : (q : RrKey) (v : RRset) → lookup (key_eq q) es ≡ Some v → (b : Bool) → key_eq q e.0 ≡ b → R q v
    by q v h true g =
        let same : q ≡ e.0 = key_same q e.0 g in
        let none : lookup (key_eq q) es ≡ None = none_found q es (subst (λ (k : RrKey). AllByRecursion (λ j. key_cmp k j ≡ Less) (keys_of es)) (sym same) (sorted_head key_cmp e.0 (keys_of es) s)) in
        let no : None ≡ Some v = sym none ∙ h in
        absurd cc
    by q v h false g = f q v (ap (λ b. cond b (Some e.1) (lookup (key_eq q) es)) g ∙ h)
