-- The sets from a key on, among those from a lesser one on
use Rattle.std.proofs.Common.{◌≡◌, ◌&&◌, Bool, true, false, cond, [], ◌∷◌, refl, sym, ap, ◌∙◌, subst, true≢false, ◌⊎◌, inl, inr, Ordering, Less, Equal, Greater}
use Rattle.std.specs.Ordering.{is_ge, is_le, ordering_reverse}
use Rattle.std.specs.List.{AllByRecursion}
use Rattle.std.specs.List.Sorted.{IsStrictlySortedBy}
use Rattle.std.specs.Map.{keys_of}
use Rattle.std.proofs.lemmas.Map.Keys.{sorted_head, sorted_tail}
use Rattle.zone_proto.specs.declared.rr_key.RrKey.{RrKey}
use Rattle.zone_proto.specs.Keys.{key_cmp}
use Rattle.zone_proto.specs.Order.{is_upto}
use Rattle.zone_proto.specs.Sets.{RRset}
use Rattle.zone_proto.proofs.Ordering.Orders.{upto_cases, upto_before}
use Rattle.zone_map.specs.Zones.{Sets}
use Rattle.zone_map.proofs.Putting.{sorted_filter}
use Rattle.zone_response.specs.NodeSets.{sets_from, IsFromSome}
use Rattle.zone_response.proofs.NextKeys.{key_order}

-- a key that isn't at or after another comes before it
pub less_from : (o : Ordering) → is_ge o ≡ false → o ≡ Less
less_from Less h = refl
less_from Equal h = cc
less_from Greater h = cc

after_from : (o : Ordering) → is_ge o ≡ true → is_le (ordering_reverse o) ≡ true
after_from Less h = cc
after_from Equal h = refl
after_from Greater h = refl

module _ (k : RrKey) where
  -- a later key
  upto_later : (e f : RrKey) → is_upto key_cmp k e ≡ true → key_cmp e f ≡ Less → is_upto key_cmp k f ≡ true
  upto_later e f h l = upto_before key_order k f (by (upto_cases key_order k e h))
    where
      by : (k ≡ e) ⊎ (key_cmp k e ≡ Less) → key_cmp k f ≡ Less
      by (inl s) = ap (λ j. key_cmp j f) s ∙ l
      by (inr b) = key_order.total.trans k e f b l

  all_kept : (e : RrKey) (es : Sets) → is_upto key_cmp k e ≡ true → AllByRecursion (λ j. key_cmp e j ≡ Less) (keys_of es) → sets_from es k ≡ es
  all_kept e [] h a = refl
  all_kept e (f ∷ es) h a = ap (λ b. cond b (f ∷ sets_from es k) (sets_from es k)) (ap (λ b. b && true) (upto_later e f.0 h a.0)) ∙ ap (λ x. f ∷ x) (all_kept e es h a.1)

  -- from the first key that isn't less, all are kept
  pub from_front : (e : RrKey × RRset) (es : Sets) → IsStrictlySortedBy key_cmp (keys_of (e ∷ es)) → is_upto key_cmp k e.0 ≡ true → sets_from (e ∷ es) k ≡ e ∷ es
  from_front e es sorted h =
      ap (λ b. cond b (e ∷ sets_from es k) (sets_from es k)) (ap (λ b. b && true) h)
      ∙ ap (λ x. e ∷ x) (all_kept e.0 es h (sorted_head key_cmp e.0 (keys_of es) sorted))

  -- a lesser one is passed over
  pub front_passed : (e : RrKey × RRset) (es : Sets) → key_cmp e.0 k ≡ Less → sets_from (e ∷ es) k ≡ sets_from es k
  front_passed e es h = ap (λ o. cond (is_le o && true) (e ∷ sets_from es k) (sets_from es k)) (key_order.total.antisymm k e.0 ∙ ap ordering_reverse h)

  -- what stands in front of the sets from a key on isn't less
  pub front_upto : (m : Sets) (e : RrKey × RRset) (es : Sets) → sets_from m k ≡ e ∷ es → is_upto key_cmp k e.0 ≡ true
  front_upto [] e es h = absurd cc
  front_upto (f ∷ m) e es h = by (is_upto key_cmp k f.0) refl h (front_upto m e es)
    where
      by : (b : Bool) → is_upto key_cmp k f.0 ≡ b → cond (b && true) (f ∷ sets_from m k) (sets_from m k) ≡ e ∷ es
          → (sets_from m k ≡ e ∷ es → is_upto key_cmp k e.0 ≡ true) → is_upto key_cmp k e.0 ≡ true
      by true u g ih = let same : f ≡ e = cc in ap (λ (d : RrKey × RRset). is_upto key_cmp k d.0) (sym same) ∙ u
      by false u g ih = ih g

  -- from a greater key on, the sets are the same among those from a lesser one on
  pub narrower : (n : RrKey) → is_upto key_cmp k n ≡ true → (m : Sets) → sets_from (sets_from m k) n ≡ sets_from m n
  narrower n less [] = refl
  narrower n less (e ∷ m) = by (is_upto key_cmp k e.0) refl (narrower n less m)
    where
      kept : is_upto key_cmp n e.0 ≡ true → is_upto key_cmp k e.0 ≡ true
      kept h = by (upto_cases key_order n e.0 h)
        where
          by : (n ≡ e.0) ⊎ (key_cmp n e.0 ≡ Less) → is_upto key_cmp k e.0 ≡ true
          by (inl s) = ap (is_upto key_cmp k) (sym s) ∙ less
          by (inr b) = upto_later n e.0 less b

      none : is_upto key_cmp k e.0 ≡ false → (b : Bool) → is_upto key_cmp n e.0 ≡ b → b ≡ false
      none h true g = absurd (true≢false (sym (kept g) ∙ h))
      none h false g = refl

      by : (b : Bool) → is_upto key_cmp k e.0 ≡ b → sets_from (sets_from m k) n ≡ sets_from m n
          → sets_from (cond (b && true) (e ∷ sets_from m k) (sets_from m k)) n ≡ cond (is_upto key_cmp n e.0 && true) (e ∷ sets_from m n) (sets_from m n)
      by true h ih = ap (λ x. cond (is_upto key_cmp n e.0 && true) (e ∷ x) x) ih
      by false h ih = ih ∙ ap (λ b. cond (b && true) (e ∷ sets_from m n) (sets_from m n)) (sym (none h (is_upto key_cmp n e.0) refl))

-- ---- past the first of the sets from some key on

module _ (m : Sets) (near es : Sets) (e : RrKey × RRset) (n : RrKey) (sorted : IsStrictlySortedBy key_cmp (keys_of m)) (from : IsFromSome m near) (is : near ≡ e ∷ es) where
  front_in_order : IsStrictlySortedBy key_cmp (keys_of (e ∷ es))
  front_in_order = subst (λ (x : Sets). IsStrictlySortedBy key_cmp (keys_of x)) (sym from.1 ∙ is) (sorted_filter (λ k. is_upto key_cmp from.0 k && true) m sorted)

  pub rest_in_order : IsStrictlySortedBy key_cmp (keys_of es)
  rest_in_order = sorted_tail key_cmp e.0 (keys_of es) front_in_order

  pub rest_has_all : key_cmp e.0 n ≡ Less → sets_from es n ≡ sets_from m n
  rest_has_all h =
      let front : is_upto key_cmp from.0 e.0 ≡ true = front_upto from.0 m e es (sym from.1 ∙ is) in
      sym (front_passed n e es h) ∙ ap (λ (x : Sets). sets_from x n) (sym is ∙ from.1) ∙ narrower from.0 n (upto_later from.0 e.0 n front h) m

-- ---- a loop over the rest

module _ (rest es : Sets) (e : RrKey × RRset) (n : RrKey) (is : rest ≡ e ∷ es) where
  pub in_order_on : IsStrictlySortedBy key_cmp (keys_of rest) → IsStrictlySortedBy key_cmp (keys_of es)
  in_order_on sorted = sorted_tail key_cmp e.0 (keys_of es) (subst (λ (x : Sets). IsStrictlySortedBy key_cmp (keys_of x)) is sorted)

  pub passed_front : (whole : Sets) → is_ge (key_cmp e.0 n) ≡ false → sets_from rest n ≡ whole → sets_from es n ≡ whole
  passed_front whole h all = sym (front_passed n e es (less_from (key_cmp e.0 n) h)) ∙ ap (λ (x : Sets). sets_from x n) (sym is) ∙ all

  pub at_front : (whole : Sets) → IsStrictlySortedBy key_cmp (keys_of rest) → is_ge (key_cmp e.0 n) ≡ true → sets_from rest n ≡ whole → rest ≡ whole
  at_front whole sorted h all =
      is
      ∙ sym (from_front n e es (subst (λ (x : Sets). IsStrictlySortedBy key_cmp (keys_of x)) is sorted) (ap is_le (key_order.total.antisymm n e.0) ∙ after_from (key_cmp e.0 n) h))
      ∙ ap (λ (x : Sets). sets_from x n) (sym is) ∙ all

pub at_end : (rest : Sets) (n : RrKey) (whole : Sets) → rest ≡ [] → sets_from rest n ≡ whole → rest ≡ whole
at_end rest n whole is all = is ∙ ap (λ (x : Sets). sets_from x n) (sym is) ∙ all
