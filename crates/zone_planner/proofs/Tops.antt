-- One pass over the keys of a zone, which tells of each name whether it stands below one whose keys pass a test
use Rattle.std.proofs.Common.{◌≡◌, ℕ, ◌&&◌, ◌||◌, not, Bool, true, false, cond, List, [], ◌∷◌, refl, sym, ap, ◌∙◌, true≢false, ◌⊎◌, inl, inr, append_assoc, ◌++◌}
use Rattle.std.specs.Prelude.{Option, Some, None}
use Rattle.std.specs.List.{list_any}
use Rattle.std.specs.List.Sorted.{IsStrictlySortedBy}
use Rattle.zone_proto.specs.declared.rr_key.RrKey.{RrKey}
use Rattle.zone_proto.specs.Keys.{key_cmp}
use Rattle.zone_proto.specs.Names.{Name, name_cmp, is_above, IsAbove}
use Rattle.zone_proto.specs.Order.{is_upto}
use Rattle.zone_proto.proofs.Members.{In}
use Rattle.zone_proto.proofs.Names.NameTree.{above_test, above_is_less}
use Rattle.zone_proto.proofs.Names.Tree.{name_order, together, above_cases}
use Rattle.zone_proto.proofs.Ordering.Orders.{irrefl, before_from_upto, upto_same}
use Rattle.zone_denial.proofs.Ascending.{Ascends, Ascends-from_sorted}
use Rattle.zone_denial.proofs.Sets.CircleKeys.{names_upto}
use Rattle.zone_planner.specs.Zones.{below, top_after}

-- a name stands at or before another, if there is one
abbrev Upto : Option Name → Name → Type 0
Upto None n = Unit {0}
Upto (Some a) n = is_upto name_cmp a n ≡ true

above_above : (a b n : Name) → is_above a b ≡ true → is_above b n ≡ true → is_above a n ≡ true
above_above a b n h k =
    let v = (above_test a b).0 h in
    let w = (above_test b n).0 k in
    (above_test a n).1 (w.0, w.1 ++ (v.0 ∷ v.1), w.2 ∙ ap (λ x. (w.0 ∷ w.1) ++ x) v.2 ∙ sym (append_assoc (w.0 ∷ w.1) (v.0 ∷ v.1) a))

-- a name below another that comes before a third, which isn't below that, is below the third too, where it comes after it
below_later : (a b n : Name) → is_upto name_cmp a b ≡ true → is_upto name_cmp b n ≡ true → is_above a b ≡ false → is_above a n ≡ true → is_above b n ≡ true
below_later a b n h k apart under =
    let w = (above_test a n).0 under in
    by (above_cases a b (together a b n h k (w.0 ∷ w.1, w.2)))
  where
    by : (a ≡ b) ⊎ IsAbove a b → is_above b n ≡ true
    by (inl e) = ap (λ x. is_above x n) (sym e) ∙ under
    by (inr v) = absurd (true≢false (sym ((above_test a b).1 v) ∙ apart))

module _ (is_top : RrKey → Bool) where
  -- a key of these passes, and its name is above n
  abbrev pub covered : List RrKey → Name → Bool
  covered ks n = list_any (λ (k : RrKey). is_top k && is_above k.name n) ks

  -- none of keys that come at or after a name is above it
  none_above : (ks : List RrKey) (n : Name) → ((q : RrKey) → In q ks → is_upto name_cmp n q.name ≡ true) → covered ks n ≡ false
  none_above [] n h = refl
  none_above (k ∷ ks) n h = λ i. and_false (is_top k) (is_above k.name n) (not_above (is_above k.name n) refl) i || none_above ks n (λ q j. h q (inr j)) i
    where
      not_above : (b : Bool) → is_above k.name n ≡ b → b ≡ false
      not_above true e = absurd (irrefl name_order n (before_from_upto name_order n k.name n (h k (inl refl)) (above_is_less k.name n ((above_test k.name n).0 e))))
      not_above false e = refl

      and_false : (a b : Bool) → b ≡ false → a && b ≡ false
      and_false true b e = e
      and_false false b e = refl

  -- below the old top, or below the key's name if that passes, is below the new one
  carried : (top : Option Name) (k : RrKey) (n : Name) → Upto top k.name → is_upto name_cmp k.name n ≡ true
      → below top n || (is_top k && is_above k.name n) ≡ below (top_after is_top top k) n
  carried None k n before after = by (is_top k)
    where
      by : (b : Bool) → b && is_above k.name n ≡ below (cond (b && true) (Some k.name) None) n
      by true = refl
      by false = refl
  carried (Some a) k n before after = by (is_top k) (is_above a k.name) refl
    where
      or_false : (b : Bool) → b || false ≡ b
      or_false true = refl
      or_false false = refl

      from : (c d : Bool) → (c ≡ true → d ≡ true) → c || d ≡ d
      from true d h = sym (h refl)
      from false d h = refl

      or_same : (c d : Bool) → (d ≡ true → c ≡ true) → c || d ≡ c
      or_same true d h = refl
      or_same false true h = sym (h refl)
      or_same false false h = refl

      by : (b c : Bool) → is_above a k.name ≡ c → is_above a n || (b && is_above k.name n) ≡ below (cond (b && not c) (Some k.name) (Some a)) n
      by false c e = or_false (is_above a n)
      by true true e = or_same (is_above a n) (is_above k.name n) (λ h. above_above a k.name n e h)
      by true false e = from (is_above a n) (is_above k.name n) (λ h. below_later a k.name n before after e h)

  -- of each of the keys that are left it is known, by the top that was seen last and these keys, whether its name stands below one that passes
  pub record Passing (is_under : Name → Bool) (top : Option Name) (ks : List RrKey) : Type 0 where
    pub ascends : Ascends key_cmp ks
    pub upto : (q : RrKey) → In q ks → Upto top q.name
    pub tells : (q : RrKey) → In q ks → is_under q.name ≡ below top q.name || covered ks q.name

  module _ (is_under : Name → Bool) where
    pub begun : (ks : List RrKey) → IsStrictlySortedBy key_cmp ks → ((q : RrKey) → In q ks → is_under q.name ≡ covered ks q.name) → Passing is_under None ks
    begun ks s h = record { ascends = Ascends-from_sorted key_cmp ks s; upto = λ q i. tt; tells = h }

    -- the first key's name stands below one that passes exactly where it stands below the top
    pub here : (top : Option Name) (k : RrKey) (ks : List RrKey) → Passing is_under top (k ∷ ks) → is_under k.name ≡ below top k.name
    here top k ks p = p.tells k (inl refl) ∙ ap (λ b. below top k.name || b) (none_above (k ∷ ks) k.name first) ∙ or_false (below top k.name)
      where
        first : (q : RrKey) → In q (k ∷ ks) → is_upto name_cmp k.name q.name ≡ true
        first q (inl e) = upto_same name_order k.name q.name (ap (λ (r : RrKey). r.name) e)
        first q (inr i) = names_upto k q (p.ascends.0 q i)

        or_false : (b : Bool) → b || false ≡ b
        or_false true = refl
        or_false false = refl

    pub next : (top : Option Name) (k : RrKey) (ks : List RrKey) → Passing is_under top (k ∷ ks) → Passing is_under (top_after is_top top k) ks
    next top k ks p =
        record {
          ascends = p.ascends.1;
          upto = λ q i. upto_next (is_top k && not (below top k.name)) q (p.upto q (inr i)) (after q i);
          tells = λ q i.
              p.tells q (inr i)
              ∙ or_or (below top q.name) (is_top k && is_above k.name q.name) (covered ks q.name)
              ∙ ap (λ b. b || covered ks q.name) (carried top k q.name (p.upto k (inl refl)) (after q i));
        }
      where
        after : (q : RrKey) → In q ks → is_upto name_cmp k.name q.name ≡ true
        after q i = names_upto k q (p.ascends.0 q i)

        upto_next : (b : Bool) (q : RrKey) → Upto top q.name → is_upto name_cmp k.name q.name ≡ true → Upto (cond b (Some k.name) top) q.name
        upto_next true q u v = v
        upto_next false q u v = u

        or_or : (a b c : Bool) → a || (b || c) ≡ (a || b) || c
        or_or true b c = refl
        or_or false b c = refl
