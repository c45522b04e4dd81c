-- One pass over the entries of a zone that finds the keys of a circle, of denials of one type
use Rattle.std.proofs.Common.{◌≡◌, ℕ, ◌==◌, ◌&&◌, ◌||◌, not, Bool, true, false, cond, List, [], ◌∷◌, ◌++◌, refl, sym, ap, ◌∙◌, true≢false, arith, ◌⊎◌, inl, inr, append_assoc, append-nil, Less}
use Rattle.std.specs.Prelude.{Option, Some, None, filter, option_map}
use Rattle.std.specs.Borrow.{Bor}
use Rattle.std.specs.Option.{option_map_or}
use Rattle.std.specs.Cmp.{both_ways}
use Rattle.std.specs.List.{list_any, cons_option}
use Rattle.std.specs.List.Sorted.{IsStrictlySortedBy}
use Rattle.std.specs.Map.{keys_of}
use Rattle.std.specs.Ordering.{nat_cmp, eq_by_cmp, is_eq}
use Rattle.std.proofs.lemmas.Bool.Decides.{nat_tests}
use Rattle.std.proofs.lemmas.Cmp.{tied_itself}
use Rattle.zone_proto.specs.declared.rr_key.RrKey.{RrKey}
use Rattle.zone_proto.specs.Keys.{key, key_cmp}
use Rattle.zone_proto.specs.Names.{Name, name_cmp, is_above, is_at_or_above, IsAbove}
use Rattle.zone_proto.specs.Order.{is_upto}
use Rattle.zone_proto.specs.Sets.{RRset}
use Rattle.zone_proto.specs.Types.{NS}
use Rattle.zone_proto.proofs.Members.{In, or_right, In-map, In-from_map, In-filter, In-from_filter}
use Rattle.zone_proto.proofs.Names.NameTree.{above_test, above_is_less}
use Rattle.zone_proto.proofs.Ordering.Orders.{irrefl, before_from_upto, upto_same}
use Rattle.zone_proto.proofs.Names.Tree.{name_order, together, above_cases}
use Rattle.zone_map.specs.Zones.{Sets, owners, owns}
use Rattle.zone_map.proofs.Lists.{then_upto}
use Rattle.zone_map.proofs.Owned.{entry_owned, has_entry}
use Rattle.zone_denial.specs.Authority.{owns_besides, is_authoritative}
use Rattle.zone_denial.specs.AuthoritativeKeys.{is_circle_key, authoritative_keys, cut_kept, below, next_cut, counts}
use Rattle.zone_denial.proofs.Names.AuthoritativeNames.{besides_from}
use Rattle.zone_denial.proofs.Ascending.{Ascends, Ascends-from_sorted}
use Rattle.zone_denial.proofs.ReadBack.{filter_same}

-- the keys that count of those that are left
pub kept : Name → ℕ → Option Name → List RrKey → List RrKey
kept origin denial cut [] = []
kept origin denial cut (k ∷ ks) = cond (counts origin denial cut k) (k ∷ kept origin denial (next_cut origin cut k) ks) (kept origin denial (next_cut origin cut k) ks)

-- ---- keys that ascend

pub names_upto : (j k : RrKey) → key_cmp j k ≡ Less → is_upto name_cmp j.name k.name ≡ true
names_upto j k h = then_upto (name_cmp j.name k.name) (nat_cmp j.record_type.0 k.record_type.0) h

-- ---- the owners of NS among keys

-- the names of the keys of type NS, and whether one of these that is below the origin is above n
abbrev ns_names : List RrKey → List Name
ns_names [] = []
ns_names (k ∷ ks) = cons_option (cond (NS == k.record_type.0) (Some k.name) None) (ns_names ks)

abbrev under_ns : Name → List RrKey → Name → Bool
under_ns origin ks n = list_any (λ a. is_above origin a && is_above a n) (ns_names ks)

owners_by_keys : (m : Sets) → owners m NS ≡ ns_names (keys_of m)
owners_by_keys [] = refl
owners_by_keys (e ∷ m) = ap (cons_option (cond (NS == e.0.record_type.0) (Some e.0.name) None)) (owners_by_keys m)

-- a key that is at or after all of them isn't below one
none_above : (origin : Name) (ks : List RrKey) (n : Name) → ((q : RrKey) → In q ks → is_upto name_cmp n q.name ≡ true) → under_ns origin ks n ≡ false
none_above origin [] n h = refl
none_above origin (k ∷ ks) n h = by (NS == k.record_type.0) (none_above origin ks n (λ q i. h q (inr i)))
  where
    not_above : (b : Bool) → is_above k.name n ≡ b → b ≡ false
    not_above true e = absurd (irrefl name_order n (before_from_upto name_order n k.name n (h k (inl refl)) (above_is_less k.name n ((above_test k.name n).0 e))))
    not_above false e = refl

    and_false : (a b : Bool) → b ≡ false → a && b ≡ false
    and_false true b e = e
    and_false false b e = refl

    by : (b : Bool) → under_ns origin ks n ≡ false → list_any (λ a. is_above origin a && is_above a n) (cons_option (cond b (Some k.name) None) (ns_names ks)) ≡ false
    by true ih = ap (λ c. c || under_ns origin ks n) (and_false (is_above origin k.name) (is_above k.name n) (not_above (is_above k.name n) refl)) ∙ ih
    by false ih = ih

-- ---- the cut that was seen last tells of all names that follow

above_above : (a b n : Name) → is_above a b ≡ true → is_above b n ≡ true → is_above a n ≡ true
above_above a b n h k =
    let v = (above_test a b).0 h in
    let w = (above_test b n).0 k in
    (above_test a n).1 (w.0, w.1 ++ (v.0 ∷ v.1), w.2 ∙ ap (λ x. (w.0 ∷ w.1) ++ x) v.2 ∙ sym (append_assoc (w.0 ∷ w.1) (v.0 ∷ v.1) a))

-- a name below a cut that is at or before another name, which isn't below it, is below that other name too, where it
-- comes after it
below_later : (a b n : Name) → is_upto name_cmp a b ≡ true → is_upto name_cmp b n ≡ true → is_above a b ≡ false → is_above a n ≡ true → is_above b n ≡ true
below_later a b n h k apart below =
    let w = (above_test a n).0 below in
    by (above_cases a b (together a b n h k (w.0 ∷ w.1, w.2)))
  where
    by : (a ≡ b) ⊎ IsAbove a b → is_above b n ≡ true
    by (inl e) = ap (λ x. is_above x n) (sym e) ∙ below
    by (inr v) = absurd (true≢false (sym ((above_test a b).1 v) ∙ apart))

-- nothing is below a cut that follows a name which comes after the cut and isn't below it
none_below_later : (a b n : Name) → is_upto name_cmp a b ≡ true → is_upto name_cmp b n ≡ true → is_above a b ≡ false → eq_by_cmp name_cmp a b ≡ false → is_above a n ≡ false
none_below_later a b n h k apart differ = at (is_above a n) refl
  where
    never : (a ≡ b) ⊎ IsAbove a b → ⊥
    never (inl e) = true≢false (sym (ap is_eq (tied_itself name_order.total a)) ∙ ap (eq_by_cmp name_cmp a) e ∙ differ)
    never (inr v) = true≢false (sym ((above_test a b).1 v) ∙ apart)

    at : (c : Bool) → is_above a n ≡ c → c ≡ false
    at true below = let w = (above_test a n).0 below in absurd (never (above_cases a b (together a b n h k (w.0 ∷ w.1, w.2))))
    at false below = refl

-- a cut is at or before a name
abbrev Upto : Option Name → Name → Type 0
Upto None n = Unit {0}
Upto (Some a) n = is_upto name_cmp a n ≡ true

or_false : (b : Bool) → b || false ≡ b
or_false true = refl
or_false false = refl

eq_swap : (a b : ℕ) → (a == b) ≡ (b == a)
eq_swap a b = grind (arith, nat_tests)

module _ (origin : Name) where
  -- below the old cut, or below the key's name if that is a cut, is below the new one
  carried : (cut : Option Name) (k : RrKey) (n : Name) → Upto cut k.name → is_upto name_cmp k.name n ≡ true
      → below cut n || ((k.record_type.0 == NS) && is_above origin k.name && is_above k.name n) ≡ below (next_cut origin cut k) n
  carried None k n before after = by ((k.record_type.0 == NS) && is_above origin k.name)
    where
      by : (b : Bool) → b && is_above k.name n ≡ below (cond b (Some k.name) None) n
      by true = refl
      by false = refl
  carried (Some a) k n before after = by (is_above a k.name) refl ((k.record_type.0 == NS) && is_above origin k.name)
    where
      left : is_above a k.name ≡ false → (d : Bool) → eq_by_cmp name_cmp a k.name ≡ d → is_above a n || false ≡ below (cond d (Some a) None) n
      left e true q = or_false (is_above a n)
      left e false q = or_false (is_above a n) ∙ none_below_later a k.name n before after e q

      by : (c : Bool) → is_above a k.name ≡ c → (b : Bool) → is_above a n || (b && is_above k.name n) ≡ below (cond c (Some a) (cond b (Some k.name) (cut_kept (Some a) k.name))) n
      by true e true = both_ways (is_above a n || is_above k.name n) (is_above a n) (λ h. split h) (λ h. ap (λ x. x || is_above k.name n) h)
        where
          split : is_above a n || is_above k.name n ≡ true → is_above a n ≡ true
          split h = from (is_above a n) refl h
            where
              from : (d : Bool) → is_above a n ≡ d → d || is_above k.name n ≡ true → is_above a n ≡ true
              from true q h = q
              from false q h = above_above a k.name n e h
      by true e false = or_false (is_above a n)
      by false e true = both_ways (is_above a n || is_above k.name n) (is_above k.name n) (λ h. split (is_above a n) refl h) (λ h. later h)
        where
          split : (d : Bool) → is_above a n ≡ d → d || is_above k.name n ≡ true → is_above k.name n ≡ true
          split true q h = below_later a k.name n before after e q
          split false q h = h

          later : is_above k.name n ≡ true → is_above a n || is_above k.name n ≡ true
          later h = or_right (is_above a n) (is_above k.name n) h
      by false e false = left e (eq_by_cmp name_cmp a k.name) refl

  upto_next : (cut : Option Name) (k : RrKey) (n : Name) → Upto cut n → is_upto name_cmp k.name n ≡ true → Upto (next_cut origin cut k) n
  upto_next cut k n h after = by (below cut k.name) ((k.record_type.0 == NS) && is_above origin k.name)
    where
      left : (o : Option Name) → Upto o n → Upto (cut_kept o k.name) n
      left None u = tt
      left (Some a) u = at (eq_by_cmp name_cmp a k.name)
        where
          at : (d : Bool) → Upto (cond d (Some a) None) n
          at true = u
          at false = tt

      by : (c b : Bool) → Upto (cond c cut (cond b (Some k.name) (cut_kept cut k.name))) n
      by true b = h
      by false true = after
      by false false = left cut h

  -- whether a key counts, given the cut and the keys that follow it
  abbrev chosen : ℕ → Option Name → List RrKey → RrKey → Bool
  chosen denial cut ks k = not (k.record_type.0 == denial) && (is_at_or_above origin k.name && not (below cut k.name || under_ns origin ks k.name))

  under_cons : (k : RrKey) (ks : List RrKey) (n : Name) → under_ns origin (k ∷ ks) n ≡ ((k.record_type.0 == NS) && is_above origin k.name && is_above k.name n) || under_ns origin ks n
  under_cons k ks n = by (NS == k.record_type.0) (k.record_type.0 == NS) (eq_swap NS k.record_type.0)
    where
      by : (b c : Bool) → b ≡ c → list_any (λ a. is_above origin a && is_above a n) (cons_option (cond b (Some k.name) None) (ns_names ks)) ≡ (c && is_above origin k.name && is_above k.name n) || under_ns origin ks n
      by true true e = refl
      by false false e = refl
      by true false e = absurd (true≢false e)
      by false true e = absurd (true≢false (sym e))

  chosen_here : (denial : ℕ) (cut : Option Name) (k : RrKey) (ks : List RrKey) → Ascends key_cmp (k ∷ ks) → counts origin denial cut k ≡ chosen denial cut (k ∷ ks) k
  chosen_here denial cut k ks a =
      by (below cut k.name) (not (k.record_type.0 == denial)) (is_at_or_above origin k.name)
      ∙ ap (λ b. not (k.record_type.0 == denial) && (is_at_or_above origin k.name && not (below cut k.name || b))) (sym (none_above origin (k ∷ ks) k.name first))
    where
      first : (q : RrKey) → In q (k ∷ ks) → is_upto name_cmp k.name q.name ≡ true
      first q (inl e) = upto_same name_order k.name q.name (ap (λ (r : RrKey). r.name) e)
      first q (inr i) = names_upto k q (a.0 q i)

      by : (b c d : Bool) → not b && (c && d) ≡ c && (d && not (b || false))
      by true true true = refl
      by true true false = refl
      by true false d = refl
      by false true true = refl
      by false true false = refl
      by false false d = refl

  chosen_later : (denial : ℕ) (cut : Option Name) (k : RrKey) (ks : List RrKey) (q : RrKey) → Upto cut k.name → is_upto name_cmp k.name q.name ≡ true → chosen denial (next_cut origin cut k) ks q ≡ chosen denial cut (k ∷ ks) q
  chosen_later denial cut k ks q before after =
      let x = (k.record_type.0 == NS) && is_above origin k.name && is_above k.name q.name in
      let step = ap (λ b. b || under_ns origin ks q.name) (sym (carried cut k q.name before after)) ∙ or_or (below cut q.name) x (under_ns origin ks q.name) ∙ ap (λ b. below cut q.name || b) (sym (under_cons k ks q.name)) in
      ap (λ b. not (q.record_type.0 == denial) && (is_at_or_above origin q.name && not b)) step
    where
      or_or : (a b c : Bool) → (a || b) || c ≡ a || (b || c)
      or_or true b c = refl
      or_or false b c = refl

  kept_is : (denial : ℕ) (cut : Option Name) (ks : List RrKey) → Ascends key_cmp ks → ((k : RrKey) → In k ks → Upto cut k.name) → kept origin denial cut ks ≡ filter (chosen denial cut ks) ks
  unfolding kept
  kept_is denial cut [] a u = refl
  kept_is denial cut (k ∷ ks) a u =
      let next = next_cut origin cut k in
      let ih = kept_is denial next ks a.1 (λ q i. upto_next cut k q.name (u q (inr i)) (names_upto k q (a.0 q i))) in
      let rest = ih ∙ filter_same (chosen denial next ks) (chosen denial cut (k ∷ ks)) ks (λ q i. chosen_later denial cut k ks q (u k (inl refl)) (names_upto k q (a.0 q i))) in
      λ i. cond (chosen_here denial cut k ks a i) (k ∷ rest i) (rest i)

-- ---- in a zone these are the keys of the circle

pub key_owned : (m : Sets) (k : RrKey) → In k (keys_of m) → owns m k.name k.record_type.0 ≡ true
key_owned m k i =
    let r = In-from_map (λ (e : RrKey × RRset). e.0) k m i in
    entry_owned m k.name k.record_type.0 r.0 r.1 r.2

pub kept_is_authoritative : (origin : Name) (m : Sets) (denial : ℕ) → IsStrictlySortedBy key_cmp (keys_of m) → kept origin denial None (keys_of m) ≡ authoritative_keys origin m denial
kept_is_authoritative origin m denial s =
    kept_is origin denial None (keys_of m) (Ascends-from_sorted key_cmp (keys_of m) s) (λ k i. tt)
    ∙ filter_same (chosen origin denial None (keys_of m)) (is_circle_key origin m denial) (keys_of m) each
  where
    each : (k : RrKey) → In k (keys_of m) → chosen origin denial None (keys_of m) k ≡ is_circle_key origin m denial k
    each k i =
        by (not (k.record_type.0 == denial)) refl
        ∙ ap (λ ns. not (k.record_type.0 == denial) && (is_at_or_above origin k.name && (owns_besides m denial k.name && not (list_any (λ a. is_above origin a && is_above a k.name) ns)))) (sym (owners_by_keys m))
      where
        by : (b : Bool) → not (k.record_type.0 == denial) ≡ b → b && (is_at_or_above origin k.name && not (under_ns origin (keys_of m) k.name))
            ≡ b && (is_at_or_above origin k.name && (owns_besides m denial k.name && not (under_ns origin (keys_of m) k.name)))
        by true e = ap (λ c. is_at_or_above origin k.name && (c && not (under_ns origin (keys_of m) k.name))) (sym (besides_from m denial k.name k.record_type.0 e (key_owned m k i)))
        by false e = refl

-- what these keys are
pub circle_key_from : (origin : Name) (m : Sets) (denial : ℕ) (k : RrKey) → In k (authoritative_keys origin m denial) → In k (keys_of m) × (is_circle_key origin m denial k ≡ true)
circle_key_from origin m denial k i = In-from_filter (is_circle_key origin m denial) k (keys_of m) i

pub circle_key_in : (origin : Name) (m : Sets) (denial : ℕ) (n : Name) (t : ℕ) → owns m n t ≡ true → not (t == denial) ≡ true → is_authoritative origin m denial n ≡ true → In (key n t) (authoritative_keys origin m denial)
circle_key_in origin m denial n t h other on =
    let e = has_entry m n t h in
    let passes : is_circle_key origin m denial (key n t) ≡ true = ap (λ b. b && is_authoritative origin m denial n) other ∙ on in
    In-filter (is_circle_key origin m denial) (key n t) (keys_of m) (In-map (λ (d : RrKey × RRset). d.0) (key n t, e.0) m e.1) passes

-- ---- the loop

module _ (origin : Name) (denial : ℕ) (cut new : Option Name) (made all : List RrKey) (rest after : Sets) (e : RrKey × RRset) (is : rest ≡ e ∷ after) (so_far : made ++ kept origin denial cut (keys_of rest) ≡ all) (new_is : new ≡ next_cut origin cut e.0) where
  step : kept origin denial cut (keys_of rest) ≡ cond (counts origin denial cut e.0) (e.0 ∷ kept origin denial new (keys_of after)) (kept origin denial new (keys_of after))
  unfolding kept
  step =
      ap (λ (es : Sets). kept origin denial cut (keys_of es)) is
      ∙ (λ i. cond (counts origin denial cut e.0) (e.0 ∷ kept origin denial (sym new_is i) (keys_of after)) (kept origin denial (sym new_is i) (keys_of after)))

  -- a key counts, or is passed over
  pub counted : counts origin denial cut e.0 ≡ true → (made ++ e.0 ∷ []) ++ kept origin denial new (keys_of after) ≡ all
  counted h =
      append_assoc made (e.0 ∷ []) (kept origin denial new (keys_of after))
      ∙ ap (λ ks. made ++ ks) (sym (step ∙ ap (λ c. cond c (e.0 ∷ kept origin denial new (keys_of after)) (kept origin denial new (keys_of after))) h))
      ∙ so_far

  pub passed_over : counts origin denial cut e.0 ≡ false → made ++ kept origin denial new (keys_of after) ≡ all
  passed_over h =
      ap (λ ks. made ++ ks) (sym (step ∙ ap (λ c. cond c (e.0 ∷ kept origin denial new (keys_of after)) (kept origin denial new (keys_of after))) h))
      ∙ so_far

-- where nothing is left, the keys so far are all
pub kept_all : (origin : Name) (denial : ℕ) (cut : Option Name) (made all : List RrKey) (rest : Sets) → made ++ kept origin denial cut (keys_of rest) ≡ all → rest ≡ [] → made ≡ all
unfolding kept
kept_all origin denial cut made all rest so_far none = sym (append-nil made) ∙ ap (λ (es : Sets). made ++ kept origin denial cut (keys_of es)) (sym none) ∙ so_far

-- a cut that is lent
pub below_lent : (cut : Option (Bor Name)) (n : Name) → option_map_or (λ a. is_above a.now n) cut false ≡ below (option_map (λ a. a.now) cut) n
below_lent None n = refl
below_lent (Some a) n = refl
