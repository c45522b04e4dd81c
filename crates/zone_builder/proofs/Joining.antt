-- Groups that are put behind others
use Rattle.std.proofs.Common.{◌≡◌, Bool, true, false, cond, List, [], ◌∷◌, ◌++◌, refl, sym, ap, ◌∙◌, subst, true≢false, Ordering, Less, Equal, Greater}
use Rattle.std.specs.Prelude.{Option, Some, None, filter, Result, Ok, Err, IfOk}
use Rattle.std.specs.List.{AllByRecursion, flat_map}
use Rattle.std.specs.List.Sorted.{IsStrictlySortedBy}
use Rattle.std.specs.Map.{keys_of, lookup}
use Rattle.std.specs.Cmp.{eq_by_cmp_equiv}
use Rattle.std.specs.Option.{option_map_or}
use Rattle.std.specs.Ordering.{is_eq, is_le}
use Rattle.std.proofs.lemmas.Grind.{flat_map-append}
use Rattle.std.proofs.lemmas.List.{append_assoc}
use Rattle.std.proofs.lemmas.List.Elements.{filter-append}
use Rattle.zone_proto.specs.declared.rr_key.RrKey.{RrKey}
use Rattle.zone_proto.specs.Keys.{key_cmp, key_eq}
use Rattle.zone_proto.specs.Order.{is_upto}
use Rattle.zone_proto.proofs.Ordering.KeyLaws.{key_cmp_total}
use Rattle.zone_proto.proofs.Ordering.KeyOrder.{key_same}
use Rattle.zone_builder.specs.declared.given.GivenRecord.{GivenRecord}
use Rattle.zone_builder.specs.declared.groups.Group.{Group}
use Rattle.zone_builder.specs.Groups.{Groups, all_under, ends_under, keyed, AreBelow, AreFrom, AreOrdered, AreUpTo}
use Rattle.zone_builder.proofs.RecordsGrouped.{append_nil}

-- ---- what is under a key

module _ (part : Group → List GivenRecord) where
  under_append : (xs ys : Groups) (k : RrKey) → all_under part (xs ++ ys) k ≡ all_under part xs k ++ all_under part ys k
  under_append xs ys k =
      ap (flat_map (λ (e : RrKey × Group). part e.1)) (filter-append (λ (e : RrKey × Group). key_eq e.0 k) xs ys)
      ∙ flat_map-append (λ (e : RrKey × Group). part e.1) (filter (λ e. key_eq e.0 k) xs) (filter (λ e. key_eq e.0 k) ys)

  one_under : (q : RrKey) (g : Group) (k : RrKey) → all_under part ((q, g) ∷ []) k ≡ cond (key_eq q k) (part g) []
  one_under q g k = by (key_eq q k)
    where
      by : (b : Bool) → flat_map (λ (e : RrKey × Group). part e.1) (cond b ((q, g) ∷ []) []) ≡ cond b (part g) []
      by true = append_nil (part g)
      by false = refl

  keyed_under : (k : RrKey) (o : Option Group) (q : RrKey) → all_under part (keyed k o) q ≡ cond (key_eq k q) (option_map_or part o []) []
  keyed_under k (Some g) q = one_under k g q
  keyed_under k None q = by (key_eq k q)
    where
      none : List GivenRecord
      none = []

      by : (b : Bool) → none ≡ cond b none none
      by true = refl
      by false = refl

  both_under : (b : Bool) (xs ys : List GivenRecord) → cond b (xs ++ ys) [] ≡ cond b xs [] ++ cond b ys []
  both_under true xs ys = refl
  both_under false xs ys = refl

  -- the last group is followed by one more under its key, or that is alone behind it
  pub put_under : (front old new : Groups) (k : RrKey) (o : Option Group) (g h : Group) → old ≡ front ++ keyed k o → new ≡ front ++ (k, h) ∷ []
      → part h ≡ option_map_or part o [] ++ part g → (q : RrKey) → all_under part new q ≡ all_under part old q ++ cond (key_eq k q) (part g) []
  put_under front old new k o g h was is made q =
      ap (λ es. all_under part es q) is ∙ under_append front ((k, h) ∷ []) q
      ∙ ap (λ xs. all_under part front q ++ xs) (one_under k h q ∙ ap (λ xs. cond (key_eq k q) xs []) made ∙ both_under (key_eq k q) (option_map_or part o []) (part g))
      ∙ sym (append_assoc (all_under part front q) (cond (key_eq k q) (option_map_or part o []) []) (cond (key_eq k q) (part g) []))
      ∙ ap (λ xs. xs ++ cond (key_eq k q) (part g) [])
      (ap (λ xs. all_under part front q ++ xs) (sym (keyed_under k o q)) ∙ sym (under_append front (keyed k o) q) ∙ ap (λ es. all_under part es q) (sym was))

  -- what was put together so far, with one more of the groups that are left
  pub one_more_group : (before after : List GivenRecord) (left rest : Groups) (key : RrKey) (g : Group) (k : RrKey)
      → after ≡ before ++ cond (key_eq key k) (part g) [] → left ≡ (key, g) ∷ rest → after ++ all_under part rest k ≡ before ++ all_under part left k
  one_more_group before after left rest key g k made steps =
      ap (λ xs. xs ++ all_under part rest k) made ∙ append_assoc before (cond (key_eq key k) (part g) []) (all_under part rest k)
      ∙ ap (λ xs. before ++ xs) (ap (λ xs. xs ++ all_under part rest k) (sym (one_under key g k)) ∙ sym (under_append ((key, g) ∷ []) rest k))
      ∙ ap (λ es. before ++ all_under part es k) (sym steps)

  pub no_more_groups : (passed : List GivenRecord) (left : Groups) (k : RrKey) → left ≡ [] → passed ≡ passed ++ all_under part left k
  no_more_groups passed left k e = sym (append_nil passed) ∙ ap (λ es. passed ++ all_under part es k) (sym e)

  none_passes : (k : RrKey) (es : Groups) → AllByRecursion (λ (q : RrKey). key_cmp k q ≡ Less) (keys_of es) → filter (λ (e : RrKey × Group). key_eq e.0 k) es ≡ []
  none_passes k [] h = refl
  none_passes k (e ∷ es) h =
      ap (λ b. cond b (e ∷ filter (λ (x : RrKey × Group). key_eq x.0 k) es) (filter (λ (x : RrKey × Group). key_eq x.0 k) es)) ((eq_by_cmp_equiv key_cmp_total).symm e.0 k ∙ ap is_eq h.0)
      ∙ none_passes k es h.1

  -- under a key of groups whose keys ascend there is one group at most
  pub only_under : (es : Groups) → AreOrdered es → (k : RrKey) → option_map_or part (lookup (key_eq k) es) [] ≡ all_under part es k
  unfolding IsStrictlySortedBy
  only_under [] s k = refl
  only_under (e ∷ es) s k = by (key_eq k e.0) refl (only_under es s.1 k)
    where
      kept : Bool → Groups
      kept b = cond b (e ∷ filter (λ (x : RrKey × Group). key_eq x.0 k) es) (filter (λ (x : RrKey × Group). key_eq x.0 k) es)

      turned : (b : Bool) → key_eq k e.0 ≡ b → kept b ≡ kept (key_eq e.0 k)
      turned b h = ap kept (sym h ∙ (eq_by_cmp_equiv key_cmp_total).symm k e.0)

      by : (b : Bool) → key_eq k e.0 ≡ b → option_map_or part (lookup (key_eq k) es) [] ≡ all_under part es k
          → option_map_or part (cond b (Some e.1) (lookup (key_eq k) es)) [] ≡ all_under part (e ∷ es) k
      by true h rest =
          let none : filter (λ (x : RrKey × Group). key_eq x.0 k) es ≡ [] = none_passes k es (subst (λ q. AllByRecursion (λ (x : RrKey). key_cmp q x ≡ Less) (keys_of es)) (sym (key_same k e.0 h)) s.0) in
          sym (append_nil (part e.1)) ∙ ap (λ xs. part e.1 ++ flat_map (λ (x : RrKey × Group). part x.1) xs) (sym none)
          ∙ ap (flat_map (λ (x : RrKey × Group). part x.1)) (turned true h)
      by false h rest = rest ∙ ap (flat_map (λ (x : RrKey × Group). part x.1)) (turned false h)

  -- so it is in what a call gives
  pub only_in : {T E : Type 0} (items : T → Groups) (all : RrKey → List GivenRecord) (r : Result T E) → IfOk r (λ t. AreOrdered (items t))
      → IfOk r (λ t. (k : RrKey) → all_under part (items t) k ≡ all k) → IfOk r (λ t. (k : RrKey) → option_map_or part (lookup (key_eq k) (items t)) [] ≡ all k)
  only_in items all (Ok t) ordered is = λ k. only_under (items t) ordered k ∙ is k
  only_in items all (Err e) ordered is = tt

-- ---- keys of groups

module _ (P : RrKey → Type 0) where
  pub all_front : (xs ys : Groups) → AllByRecursion P (keys_of (xs ++ ys)) → AllByRecursion P (keys_of xs)
  all_front [] ys h = tt
  all_front (x ∷ xs) ys h = (h.0, all_front xs ys h.1)

  all_last : (xs : Groups) (e : RrKey × Group) → AllByRecursion P (keys_of (xs ++ e ∷ [])) → P e.0
  all_last [] e h = h.0
  all_last (x ∷ xs) e h = all_last xs e h.1

  pub all_push : (xs : Groups) (e : RrKey × Group) → AllByRecursion P (keys_of xs) → P e.0 → AllByRecursion P (keys_of (xs ++ e ∷ []))
  all_push [] e h p = (p, tt)
  all_push (x ∷ xs) e h p = (h.0, all_push xs e h.1 p)

  -- what holds of the keys of groups holds of them once one is put behind these
  pub all_put : (front old new : Groups) (k : RrKey) (o : Option Group) (h : Group) → old ≡ front ++ keyed k o → new ≡ front ++ (k, h) ∷ [] → P k
      → AllByRecursion P (keys_of old) → AllByRecursion P (keys_of new)
  all_put front old new k o h was is p all =
      subst (λ es. AllByRecursion P (keys_of es)) (sym is)
      (all_push front (k, h) (all_front front (keyed k o) (subst (λ es. AllByRecursion P (keys_of es)) was all)) p)

ordered_front : (xs ys : Groups) → AreOrdered (xs ++ ys) → AreOrdered xs
unfolding IsStrictlySortedBy
ordered_front [] ys s = tt
ordered_front (x ∷ xs) ys s = (all_front (λ q. key_cmp x.0 q ≡ Less) xs ys s.0, ordered_front xs ys s.1)

ordered_push : (xs : Groups) (e : RrKey × Group) → AreOrdered xs → AreBelow xs e.0 → AreOrdered (xs ++ e ∷ [])
unfolding IsStrictlySortedBy
ordered_push [] e s b = (tt, tt)
ordered_push (x ∷ xs) e s b = (all_push (λ q. key_cmp x.0 q ≡ Less) xs e s.0 b.0, ordered_push xs e s.1 b.1)

-- the keys of groups still ascend
pub ordered_put : (front old new : Groups) (k : RrKey) (o : Option Group) (h : Group) → old ≡ front ++ keyed k o → new ≡ front ++ (k, h) ∷ [] → AreBelow front k → AreOrdered old → AreOrdered new
ordered_put front old new k o h was is below ordered = subst AreOrdered (sym is) (ordered_push front (k, h) (ordered_front front (keyed k o) (subst AreOrdered was ordered)) below)

front_below : (xs : Groups) (e : RrKey × Group) → AreOrdered (xs ++ e ∷ []) → AreBelow xs e.0
unfolding IsStrictlySortedBy
front_below [] e s = tt
front_below (x ∷ xs) e s = (all_last (λ q. key_cmp x.0 q ≡ Less) xs e s.0, front_below xs e s.1)

pub ordered_none : AreOrdered []
unfolding IsStrictlySortedBy
ordered_none = tt

-- ---- the last of groups

pub ends_push : (xs : Groups) (e : RrKey × Group) (k : RrKey) → ends_under (xs ++ e ∷ []) k ≡ key_eq e.0 k
ends_push [] e k = refl
ends_push (x ∷ []) e k = refl
ends_push (x ∷ y ∷ xs) e k = ends_push (y ∷ xs) e k

-- groups that end under a key, without the last
module _ (front old : Groups) (k : RrKey) (e : RrKey × Group) (was : old ≡ front ++ e ∷ []) (ends : ends_under old k ≡ true) where
  last_key : e.0 ≡ k
  last_key = key_same e.0 k (sym (ends_push front e k) ∙ ap (λ es. ends_under es k) (sym was) ∙ ends)

  pub taken_off : old ≡ front ++ keyed k (Some e.1)
  taken_off = was ∙ ap (λ q. front ++ (q, e.1) ∷ []) last_key

  pub taken_below : AreOrdered old → AreBelow front k
  taken_below s = subst (AreBelow front) last_key (front_below front e (subst AreOrdered was s))

before_another : (j k : RrKey) → is_upto key_cmp j k ≡ true → key_eq j k ≡ false → key_cmp j k ≡ Less
before_another j k = by (key_cmp j k)
  where
    by : (o : Ordering) → is_le o ≡ true → is_eq o ≡ false → o ≡ Less
    by Less h g = refl
    by Equal h g = absurd (true≢false g)
    by Greater h g = absurd (true≢false (sym h))

-- groups up to a key that don't end under it are below it
pub below_another : (es : Groups) (k : RrKey) → ends_under es k ≡ false → AreOrdered es → AreUpTo es k → AreBelow es k
unfolding IsStrictlySortedBy
below_another [] k h s u = tt
below_another (e ∷ []) k h s u = (before_another e.0 k u.0 h, tt)
below_another (e ∷ f ∷ es) k h s u = let rest = below_another (f ∷ es) k h s.1 u.1 in (key_cmp_total.trans e.0 f.0 k s.0.0 rest.0, rest)

-- ---- groups that are left come after those that were put together

pub none_before : (es : Groups) → AllByRecursion (λ (q : RrKey). AreUpTo [] q) (keys_of es)
none_before [] = tt
none_before (e ∷ es) = (tt, none_before es)

pub still_before : (m n rest : Groups) (key : RrKey) → ((k : RrKey) → is_upto key_cmp key k ≡ true → AreUpTo m k → AreUpTo n k) → AreFrom rest key
    → AllByRecursion (λ (q : RrKey). AreUpTo m q) (keys_of rest) → AllByRecursion (λ (q : RrKey). AreUpTo n q) (keys_of rest)
still_before m n [] key step from h = tt
still_before m n (e ∷ es) key step from h = (step e.0 from.0 h.0, still_before m n es key step from.1 h.1)
