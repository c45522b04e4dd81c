-- What is at a name, as one pass over its entries finds it
use Rattle.std.proofs.Common.{◌≡◌, ◌==◌, ◌||◌, eq-eqb, eqb-true, arith, ℕ, ◌<◌, map, Bool, true, false, cond, List, [], ◌∷◌, refl, sym, ap, ◌∙◌, subst, true≢false}
use Rattle.std.specs.Prelude.{Option, Some, None, find, is_some, option_and_then, option_map}
use Rattle.std.specs.Cmp.{both_ways}
use Rattle.std.specs.List.{list_any, cons_option, AllByRecursion}
use Rattle.std.specs.List.Sorted.{IsStrictlySortedBy}
use Rattle.std.specs.Map.{keys_of}
use Rattle.std.specs.Option.{option_or}
use Rattle.std.specs.Ordering.{eq_by_cmp}
use Rattle.std.proofs.lemmas.Bool.Decides.{nat_tests}
use Rattle.zone_proto.specs.declared.rr_key.RrKey.{RrKey}
use Rattle.zone_proto.specs.Keys.{key, key_cmp, key_eq}
use Rattle.zone_proto.specs.Names.{Name, name_cmp, name_eq}
use Rattle.zone_proto.specs.Sets.{RRset}
use Rattle.zone_proto.proofs.Ordering.KeyOrder.{key_same, key_itself}
use Rattle.zone_proto.proofs.Members.{In-from_any, any_from_In}
use Rattle.zone_proto.proofs.Names.NameTree.{name_eq-Decides}
use Rattle.zone_map.specs.Zones.{Sets, set_at, owns, types_at}
use Rattle.zone_map.specs.Direct.{types_for, exact}
use Rattle.zone_map.proofs.AnyTypes.{Ascends, types_ascend, least_is_first}
use Rattle.zone_map.proofs.Neighbours.{front, front_types, from_key, entries_of, front_goes_on, front_stops, front_taken, front_is_whole_name, front_is_types}
use Rattle.zone_map.proofs.Owned.{type_in, type_owned}

-- the first set in front whose type passes a test
abbrev pub first_set : (ℕ → Bool) → Name → Sets → Option RRset
first_set p n m = option_map (λ e. e.1) (find (λ e. p e.0.record_type.0) (front n m))

-- ---- what a lookup finds under the type that is found first

found_passes : (p : ℕ → Bool) (ts : List ℕ) (u : ℕ) → find p ts ≡ Some u → p u ≡ true
found_passes p [] u h = cc
found_passes p (t ∷ ts) u h = by (p t) refl h (found_passes p ts u)
  where
    by : (b : Bool) → p t ≡ b → cond b (Some t) (find p ts) ≡ Some u → (find p ts ≡ Some u → p u ≡ true) → p u ≡ true
    by true e g ih = let same : t ≡ u = cc in ap p (sym same) ∙ e
    by false e g ih = ih g

module _ (p : ℕ → Bool) (n : Name) where
  -- an entry that is passed over takes nothing from what is found behind it
  past : (e : RrKey × RRset) (m : Sets) (o : Option ℕ) → ((u : ℕ) → o ≡ Some u → key_eq (key n u) e.0 ≡ false)
      → option_and_then (set_at (e ∷ m) n) o ≡ option_and_then (set_at m n) o
  past e m None h = refl
  past e m (Some u) h = ap (λ b. cond b (Some e.1) (set_at m n u)) (h u refl)

  first_is_set : (m : Sets) → option_map (λ e. e.1) (find (λ e. p e.0.record_type.0) (entries_of n m)) ≡ option_and_then (set_at m n) (find p (types_at m n))
  first_is_set [] = refl
  first_is_set (e ∷ m) = by (name_eq n e.0.name) refl (first_is_set m)
    where
      other_type : p e.0.record_type.0 ≡ false → (u : ℕ) → find p (types_at m n) ≡ Some u → (b : Bool) → key_eq (key n u) e.0 ≡ b → b ≡ false
      other_type g u f true h =
          let same : u ≡ e.0.record_type.0 = ap (λ (k : RrKey). k.record_type.0) (key_same (key n u) e.0 h) in
          absurd (true≢false (sym (found_passes p (types_at m n) u f) ∙ ap p same ∙ g))
      other_type g u f false h = refl

      other_name : name_eq n e.0.name ≡ false → (u : ℕ) → (b : Bool) → key_eq (key n u) e.0 ≡ b → b ≡ false
      other_name g u true h =
          let same : n ≡ e.0.name = ap (λ (k : RrKey). k.name) (key_same (key n u) e.0 h) in
          absurd (true≢false (sym ((name_eq-Decides n e.0.name).1 same) ∙ g))
      other_name g u false h = refl

      here : n ≡ e.0.name → (b : Bool) → p e.0.record_type.0 ≡ b
          → option_map (λ e. e.1) (find (λ e. p e.0.record_type.0) (entries_of n m)) ≡ option_and_then (set_at m n) (find p (types_at m n))
          → option_map (λ e. e.1) (cond b (Some e) (find (λ e. p e.0.record_type.0) (entries_of n m)))
          ≡ option_and_then (set_at (e ∷ m) n) (cond b (Some e.0.record_type.0) (find p (types_at m n)))
      here same true g ih =
          let own : key_eq (key n e.0.record_type.0) e.0 ≡ true = ap (λ x. key_eq (key x e.0.record_type.0) e.0) same ∙ key_itself e.0 in
          sym (ap (λ b. cond b (Some e.1) (set_at m n e.0.record_type.0)) own)
      here same false g ih = ih ∙ sym (past e m (find p (types_at m n)) (λ u f. other_type g u f (key_eq (key n u) e.0) refl))

      by : (b : Bool) → name_eq n e.0.name ≡ b
          → option_map (λ e. e.1) (find (λ e. p e.0.record_type.0) (entries_of n m)) ≡ option_and_then (set_at m n) (find p (types_at m n))
          → option_map (λ e. e.1) (find (λ e. p e.0.record_type.0) (cond b (e ∷ entries_of n m) (entries_of n m)))
          ≡ option_and_then (set_at (e ∷ m) n) (find p (cons_option (cond b (Some e.0.record_type.0) None) (types_at m n)))
      by true g ih = here ((name_eq-Decides n e.0.name).0 g) (p e.0.record_type.0) refl ih
      by false g ih = ih ∙ sym (past e m (find p (types_at m n)) (λ u f. other_name g u (key_eq (key n u) e.0) refl))

  -- from the name's least key on, the first set is that of the first type
  first_of_front : (m : Sets) → IsStrictlySortedBy key_cmp (keys_of m) → first_set p n (from_key (key n 0) m) ≡ option_and_then (set_at m n) (find p (types_at m n))
  first_of_front m s = ap (λ es. option_map (λ (e : RrKey × RRset). e.1) (find (λ (e : RrKey × RRset). p e.0.record_type.0) es)) (front_is_whole_name n m s) ∙ first_is_set m

  -- ---- a loop over a front

  pub first_over : (s t : Sets) (e : RrKey × RRset) → s ≡ e ∷ t → eq_by_cmp name_cmp e.0.name n ≡ false → first_set p n s ≡ None
  first_over s t e is h = ap (first_set p n) is ∙ ap (λ es. option_map (λ (e : RrKey × RRset). e.1) (find (λ (e : RrKey × RRset). p e.0.record_type.0) es)) (front_stops n e t h)

  first_step : (s t : Sets) (e : RrKey × RRset) → s ≡ e ∷ t → eq_by_cmp name_cmp e.0.name n ≡ true → first_set p n s ≡ option_or (cond (p e.0.record_type.0) (Some e.1) None) (first_set p n t)
  first_step s t e is h =
      ap (first_set p n) is
      ∙ ap (λ es. option_map (λ (e : RrKey × RRset). e.1) (find (λ (e : RrKey × RRset). p e.0.record_type.0) es)) (front_goes_on n e t h)
      ∙ by (p e.0.record_type.0)
    where
      by : (b : Bool) → option_map (λ e. e.1) (cond b (Some e) (find (λ e. p e.0.record_type.0) (front n t))) ≡ option_or (cond b (Some e.1) None) (first_set p n t)
      by true = refl
      by false = refl

  -- what was found before, a further entry and what is left
  pub first_passed : (s t : Sets) (e : RrKey × RRset) (before after whole : Option RRset) → s ≡ e ∷ t → eq_by_cmp name_cmp e.0.name n ≡ true
      → after ≡ option_or before (cond (p e.0.record_type.0) (Some e.1) None) → option_or before (first_set p n s) ≡ whole → option_or after (first_set p n t) ≡ whole
  first_passed s t e before after whole is h g i =
      ap (λ o. option_or o (first_set p n t)) g ∙ by before ∙ ap (option_or before) (sym (first_step s t e is h)) ∙ i
    where
      by : (o : Option RRset) → option_or (option_or o (cond (p e.0.record_type.0) (Some e.1) None)) (first_set p n t)
          ≡ option_or o (option_or (cond (p e.0.record_type.0) (Some e.1) None) (first_set p n t))
      by None = refl
      by (Some r) = refl

-- ---- the set of one type

pub type_listed : (m : Sets) (n : Name) (t : ℕ) → list_any (λ u. t == u) (types_at m n) ≡ owns m n t
type_listed m n t =
    both_ways (list_any (λ u. t == u) (types_at m n)) (owns m n t)
    (λ h.
    let r = In-from_any (λ u. t == u) (types_at m n) h in
    subst (λ u. owns m n u ≡ true) (sym (eqb-true t r.0 r.2)) (type_owned m n r.0 r.1))
    (λ h. any_from_In (λ u. t == u) t (types_at m n) (type_in m n t h) (eq-eqb t t refl))

only_type : (m : Sets) (n : Name) (t : ℕ) → option_and_then (set_at m n) (find (λ u. t == u) (types_at m n)) ≡ set_at m n t
only_type m n t = by (find (λ u. t == u) (types_at m n)) refl
  where
    none : (ts : List ℕ) → find (λ u. t == u) ts ≡ None → list_any (λ u. t == u) ts ≡ false
    none [] h = refl
    none (u ∷ ts) h = one (t == u) h (none ts)
      where
        one : (b : Bool) → cond b (Some u) (find (λ u. t == u) ts) ≡ None → (find (λ u. t == u) ts ≡ None → list_any (λ u. t == u) ts ≡ false) → b || list_any (λ u. t == u) ts ≡ false
        one true g ih = cc
        one false g ih = ih g

    nothing : (o : Option RRset) → is_some o ≡ false → None ≡ o
    nothing None h = refl
    nothing (Some s) h = cc

    by : (o : Option ℕ) → find (λ u. t == u) (types_at m n) ≡ o → option_and_then (set_at m n) o ≡ set_at m n t
    by None e = nothing (set_at m n t) (sym (type_listed m n t) ∙ none (types_at m n) e)
    by (Some u) e = ap (set_at m n) (sym (eqb-true t u (found_passes (λ u. t == u) (types_at m n) u e)))

-- ---- where a greater type was passed

pub later_differs : (t v : ℕ) → t < v → (t == v) ≡ false
later_differs t v h = grind (arith, nat_tests)

not_later : (p : ℕ → Bool) (u : ℕ) (ts : List ℕ) → ((v : ℕ) → u < v → p v ≡ false) → AllByRecursion (λ v. u < v) ts → list_any p ts ≡ false
not_later p u [] h a = refl
not_later p u (v ∷ ts) h a = ap (λ b. b || list_any p ts) (h v a.0) ∙ not_later p u ts h a.1

none_found : (p : ℕ → Bool) (es : Sets) → list_any p (map (λ e. e.0.record_type.0) es) ≡ false → option_map (λ e. e.1) (find (λ e. p e.0.record_type.0) es) ≡ None
none_found p [] h = refl
none_found p (e ∷ es) h = by (p e.0.record_type.0) h (none_found p es)
  where
    by : (b : Bool) → b || list_any p (map (λ e. e.0.record_type.0) es) ≡ false
        → (list_any p (map (λ e. e.0.record_type.0) es) ≡ false → option_map (λ e. e.1) (find (λ e. p e.0.record_type.0) es) ≡ None)
        → option_map (λ e. e.1) (cond b (Some e) (find (λ e. p e.0.record_type.0) es)) ≡ None
    by true g ih = cc
    by false g ih = ih g

module _ (n : Name) (s t : Sets) (e : RrKey × RRset) (is : s ≡ e ∷ t) (same : eq_by_cmp name_cmp e.0.name n ≡ true) (up : Ascends (front_types n s)) where
  ascend_on : Ascends (e.0.record_type.0 ∷ front_types n t)
  ascend_on = subst Ascends (ap (front_types n) is ∙ front_taken n e t same) up

  pub rest_ascends : Ascends (front_types n t)
  rest_ascends = ascend_on.1

  module _ (p : ℕ → Bool) (past : (u : ℕ) → e.0.record_type.0 < u → p u ≡ false) where
    pub none_noted : list_any p (front_types n t) ≡ false
    none_noted = not_later p e.0.record_type.0 (front_types n t) past ascend_on.0

    pub none_left : first_set p n t ≡ None
    none_left = none_found p (front n t) none_noted

-- ---- a whole loop, from the name's least key on

module _ (least : RrKey) (m es : Sets) (type_zero : least.record_type.0 ≡ 0) (sorted : IsStrictlySortedBy key_cmp (keys_of es)) (same : es ≡ m) where
  whole : (p : ℕ → Bool) → first_set p least.name (from_key least m) ≡ option_and_then (set_at m least.name) (find p (types_at m least.name))
  whole p =
      ap (λ t. first_set p least.name (from_key (key least.name t) m)) type_zero
      ∙ first_of_front p least.name m (subst (λ (x : Sets). IsStrictlySortedBy key_cmp (keys_of x)) same sorted)

  pub whole_type : (t : ℕ) → first_set (λ u. t == u) least.name (from_key least m) ≡ set_at m least.name t
  whole_type t = whole (λ u. t == u) ∙ only_type m least.name t

  pub whole_exact : (t : ℕ) → first_set (λ u. list_any (λ v. u == v) (types_for t)) least.name (from_key least m) ≡ exact m least.name t
  whole_exact t =
      whole (λ u. list_any (λ v. u == v) (types_for t))
      ∙ ap (option_and_then (set_at m least.name)) (sym (least_is_first m least.name (types_for t) (subst (λ (x : Sets). IsStrictlySortedBy key_cmp (keys_of x)) same sorted)))

  pub whole_ascends : Ascends (front_types least.name (from_key least m))
  whole_ascends =
      let in_order : IsStrictlySortedBy key_cmp (keys_of m) = subst (λ (x : Sets). IsStrictlySortedBy key_cmp (keys_of x)) same sorted in
      subst Ascends
      (sym (ap (λ t. front_types least.name (from_key (key least.name t) m)) type_zero ∙ front_is_types least.name m in_order))
      (types_ascend least.name m in_order)
