-- The type for ANY, as a loop over the types of a name finds it, and that it is owned where anything is
use Rattle.std.proofs.Common.{◌≡◌, ℕ, ◌<◌, Bool, true, false, cond, List, [], ◌∷◌, refl, sym, ap, ◌∙◌, subst, true≢false, arith, inl, Less, Equal, Greater}
use Rattle.std.specs.Prelude.{Option, Some, None, find, filter, is_some, option_and_then, option_map, unwrap_or, ◌==◌}
use Rattle.std.specs.Option.{option_or, option_map_or}
use Rattle.std.specs.Ordering.{nat_cmp, ordering_then, is_lt, flip_args, eq_by_cmp, MatchOrdering}
use Rattle.std.specs.Cmp.{nat_cmp_is}
use Rattle.std.specs.List.{list_any, cons_option, AllByRecursion}
use Rattle.std.specs.List.Sorted.{IsStrictlySortedBy}
use Rattle.std.specs.Map.{keys_of}
use Rattle.std.proofs.lemmas.Bool.Decides.{nat_tests}
use Rattle.std.proofs.lemmas.Cmp.{nat_cmp_total, tied_itself, ranked}
use Rattle.std.proofs.lemmas.Map.Lookups.{exact_unsigned}
use Rattle.std.proofs.lemmas.Map.Keys.{sorted_head, sorted_tail}
use Rattle.zone_proto.specs.declared.record_type.RecordType.{RecordType}
use Rattle.zone_proto.specs.declared.rr_key.RrKey.{RrKey}
use Rattle.zone_proto.specs.Keys.{key_cmp}
use Rattle.zone_proto.specs.Names.{Name, name_cmp, name_eq}
use Rattle.zone_proto.specs.Order.{least}
use Rattle.zone_proto.specs.Sets.{RRset}
use Rattle.zone_proto.specs.Types.{A, CNAME, ANY}
use Rattle.zone_proto.proofs.Members.{In, In-filter, In-from_filter, In-from_any, any_from_In}
use Rattle.zone_proto.proofs.Names.NameTree.{name_eq-Decides}
use Rattle.zone_proto.proofs.Ordering.Orders.{IsOrder, greatest_same, greatest_is, has_greatest}
use Rattle.zone_proto.proofs.Names.Tree.{name_order}
use Rattle.zone_map.specs.Zones.{Sets, set_at, owns, types_at}
use Rattle.zone_map.specs.Direct.{types_for, least_owned, exact, referral, direct, is_address}
use Rattle.zone_map.specs.Wildcards.{found, wildcard}
use Rattle.zone_map.specs.AnyTypes.{preferred_types, is_preferred, any_type, searched_type}
use Rattle.zone_map.proofs.Neighbours.{from_key, front_types, front_taken, front_ended, front_is_types}
use Rattle.zone_map.proofs.Owned.{type_in, type_owned}

down : IsOrder (flip_args nat_cmp)
down = record {
  total = record {
    antisymm = λ x y. nat_cmp_total.antisymm y x;
    trans = λ x y z h k. nat_cmp_total.trans z y x k h;
    congr = λ x y z e. ap (nat_cmp z) (sym (exact_unsigned y x e));
  };
  exact = λ x y e. sym (exact_unsigned y x e);
}

-- the first of a list
abbrev pub first_of : List ℕ → Option ℕ
first_of [] = None
first_of (t ∷ ts) = Some t

-- each number is below all later ones
abbrev pub Ascends : List ℕ → Type 0
Ascends [] = Unit {0}
Ascends (t ∷ ts) = AllByRecursion (λ u. t < u) ts × Ascends ts

-- ---- of an ascending list the first is the least

least_first : (ts : List ℕ) → Ascends ts → least nat_cmp ts ≡ first_of ts
least_first [] h = refl
least_first (t ∷ []) h = refl
least_first (t ∷ u ∷ ts) h =
    let after : nat_cmp u t ≡ Greater = sym (nat_cmp_is u t Greater h.0.0) in
    ap (λ (o : Option ℕ). Some (option_map_or (λ y. cond (is_lt (nat_cmp y t)) y t) o t)) (least_first (u ∷ ts) h.1)
    ∙ ap (λ r. Some (cond (is_lt r) u t)) after

all_kept : (p : ℕ → Bool) (t : ℕ) (ts : List ℕ) → AllByRecursion (λ u. t < u) ts → AllByRecursion (λ u. t < u) (filter p ts)
all_kept p t [] h = h
all_kept p t (u ∷ ts) h = by (p u) (all_kept p t ts h.1)
  where
    by : (b : Bool) → AllByRecursion (λ u. t < u) (filter p ts) → AllByRecursion (λ u. t < u) (cond b (u ∷ filter p ts) (filter p ts))
    by true ih = (h.0, ih)
    by false ih = ih

kept_ascends : (p : ℕ → Bool) (ts : List ℕ) → Ascends ts → Ascends (filter p ts)
kept_ascends p [] h = h
kept_ascends p (t ∷ ts) h = by (p t) (kept_ascends p ts h.1)
  where
    by : (b : Bool) → Ascends (filter p ts) → Ascends (cond b (t ∷ filter p ts) (filter p ts))
    by true ih = (all_kept p t ts h.0, ih)
    by false ih = ih

first_kept : (p : ℕ → Bool) (ts : List ℕ) → first_of (filter p ts) ≡ find p ts
first_kept p [] = refl
first_kept p (t ∷ ts) = by (p t) (first_kept p ts)
  where
    by : (b : Bool) → first_of (filter p ts) ≡ find p ts → first_of (cond b (t ∷ filter p ts) (filter p ts)) ≡ cond b (Some t) (find p ts)
    by true ih = refl
    by false ih = ih

-- ---- the types of a name ascend in a map in order

module _ (n : Name) where
  later_type : (e f : RrKey) → name_eq n e.name ≡ true → name_eq n f.name ≡ true → key_cmp e f ≡ Less → e.record_type.0 < f.record_type.0
  later_type e f h k l =
      let same : e.name ≡ f.name = sym ((name_eq-Decides n e.name).0 h) ∙ (name_eq-Decides n f.name).0 k in
      let tied : name_cmp e.name f.name ≡ Equal = ap (name_cmp e.name) (sym same) ∙ tied_itself name_order.total e.name in
      let less : nat_cmp e.record_type.0 f.record_type.0 ≡ Less = ap (λ o. ordering_then o (nat_cmp e.record_type.0 f.record_type.0)) (sym tied) ∙ l in
      let told : MatchOrdering Less (e.record_type.0 < f.record_type.0) (e.record_type.0 ≡ f.record_type.0) (f.record_type.0 < e.record_type.0) = ranked e.record_type.0 f.record_type.0 Less (sym less) in
      told

  later_types : (e : RrKey × RRset) (m : Sets) → name_eq n e.0.name ≡ true → AllByRecursion (λ k. key_cmp e.0 k ≡ Less) (keys_of m) → AllByRecursion (λ u. e.0.record_type.0 < u) (types_at m n)
  later_types e [] h a = tt
  later_types e (f ∷ m) h a = by (name_eq n f.0.name) refl (later_types e m h a.1)
    where
      by : (b : Bool) → name_eq n f.0.name ≡ b → AllByRecursion (λ u. e.0.record_type.0 < u) (types_at m n) → AllByRecursion (λ u. e.0.record_type.0 < u) (cons_option (cond b (Some f.0.record_type.0) None) (types_at m n))
      by true q ih = (later_type e.0 f.0 h q a.0, ih)
      by false q ih = ih

  pub types_ascend : (m : Sets) → IsStrictlySortedBy key_cmp (keys_of m) → Ascends (types_at m n)
  types_ascend [] s = tt
  types_ascend (e ∷ m) s = by (name_eq n e.0.name) refl (types_ascend m (sorted_tail key_cmp e.0 (keys_of m) s))
    where
      by : (b : Bool) → name_eq n e.0.name ≡ b → Ascends (types_at m n) → Ascends (cons_option (cond b (Some e.0.record_type.0) None) (types_at m n))
      by true q ih = (later_types e m q (sorted_head key_cmp e.0 (keys_of m) s), ih)
      by false q ih = ih

-- ---- the choice over types, given the first of those that were passed

abbrev pub chosen : Option ℕ → List ℕ → ℕ
chosen first ts = unwrap_or (option_or (find is_preferred ts) (option_or first (first_of ts))) A

in_itself : (t : ℕ) → (t == t) ≡ true
in_itself t = grind (arith, nat_tests)

-- of the types of a list the least that the name owns is the first of the name's types that is listed
pub least_is_first : (m : Sets) (n : Name) (ts : List ℕ) → IsStrictlySortedBy key_cmp (keys_of m) → least_owned m n ts ≡ find (λ u. list_any (λ v. u == v) ts) (types_at m n)
least_is_first m n ts s =
    greatest_same down (filter (owns m n) ts) (filter listed (types_at m n))
    (λ t i. let r = In-from_filter (owns m n) t ts i in In-filter listed t (types_at m n) (type_in m n t r.1) (any_from_In (λ v. t == v) t ts r.0 (in_itself t)))
    (λ t i. let r = In-from_filter listed t (types_at m n) i in In-filter (owns m n) t ts (among t (In-from_any (λ v. t == v) ts r.1)) (type_owned m n t r.0))
    ∙ least_first (filter listed (types_at m n)) (kept_ascends listed (types_at m n) (types_ascend n m s))
    ∙ first_kept listed (types_at m n)
  where
    listed : ℕ → Bool
    listed u = list_any (λ v. u == v) ts

    told : (t u : ℕ) → (t == u) ≡ true → t ≡ u
    told t u h = grind (arith, nat_tests)

    among : (t : ℕ) → (u : ℕ) × In u ts × ((t == u) ≡ true) → In t ts
    among t r = subst (λ x. In x ts) (sym (told t r.0 r.2)) r.1

pub any_is : (m : Sets) (n : Name) → IsStrictlySortedBy key_cmp (keys_of m) → any_type m n ≡ chosen None (types_at m n)
any_is m n s =
    ap (λ o. unwrap_or (option_or o (least nat_cmp (types_at m n))) A) (least_is_first m n preferred_types s)
    ∙ ap (λ o. unwrap_or (option_or (find is_preferred (types_at m n)) o) A) (least_first (types_at m n) (types_ascend n m s))

pub chosen_end : (first : Option ℕ) (ts : List ℕ) → ts ≡ [] → chosen first ts ≡ unwrap_or first A
chosen_end first ts e = ap (chosen first) e ∙ by first
  where
    by : (o : Option ℕ) → unwrap_or (option_or o None) A ≡ unwrap_or o A
    by None = refl
    by (Some t) = refl

module _ (n : Name) (s t : Sets) (e : RrKey × RRset) (is : s ≡ e ∷ t) where
  pub chosen_over : (first : Option ℕ) → eq_by_cmp name_cmp e.0.name n ≡ false → chosen first (front_types n s) ≡ unwrap_or first A
  chosen_over first h = chosen_end first (front_types n s) (ap (front_types n) is ∙ front_ended n e t h)

  taken : eq_by_cmp name_cmp e.0.name n ≡ true → front_types n s ≡ e.0.record_type.0 ∷ front_types n t
  taken h = ap (front_types n) is ∙ front_taken n e t h

  pub chosen_here : (first : Option ℕ) → eq_by_cmp name_cmp e.0.name n ≡ true → is_preferred e.0.record_type.0 ≡ true → chosen first (front_types n s) ≡ e.0.record_type.0
  chosen_here first h p =
      ap (chosen first) (taken h)
      ∙ ap (λ b. unwrap_or (option_or (cond b (Some e.0.record_type.0) (find is_preferred (front_types n t))) (option_or first (Some e.0.record_type.0))) A) p

  passed : (first : Option ℕ) → eq_by_cmp name_cmp e.0.name n ≡ true → is_preferred e.0.record_type.0 ≡ false
      → chosen first (front_types n s) ≡ unwrap_or (option_or (find is_preferred (front_types n t)) (option_or first (Some e.0.record_type.0))) A
  passed first h p =
      ap (chosen first) (taken h)
      ∙ ap (λ b. unwrap_or (option_or (cond b (Some e.0.record_type.0) (find is_preferred (front_types n t))) (option_or first (Some e.0.record_type.0))) A) p

  pub chosen_first : (first : Option ℕ) → first ≡ None → eq_by_cmp name_cmp e.0.name n ≡ true → is_preferred e.0.record_type.0 ≡ false
      → chosen (Some e.0.record_type.0) (front_types n t) ≡ chosen first (front_types n s)
  chosen_first first none h p = sym (passed first h p ∙ ap (λ o. unwrap_or (option_or (find is_preferred (front_types n t)) (option_or o (Some e.0.record_type.0))) A) none)

  chosen_some : (first : Option ℕ) (u : ℕ) → first ≡ Some u → eq_by_cmp name_cmp e.0.name n ≡ true → is_preferred e.0.record_type.0 ≡ false
      → chosen first (front_types n t) ≡ chosen first (front_types n s)
  chosen_some first u some h p =
      ap (λ o. unwrap_or (option_or (find is_preferred (front_types n t)) (option_or o (first_of (front_types n t)))) A) some
      ∙ sym (passed first h p ∙ ap (λ o. unwrap_or (option_or (find is_preferred (front_types n t)) (option_or o (Some e.0.record_type.0))) A) some)

  pub chosen_later : (first : Option ℕ) → is_some first ≡ true → eq_by_cmp name_cmp e.0.name n ≡ true → is_preferred e.0.record_type.0 ≡ false
      → chosen first (front_types n t) ≡ chosen first (front_types n s)
  chosen_later None k h p = absurd (true≢false (sym k))
  chosen_later (Some u) k h p = chosen_some (Some u) u refl h p

-- from the name's least key on, a loop chooses what the name's types give
pub chosen_whole : (least : RrKey) (m es : Sets) → least.record_type.0 ≡ 0 → IsStrictlySortedBy key_cmp (keys_of es) → es ≡ m
    → chosen None (front_types least.name (from_key least m)) ≡ any_type m least.name
chosen_whole least m es type_zero sorted same =
    let in_order : IsStrictlySortedBy key_cmp (keys_of m) = subst (λ (x : Sets). IsStrictlySortedBy key_cmp (keys_of x)) same sorted in
    ap (λ t. chosen None (front_types least.name (from_key (record { name = least.name; record_type = record { 0 = t } }) m))) type_zero
    ∙ ap (chosen None) (front_is_types least.name m in_order)
    ∙ sym (any_is m least.name in_order)

-- ---- a name that owns the queried type has a found set

exact_owned : (m : Sets) (n : Name) (t : ℕ) → owns m n t ≡ true → is_some (exact m n t) ≡ true
exact_owned m n t h =
    let g = has_greatest down (filter (owns m n) (types_for t)) t (In-filter (owns m n) t (types_for t) (itself (is_address t)) h) in
    ap (λ o. is_some (option_and_then (set_at m n) o)) g.1
    ∙ (In-from_filter (owns m n) g.0 (types_for t) g.2.among).1
  where
    itself : (b : Bool) → In t (cond b (t ∷ CNAME ∷ 65305 ∷ []) (t ∷ CNAME ∷ []))
    itself true = inl refl
    itself false = inl refl

either : {X : Type 0} (o p : Option X) → is_some p ≡ true → is_some (option_or o p) ≡ true
either None p h = h
either (Some x) p h = refl

first_is_enough : {X : Type 0} (o p : Option X) → is_some o ≡ true → is_some (option_or o p) ≡ true
first_is_enough None p h = cc
first_is_enough (Some x) p h = refl

pub found_owned : (m : Sets) (signed : Bool) (n : Name) (t : ℕ) → owns m n t ≡ true → is_some (found m signed n t) ≡ true
found_owned m signed n t h = first_is_enough (direct m n t) (wildcard m signed n t) (either (referral m n t) (exact m n t) (exact_owned m n t h))

any_owned : (m : Sets) (n : Name) (t : ℕ) → owns m n t ≡ true → owns m n (any_type m n) ≡ true
any_owned m n t h = by (least_owned m n preferred_types) refl
  where
    by : (o : Option ℕ) → least_owned m n preferred_types ≡ o → owns m n (unwrap_or (option_or o (least nat_cmp (types_at m n))) A) ≡ true
    by None e =
        let g = has_greatest down (types_at m n) t (type_in m n t h) in
        ap (λ o. owns m n (unwrap_or o A)) g.1 ∙ type_owned m n g.0 g.2.among
    by (Some u) e = (In-from_filter (owns m n) u preferred_types (greatest_is down (filter (owns m n) preferred_types) u e).among).1

pub searched_owned : (m : Sets) (n : Name) (t : ℕ) → owns m n t ≡ true → owns m n (searched_type m n t) ≡ true
searched_owned m n t h = by (t == ANY)
  where
    by : (b : Bool) → owns m n (cond b (any_type m n) t) ≡ true
    by true = any_owned m n t h
    by false = h

-- the number of the first type that was passed, or that of A
pub first_number : (first : Option RecordType) → (unwrap_or first (record { 0 = A })).0 ≡ unwrap_or (option_map (λ (t : RecordType). t.0) first) A
first_number None = refl
first_number (Some t) = refl
