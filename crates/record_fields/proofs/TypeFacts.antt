-- Types in ascending order, each once, are the one ascending list of the same types.
use Rattle.std.proofs.Common.{◌≡◌, ℕ, List, [], ◌∷◌, ◌++◌, append_assoc, Bool, true, Option, Some, Result, Ok, Err, refl, sym, ap, subst, ◌∙◌, inl, inr, arith, Ordering, Less, Equal, Greater}
use Rattle.std.specs.Prelude.{◌==◌}
use Rattle.std.specs.Cmp.{IsEquivalence, unsigned_ties}
use Rattle.std.specs.List.{AllByRecursion, Contains, dedup}
use Rattle.std.specs.List.Retain.{DiffersFromLast, IsFiltered}
use Rattle.std.specs.List.Sorted.{IsPermutation, IsSorted, IsStrictlySortedBy}
use Rattle.std.specs.Ordering.{eq_by_cmp, match_ordering, nat_cmp, ordering_reverse}
use Rattle.std.proofs.lemmas.Bool.Decides.{nat_tests}
use Rattle.std.proofs.lemmas.Cmp.{nat_cmp_total, nat_eq_equiv}
use Rattle.std.proofs.lemmas.List.Filters.{dedup_is}
use Rattle.std.proofs.lemmas.List.Kept.{Contains-dedup, Contains-from_dedup, IsStrictlySortedBy-dedup}
use Rattle.std.proofs.lemmas.List.Sorted.{Contains-permutation, IsPermutation-sym}
use Rattle.zone_proto.specs.declared.record_type.RecordType.{RecordType}
use Rattle.zone_proto.proofs.Members.{In, In-Contains, Contains-In}
use Rattle.zone_proto.proofs.Ordering.Orders.{IsOrder, Side, before, same, after, side, irrefl, asym, number_order}
use Rattle.zone_scanner.specs.Entries.{WordText}
use Rattle.record_fields.specs.declared.fault.Reason.TheVariants as reason
use Rattle.record_fields.specs.declared.fault.Fault.{Fault}
use Rattle.record_fields.specs.TypeLists.{ascending, types_named, with_type}
use Rattle.record_fields.specs.Fields.{record_type_named}
use Rattle.record_fields.specs.Readings.{fault, or_else_fault, ◌>>=◌}

-- the order of types is that of their numbers
abbrev pub type_cmp : RecordType → RecordType → Ordering
type_cmp t u = nat_cmp t.0 u.0

abbrev pub same_type : RecordType → RecordType → Bool
same_type t u = t.0 == u.0

abbrev of_number : ℕ → RecordType
of_number n = record { 0 = n }

pub type_order : IsOrder type_cmp
type_order = record {
  total = record {
    antisymm = λ t u. nat_cmp_total.antisymm t.0 u.0;
    trans = λ t u v. nat_cmp_total.trans t.0 u.0 v.0;
    congr = λ t u v. nat_cmp_total.congr t.0 u.0 v.0;
  };
  exact = λ t u e. ap of_number (number_order.exact t.0 u.0 e);
}

-- ---- the types of a list stay

In-with_same : (t : RecordType) (us : List RecordType) → In t (with_type t us)
In-with_same t [] = inl refl
In-with_same t (u ∷ us) = by (type_cmp t u) refl (In-with_same t us)
  where
    by : (r : Ordering) → type_cmp t u ≡ r → In t (with_type t us) → In t (match_ordering r (t ∷ u ∷ us) (u ∷ us) (u ∷ with_type t us))
    by Less e ih = inl refl
    by Equal e ih = inl (sym (type_order.exact t u e))
    by Greater e ih = inr ih

In-with : (t v : RecordType) (us : List RecordType) → In v us → In v (with_type t us)
In-with t v [] i = absurd i
In-with t v (u ∷ us) i = by (type_cmp t u) i (λ j. In-with t v us j)
  where
    by : (r : Ordering) → In v (u ∷ us) → (In v us → In v (with_type t us)) → In v (match_ordering r (t ∷ u ∷ us) (u ∷ us) (u ∷ with_type t us))
    by Less i ih = inr i
    by Equal i ih = i
    by Greater (inl e) ih = inl e
    by Greater (inr j) ih = inr (ih j)

In-from_with : (t v : RecordType) (us : List RecordType) → In v (with_type t us) → In v (t ∷ us)
In-from_with t v [] i = i
In-from_with t v (u ∷ us) i = by (type_cmp t u) i (λ j. In-from_with t v us j)
  where
    more : In v (t ∷ us) → In v (t ∷ u ∷ us)
    more (inl e) = inl e
    more (inr j) = inr (inr j)

    by : (r : Ordering) → In v (match_ordering r (t ∷ u ∷ us) (u ∷ us) (u ∷ with_type t us)) → (In v (with_type t us) → In v (t ∷ us)) → In v (t ∷ u ∷ us)
    by Less i ih = i
    by Equal i ih = inr i
    by Greater (inl e) ih = inr (inl e)
    by Greater (inr j) ih = more (ih j)

In-ascending : (v : RecordType) (ts : List RecordType) → In v ts → In v (ascending ts)
In-ascending v [] i = i
In-ascending v (t ∷ ts) (inl e) = subst (λ w. In w (with_type t (ascending ts))) e (In-with_same t (ascending ts))
In-ascending v (t ∷ ts) (inr i) = In-with t v (ascending ts) (In-ascending v ts i)

In-from_ascending : (v : RecordType) (ts : List RecordType) → In v (ascending ts) → In v ts
In-from_ascending v [] i = i
In-from_ascending v (t ∷ ts) i = by (In-from_with t v (ascending ts) i) (λ j. In-from_ascending v ts j)
  where
    by : In v (t ∷ ascending ts) → (In v (ascending ts) → In v ts) → In v (t ∷ ts)
    by (inl e) ih = inl e
    by (inr j) ih = inr (ih j)

-- ---- and ascend

abbrev above : RecordType → List RecordType → Type 0
above t us = AllByRecursion (λ u. type_cmp t u ≡ Less) us

above_with : (v t : RecordType) (us : List RecordType) → type_cmp v t ≡ Less → above v us → above v (with_type t us)
above_with v t [] e a = (e, a)
above_with v t (u ∷ us) e a = by (type_cmp t u) (above_with v t us e a.1)
  where
    by : (r : Ordering) → AllByRecursion (λ u. type_cmp v u ≡ Less) (with_type t us)
        → AllByRecursion (λ u. type_cmp v u ≡ Less) (match_ordering r (t ∷ u ∷ us) (u ∷ us) (u ∷ with_type t us))
    by Less ih = (e, a)
    by Equal ih = a
    by Greater ih = (a.0, ih)

raised : (t u : RecordType) (us : List RecordType) → type_cmp t u ≡ Less → above u us → above t us
raised t u [] e a = tt
raised t u (v ∷ us) e a = (type_order.total.trans t u v e a.0, raised t u us e a.1)

with_ascends : (t : RecordType) (us : List RecordType) → IsStrictlySortedBy type_cmp us → IsStrictlySortedBy type_cmp (with_type t us)
unfolding IsStrictlySortedBy
with_ascends t [] a = (tt, tt)
with_ascends t (u ∷ us) a = by (type_cmp t u) refl (with_ascends t us a.1)
  where
    by : (r : Ordering) → type_cmp t u ≡ r → IsStrictlySortedBy type_cmp (with_type t us)
        → IsStrictlySortedBy type_cmp (match_ordering r (t ∷ u ∷ us) (u ∷ us) (u ∷ with_type t us))
    by Less e ih = ((e, raised t u us e a.0), a)
    by Equal e ih = a
    by Greater e ih = (above_with u t us (type_order.total.antisymm u t ∙ ap ordering_reverse e) a.0, ih)

ascending_ascends : (ts : List RecordType) → IsStrictlySortedBy type_cmp (ascending ts)
unfolding IsStrictlySortedBy
ascending_ascends [] = tt
ascending_ascends (t ∷ ts) = with_ascends t (ascending ts) (ascending_ascends ts)

-- ---- ascending lists of the same types are the same

above_in : (t : RecordType) (us : List RecordType) (v : RecordType) → above t us → In v us → type_cmp t v ≡ Less
above_in t [] v a i = absurd i
above_in t (u ∷ us) v a (inl e) = subst (λ w. type_cmp t w ≡ Less) e a.0
above_in t (u ∷ us) v a (inr i) = above_in t us v a.1 i

first_not_later : (u v : RecordType) (vs : List RecordType) → above v vs → type_cmp u v ≡ Less → In u (v ∷ vs) → ⊥
first_not_later u v vs a e (inl q) = irrefl type_order u (ap (type_cmp u) (sym q) ∙ e)
first_not_later u v vs a e (inr i) = asym type_order u v e (above_in v vs u a i)

among_later : (u v : RecordType) (vs : List RecordType) (w : RecordType) → type_cmp u w ≡ Less → u ≡ v → In w (v ∷ vs) → In w vs
among_later u v vs w l e (inl q) = absurd (irrefl type_order u (ap (type_cmp u) (e ∙ q) ∙ l))
among_later u v vs w l e (inr i) = i

one_list : (ts us : List RecordType) → IsStrictlySortedBy type_cmp ts → IsStrictlySortedBy type_cmp us
    → ((v : RecordType) → In v ts → In v us) → ((v : RecordType) → In v us → In v ts) → ts ≡ us
unfolding IsStrictlySortedBy
one_list [] [] a b f g = refl
one_list [] (u ∷ us) a b f g = absurd (g u (inl refl))
one_list (t ∷ ts) [] a b f g = absurd (f t (inl refl))
one_list (t ∷ ts) (u ∷ us) a b f g =
    let e = first (side type_order t u) in
    let rest = one_list ts us a.1 b.1
    (λ v i. among_later t u us v (above_in t ts v a.0 i) e (f v (inr i)))
    (λ v i. among_later u t ts v (above_in u us v b.0 i) (sym e) (g v (inr i))) in
    λ i. e i ∷ rest i
  where
    first : Side type_cmp t u → t ≡ u
    first (before e) = absurd (first_not_later t u us b.0 e (f t (inl refl)))
    first (same e) = e
    first (after e) = absurd (first_not_later u t ts a.0 e (g u (inl refl)))

-- ---- so sorted types, each once, are these

same_types : IsEquivalence same_type
same_types = record {
  refl = λ t. nat_eq_equiv.refl t.0;
  symm = λ t u. nat_eq_equiv.symm t.0 u.0;
  congr = λ t u v. nat_eq_equiv.congr t.0 u.0 v.0;
}

exact_types : (t u : RecordType) → same_type t u ≡ true → t ≡ u
exact_types t u e = ap of_number (grind (arith, nat_tests))

tied_types : (t u : RecordType) → same_type t u ≡ eq_by_cmp type_cmp t u
tied_types t u = unsigned_ties t.0 u.0

pub sorted_once : (ts us vs : List RecordType) → IsPermutation ts us → IsSorted type_cmp us → IsFiltered (DiffersFromLast same_type) [] us vs → vs ≡ ascending ts
sorted_once ts us vs moved sorted once =
    let kept : vs ≡ dedup same_type us = dedup_is same_type us vs once in
    kept ∙ one_list (dedup same_type us) (ascending ts) (IsStrictlySortedBy-dedup type_order.total tied_types us sorted) (ascending_ascends ts)
    (λ v i. In-ascending v ts (Contains-In v ts (Contains-permutation us ts v (IsPermutation-sym ts us moved) (Contains-from_dedup same_type us v (In-Contains v (dedup same_type us) i)))))
    (λ v i. Contains-In v (dedup same_type us) (Contains-dedup same_types exact_types us v (Contains-permutation ts us v moved (In-Contains v ts (In-from_ascending v ts i)))))

-- ---- types read one after the other

regrouped : (ts : List RecordType) (t : RecordType) (r : Result (List RecordType) Fault)
    → (r >>= λ us. Ok (t ∷ us)) >>= (λ more. Ok (ts ++ more)) ≡ (r >>= λ more. Ok ((ts ++ t ∷ []) ++ more))
regrouped ts t (Ok us) = ap Ok (sym (append_assoc ts (t ∷ []) us))
regrouped ts t (Err e) = refl

pub one_type_more : (ts us : List RecordType) (t : RecordType) (w : WordText) (left rest : List WordText) (all : Result (List RecordType) Fault)
    → left ≡ w ∷ rest → us ≡ ts ++ t ∷ [] → record_type_named w.octets ≡ Some t
    → (types_named left >>= λ more. Ok (ts ++ more)) ≡ all
    → (types_named rest >>= λ more. Ok (us ++ more)) ≡ all
one_type_more ts us t w left rest all steps pushed named h =
    ap (λ (vs : List RecordType). types_named rest >>= λ more. Ok (vs ++ more)) pushed
    ∙ sym (regrouped ts t (types_named rest))
    ∙ sym (ap (λ (o : Option RecordType). (or_else_fault o (fault w.place reason.Type) >>= λ u. (types_named rest >>= λ vs. Ok (u ∷ vs))) >>= (λ more. Ok (ts ++ more))) named)
    ∙ sym (ap (λ (ws : List WordText). types_named ws >>= λ more. Ok (ts ++ more)) steps) ∙ h
