-- Sets in the order of their owners, of each owner one, stay as they are where each owner is taken once
use Rattle.std.proofs.Common.{◌≡◌, ◌||◌, false, cond, List, [], ◌∷◌, ◌++◌, refl, sym, ap, ◌∙◌, append_assoc, Ordering, Less, Equal, Greater}
use Rattle.std.specs.Ordering.{is_eq, match_ordering, ordering_reverse}
use Rattle.std.specs.Cmp.{IsTotalOrder}
use Rattle.std.specs.List.{list_any, AllByRecursion}
use Rattle.std.specs.List.Sorted.{IsStrictlySortedBy}
use Rattle.std.specs.Prelude.{fold}
use Rattle.std.proofs.lemmas.Cmp.{on_total}
use Rattle.std.proofs.lemmas.List.{append-nil}
use Rattle.zone_proto.specs.NameLaws.{caseless_cmp_total}
use Rattle.zone_proto.specs.Sets.{RRset}
use Rattle.zone_denial.specs.Nsec3Lent.{owner_cmp}
use Rattle.zone_denial.specs.TypeLists.{joined, in_order}
use Rattle.zone_lookup.specs.Runs.{with_new}
use Rattle.zone_response.specs.Denials.{same_owner, together}

owners_total : IsTotalOrder owner_cmp
owners_total = on_total (λ (s : RRset). s.owner) caseless_cmp_total

-- ---- a list in order ascends

abbrev IsBelow : RRset → List RRset → Type 0
IsBelow s ss = AllByRecursion (λ (r : RRset). owner_cmp s r ≡ Less) ss

below_joined : (v x : RRset) (ys : List RRset) → owner_cmp v x ≡ Less → IsBelow v ys → IsBelow v (joined owner_cmp x ys)
below_joined v x [] e a = (e, a)
below_joined v x (y ∷ ys) e a = by (owner_cmp x y) (below_joined v x ys e a.1)
  where
    by : (r : Ordering) → IsBelow v (joined owner_cmp x ys) → IsBelow v (match_ordering r (x ∷ y ∷ ys) (y ∷ ys) (y ∷ joined owner_cmp x ys))
    by Less ih = (e, a)
    by Equal ih = a
    by Greater ih = (a.0, ih)

raised : (x y : RRset) (ys : List RRset) → owner_cmp x y ≡ Less → IsBelow y ys → IsBelow x ys
raised x y [] e a = tt
raised x y (z ∷ ys) e a = (owners_total.trans x y z e a.0, raised x y ys e a.1)

joined_ascends : (x : RRset) (ys : List RRset) → IsStrictlySortedBy owner_cmp ys → IsStrictlySortedBy owner_cmp (joined owner_cmp x ys)
unfolding IsStrictlySortedBy
joined_ascends x [] a = (tt, tt)
joined_ascends x (y ∷ ys) a = by (owner_cmp x y) refl (joined_ascends x ys a.1)
  where
    by : (r : Ordering) → owner_cmp x y ≡ r → IsStrictlySortedBy owner_cmp (joined owner_cmp x ys)
        → IsStrictlySortedBy owner_cmp (match_ordering r (x ∷ y ∷ ys) (y ∷ ys) (y ∷ joined owner_cmp x ys))
    by Less e ih = ((e, raised x y ys e a.0), a)
    by Equal e ih = a
    by Greater e ih = (below_joined y x ys (owners_total.antisymm y x ∙ ap ordering_reverse e) a.0, ih)

in_order_ascends : (xs : List RRset) → IsStrictlySortedBy owner_cmp (in_order owner_cmp xs)
unfolding IsStrictlySortedBy
in_order_ascends [] = tt
in_order_ascends (x ∷ xs) = joined_ascends x (in_order owner_cmp xs) (in_order_ascends xs)

-- ---- each of an ascending list is new

-- all of these come before all of those
abbrev AreBelow : List RRset → List RRset → Type 0
AreBelow ss rs = AllByRecursion (λ (s : RRset). IsBelow s rs) ss

none_same : (ss : List RRset) (y : RRset) (ys : List RRset) → AreBelow ss (y ∷ ys) → list_any (λ (s : RRset). same_owner s y) ss ≡ false
none_same [] y ys a = refl
none_same (s ∷ ss) y ys a = (λ i. is_eq (a.0.0 i) || none_same ss y ys a.1 i)

one_more : (ss : List RRset) (y : RRset) (ys : List RRset) → AreBelow ss (y ∷ ys) → IsBelow y ys → AreBelow (ss ++ y ∷ []) ys
one_more [] y ys a b = (b, tt)
one_more (s ∷ ss) y ys a b = (a.0.1, one_more ss y ys a.1 b)

all_new : (ss rs : List RRset) → AreBelow ss rs → IsStrictlySortedBy owner_cmp rs → fold (with_new same_owner) ss rs ≡ ss ++ rs
unfolding IsStrictlySortedBy
all_new ss [] a b = sym (append-nil ss)
all_new ss (y ∷ ys) a b =
    ap (λ c. fold (with_new same_owner) (cond c ss (ss ++ y ∷ [])) ys) (none_same ss y ys a)
    ∙ all_new (ss ++ y ∷ []) ys (one_more ss y ys a b.0) b.1
    ∙ append_assoc ss (y ∷ []) ys

pub each_once : (xs : List RRset) → together [] (in_order owner_cmp xs) ≡ in_order owner_cmp xs
each_once xs = all_new [] (in_order owner_cmp xs) tt (in_order_ascends xs)
