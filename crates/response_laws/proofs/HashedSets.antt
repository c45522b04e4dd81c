-- What holds of each NSEC3 set of a zone holds of those that prove something
use Rattle.std.proofs.Common.{◌≡◌, List, [], ◌∷◌, ◌++◌, refl, subst, ◌⊎◌, inl, inr, Ordering, Less, Equal, Greater}
use Rattle.std.specs.Ordering.{match_ordering}
use Rattle.std.specs.Prelude.{Option, Some, None, option_and_then, option_to_list}
use Rattle.std.specs.Option.{option_map_or, option_or}
use Rattle.zone_proto.specs.Names.{Name, proper_ancestors, wildcard_under, suffixes}
use Rattle.zone_proto.specs.Sets.{RRset}
use Rattle.zone_proto.specs.Types.{NSEC3}
use Rattle.zone_proto.proofs.Members.{In, In-from_append}
use Rattle.zone_map.specs.Zones.{Sets, set_at}
use Rattle.zone_denial.specs.Nsec3Denial.{cover_owner}
use Rattle.zone_denial.specs.Nsec3Lent.{owner_cmp}
use Rattle.zone_denial.specs.TypeLists.{joined, in_order}
use Rattle.zone_response.specs.HashedDenials.{next_closer, matching, covering, provable, closer_set, wildcard_set, wildcard_sets, absent_below, absent_sets, left_out_sets, present_sets}

-- each set of a list has a property
abbrev pub Each : (RRset → Type 0) → List RRset → Type 0
Each P sets = (s : RRset) → In s sets → P s

pub each_of_both : (P : RRset → Type 0) (sets more : List RRset) → Each P sets → Each P more → Each P (sets ++ more)
each_of_both P sets more h k s i = by (In-from_append s sets more i)
  where
    by : In s sets ⊎ In s more → P s
    by (inl u) = h s u
    by (inr u) = k s u

-- ---- sets in order are the sets

from_joined : (x v : RRset) (ys : List RRset) → In v (joined owner_cmp x ys) → In v (x ∷ ys)
from_joined x v [] i = i
from_joined x v (y ∷ ys) i = by (owner_cmp x y) i (λ j. from_joined x v ys j)
  where
    more : In v (x ∷ ys) → In v (x ∷ y ∷ ys)
    more (inl e) = inl e
    more (inr j) = inr (inr j)

    by : (r : Ordering) → In v (match_ordering r (x ∷ y ∷ ys) (y ∷ ys) (y ∷ joined owner_cmp x ys)) → (In v (joined owner_cmp x ys) → In v (x ∷ ys)) → In v (x ∷ y ∷ ys)
    by Less i ih = i
    by Equal i ih = inr i
    by Greater (inl e) ih = inr (inl e)
    by Greater (inr j) ih = more (ih j)

from_in_order : (v : RRset) (xs : List RRset) → In v (in_order owner_cmp xs) → In v xs
from_in_order v [] i = i
from_in_order v (x ∷ xs) i = by (from_joined x v (in_order owner_cmp xs) i) (λ j. from_in_order v xs j)
  where
    by : In v (x ∷ in_order owner_cmp xs) → (In v (in_order owner_cmp xs) → In v xs) → In v (x ∷ xs)
    by (inl e) ih = inl e
    by (inr j) ih = inr (ih j)

-- ---- the sets of a denial

module _ (P : RRset → Type 0) (m : Sets) (each : (o : Name) (s : RRset) → set_at m o NSEC3 ≡ Some s → P s) (origin : Name) (hashed : Name → Name) where
  -- a set that may be there
  abbrev MayHave : Option RRset → Type 0
  MayHave o = Each P (option_to_list o)

  none : MayHave None
  none s i = absurd i

  may_be : (h : Name) → MayHave (set_at m h NSEC3)
  may_be h = by (set_at m h NSEC3) refl
    where
      by : (o : Option RRset) → set_at m h NSEC3 ≡ o → MayHave o
      by (Some s) e r (inl q) = subst P q (each h s e)
      by (Some s) e r (inr i) = absurd i
      by None e r i = absurd i

  of_matching : (x : Name) → MayHave (matching origin m hashed x)
  of_matching x = may_be (hashed x)

  of_covering : (x : Name) → MayHave (covering origin m hashed x)
  of_covering x = by (cover_owner m (hashed x))
    where
      by : (o : Option Name) → MayHave (option_and_then (λ o. set_at m o NSEC3) o)
      by (Some o) = may_be o
      by None = none

  of_closer : (x e : Name) → MayHave (closer_set origin m hashed x e)
  of_closer x e = by (next_closer x e)
    where
      by : (o : Option Name) → MayHave (option_and_then (covering origin m hashed) o)
      by (Some c) = of_covering c
      by None = none

  of_wildcard_under : (e : Name) → MayHave (wildcard_set origin m hashed e)
  of_wildcard_under e = by (matching origin m hashed (wildcard_under e)) (of_matching (wildcard_under e))
    where
      by : (o : Option RRset) → MayHave o → MayHave (option_or o (covering origin m hashed (wildcard_under e)))
      by (Some s) h = h
      by None h = of_covering (wildcard_under e)

  pub of_wildcard_sets : (x e : Name) → Each P (wildcard_sets origin m hashed x e)
  of_wildcard_sets x e = of_closer x e

  of_absent_below : (x e : Name) → Each P (absent_below origin m hashed x e)
  of_absent_below x e s i = all s (from_in_order s (option_to_list (matching origin m hashed e) ++ option_to_list (closer_set origin m hashed x e) ++ option_to_list (wildcard_set origin m hashed e)) i)
    where
      all : Each P (option_to_list (matching origin m hashed e) ++ option_to_list (closer_set origin m hashed x e) ++ option_to_list (wildcard_set origin m hashed e))
      all =
          each_of_both P (option_to_list (matching origin m hashed e) ++ option_to_list (closer_set origin m hashed x e)) (option_to_list (wildcard_set origin m hashed e))
          (each_of_both P (option_to_list (matching origin m hashed e)) (option_to_list (closer_set origin m hashed x e)) (of_matching e) (of_closer x e)) (of_wildcard_under e)

  pub of_absent : (x e : Name) → Each P (absent_sets origin m hashed x e)
  of_absent x e = by (provable origin m hashed (suffixes e))
    where
      by : (o : Option Name) → Each P (option_map_or (absent_below origin m hashed x) o [])
      by (Some a) = of_absent_below x a
      by None = λ s i. absurd i

  of_left_out : (x : Name) → Each P (option_map_or (left_out_sets origin m hashed x) (provable origin m hashed (proper_ancestors x)) [])
  of_left_out x = by (provable origin m hashed (proper_ancestors x))
    where
      by : (o : Option Name) → Each P (option_map_or (left_out_sets origin m hashed x) o [])
      by (Some a) = each_of_both P (option_to_list (closer_set origin m hashed x a)) (option_to_list (matching origin m hashed a)) (of_closer x a) (of_matching a)
      by None = λ s i. absurd i

  pub of_present : (x : Name) → Each P (present_sets origin m hashed x)
  of_present x = by (matching origin m hashed x) (of_matching x)
    where
      by : (o : Option RRset) → MayHave o → Each P (option_map_or (λ s. s ∷ []) o (option_map_or (left_out_sets origin m hashed x) (provable origin m hashed (proper_ancestors x)) []))
      by (Some s) h = h
      by None h = of_left_out x
