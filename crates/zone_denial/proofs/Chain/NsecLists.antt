-- What the lists of a circle of NSEC sets have, and that no denial contradicts one
use Rattle.std.proofs.Common.{◌≡◌, ℕ, Bool, true, false, List, [], ◌∷◌, refl, sym, ap, ◌∙◌, subst, true≢false, ◌⊎◌, inl, inr}
use Rattle.std.specs.Prelude.{Some, None, is_some}
use Rattle.std.specs.List.{Contains}
use Rattle.std.specs.List.Sorted.{IsStrictlySortedBy}
use Rattle.std.specs.Ordering.{nat_cmp}
use Rattle.zone_proto.specs.Names.{Name, is_at_or_above}
use Rattle.zone_proto.specs.Sets.{RRset}
use Rattle.zone_proto.specs.Types.{NSEC, RRSIG}
use Rattle.zone_proto.proofs.Members.{In, In-Contains, Contains-In, none_passes}
use Rattle.zone_proto.proofs.Names.NameTree.{is_at_or_above_complete}
use Rattle.zone_proto.proofs.Ordering.Orders.{number_order}
use Rattle.zone_map.specs.AnyTypes.{searched_type}
use Rattle.zone_map.specs.Wildcards.{found}
use Rattle.zone_map.specs.Zones.{Sets, set_at, owns, types_at, names_of, owns_at_or_below}
use Rattle.zone_map.proofs.AnyTypes.{found_owned, searched_owned}
use Rattle.zone_map.proofs.Owned.{name_in, type_in, type_owned}
use Rattle.zone_denial.specs.Authority.{is_below_cut}
use Rattle.zone_denial.specs.NsecCircle.{types_of}
use Rattle.zone_denial.specs.NsecLaws.{IsNsecZone, IsListed, CircleListsAllOwned, IsDenied, DenialsAgree}
use Rattle.zone_denial.specs.TypeLists.{nsec_types}
use Rattle.zone_denial.proofs.Names.AuthoritativeNames.{authoritative_from, besides_alone}
use Rattle.zone_denial.proofs.InOrder.{in_order_ascends, in_order_contains, in_order_contained}

-- a list in a set of the circle is that of its name's types
same_list : (types listed : List ℕ) → Some types ≡ Some listed → types ≡ listed
same_list types listed e = cc

-- ---- a name at which, and below which, nothing is owned

-- an owner isn't at or below it
pub owner_elsewhere : (m : Sets) (x n : Name) (t : ℕ) → owns_at_or_below m x ≡ false → owns m n t ≡ true → is_at_or_above x n ≡ false
owner_elsewhere m x n t none k = by (is_at_or_above x n) refl
  where
    by : (b : Bool) → is_at_or_above x n ≡ b → b ≡ false
    by true e = absurd (none_passes (is_at_or_above x) n (names_of m) none (name_in m n t k) e)
    by false e = refl

pub off_circle : (m : Sets) (x : Name) → owns_at_or_below m x ≡ false → owns m x NSEC ≡ false
off_circle m x none = by (owns m x NSEC) refl
  where
    by : (b : Bool) → owns m x NSEC ≡ b → b ≡ false
    by true k = absurd (true≢false (sym (is_at_or_above_complete x x ([], refl)) ∙ owner_elsewhere m x x NSEC none k))
    by false k = refl

-- ---- a list has what is owned, and RRSIG and NSEC

pub list_ascends : (m : Sets) (n : Name) → IsStrictlySortedBy nat_cmp (nsec_types m n)
list_ascends m n = in_order_ascends number_order (NSEC ∷ RRSIG ∷ types_at m n)

pub list_has : (m : Sets) (n : Name) (t : ℕ) → (owns m n t ≡ true) ⊎ (t ≡ RRSIG) ⊎ (t ≡ NSEC) → Contains (nsec_types m n) t
list_has m n t k = in_order_contains number_order t (NSEC ∷ RRSIG ∷ types_at m n) (In-Contains t (NSEC ∷ RRSIG ∷ types_at m n) (by k))
  where
    by : (owns m n t ≡ true) ⊎ (t ≡ RRSIG) ⊎ (t ≡ NSEC) → In t (NSEC ∷ RRSIG ∷ types_at m n)
    by (inl k) = inr (inr (type_in m n t k))
    by (inr (inl e)) = inr (inl (sym e))
    by (inr (inr e)) = inl (sym e)

pub from_list : (m : Sets) (n : Name) (t : ℕ) → Contains (nsec_types m n) t → (owns m n t ≡ true) ⊎ (t ≡ RRSIG) ⊎ (t ≡ NSEC)
from_list m n t c = by (Contains-In t (NSEC ∷ RRSIG ∷ types_at m n) (in_order_contained number_order t (NSEC ∷ RRSIG ∷ types_at m n) c))
  where
    by : In t (NSEC ∷ RRSIG ∷ types_at m n) → (owns m n t ≡ true) ⊎ (t ≡ RRSIG) ⊎ (t ≡ NSEC)
    by (inl e) = inr (inr (sym e))
    by (inr (inl e)) = inr (inl (sym e))
    by (inr (inr i)) = inl (type_owned m n t i)

-- ---- what isn't found isn't owned

pub not_found : (m : Sets) (signed : Bool) (x : Name) (t : ℕ) → found m signed x (searched_type m x t) ≡ None → owns m x t ≡ true → ⊥
not_found m signed x t e k = true≢false (sym (found_owned m signed x (searched_type m x t) (searched_owned m x t k)) ∙ ap is_some e)

module _ (origin : Name) (m : Sets) (h : IsNsecZone origin m) where
  list_is : (x : Name) (s : RRset) (types : List ℕ) → set_at m x NSEC ≡ Some s → types_of s ≡ Some types → types ≡ nsec_types m x
  list_is x s types e f = same_list types (nsec_types m x) (sym f ∙ (h.circle.each x s e).list)

  -- ---- what x owns is listed, or x is below a zone cut

  pub is_listed : (x : Name) (t : ℕ) → owns m x t ≡ true → IsListed origin m x t
  is_listed x t k = record {
    on = λ s types e f. subst (λ ts. Contains ts t) (sym (list_is x s types e f)) (list_has m x t (inl k));
    off = λ off inside. cut off inside (is_below_cut origin m x) refl;
  }
    where
      cut : owns m x NSEC ≡ false → is_at_or_above origin x ≡ true → (b : Bool) → is_below_cut origin m x ≡ b → b ≡ true
      cut off inside true e = refl
      cut off inside false e = absurd (true≢false (sym (h.circle.one_for_each x ∙ authoritative_from origin m NSEC x inside (besides_alone m NSEC x t k off) e) ∙ off))

  -- ---- what isn't found isn't listed

  pub is_denied : (signed : Bool) (x : Name) (t : ℕ) → found m signed x (searched_type m x t) ≡ None → IsDenied m x t
  is_denied signed x t e = record {
    name = off_circle m x;
    type' = λ s types k f c. by s k (from_list m x t (subst (λ ts. Contains ts t) (list_is x s types k f) c));
  }
    where
      by : (s : RRset) → set_at m x NSEC ≡ Some s → (owns m x t ≡ true) ⊎ (t ≡ RRSIG) ⊎ (t ≡ NSEC) → t ≡ RRSIG
      by s k (inl l) = absurd (not_found m signed x t e l)
      by s k (inr (inl l)) = l
      by s k (inr (inr l)) = absurd (not_found m signed x t e (ap (owns m x) l ∙ ap is_some k))

pub lists_all_owned : CircleListsAllOwned
lists_all_owned = is_listed

pub denials_agree : DenialsAgree
denials_agree = is_denied
