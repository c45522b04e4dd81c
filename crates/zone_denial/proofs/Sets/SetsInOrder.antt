-- Owners in canonical order give their NSEC3 sets in the order of these sets' owners
use Rattle.std.proofs.Common.{◌≡◌, List, [], ◌∷◌, refl, sym, ap, ◌∙◌, inl, inr, true, Ordering, Less, Equal, Greater}
use Rattle.std.specs.Prelude.{Option, Some, None, filter_map, is_some}
use Rattle.std.specs.List.{cons_option}
use Rattle.std.specs.Ordering.{match_ordering}
use Rattle.zone_proto.specs.Names.{Name, name_cmp}
use Rattle.zone_proto.specs.Sets.{RRset}
use Rattle.zone_proto.specs.Types.{NSEC3}
use Rattle.zone_proto.proofs.Members.{In}
use Rattle.zone_proto.proofs.Names.Tree.{name_order}
use Rattle.zone_map.specs.Zones.{Sets, set_at, owns, IsZone}
use Rattle.zone_denial.specs.Nsec3Lent.{owner_cmp}
use Rattle.zone_denial.specs.TypeLists.{joined, in_order}
use Rattle.zone_denial.proofs.InOrder.{In-from_in_order}

module _ (m : Sets) (zone : IsZone m) where
  abbrev look : Name → Option RRset
  look o = set_at m o NSEC3

  -- names that all own NSEC3
  abbrev pub AllOwn : List Name → Type 0
  AllOwn os = (o : Name) → In o os → owns m o NSEC3 ≡ true

  same_order : (o y : Name) (s r : RRset) → look o ≡ Some s → look y ≡ Some r → owner_cmp s r ≡ name_cmp o y
  same_order o y s r e f = λ i. name_cmp ((zone.stored o NSEC3 s e).owner i) ((zone.stored y NSEC3 r f).owner i)

  joined_sets : (o : Name) (s : RRset) → look o ≡ Some s → (os : List Name) → AllOwn os → filter_map look (joined name_cmp o os) ≡ joined owner_cmp s (filter_map look os)
  joined_sets o s e [] h = ap (λ x. cons_option x []) e
  joined_sets o s e (y ∷ ys) h = by (look y) refl (h y (inl refl)) (joined_sets o s e ys (λ z i. h z (inr i)))
    where
      rest : List RRset
      rest = filter_map (λ n. set_at m n NSEC3) ys

      by : (q : Option RRset) → look y ≡ q → is_some q ≡ true → filter_map (λ n. set_at m n NSEC3) (joined name_cmp o ys) ≡ joined owner_cmp s (filter_map (λ n. set_at m n NSEC3) ys)
          → filter_map (λ n. set_at m n NSEC3) (match_ordering (name_cmp o y) (o ∷ y ∷ ys) (y ∷ ys) (y ∷ joined name_cmp o ys)) ≡ joined owner_cmp s (cons_option q (filter_map (λ n. set_at m n NSEC3) ys))
      by None f t ih = absurd cc
      by (Some r) f t ih = go (name_cmp o y) ∙ ap (λ k. match_ordering k (s ∷ r ∷ rest) (r ∷ rest) (r ∷ joined owner_cmp s rest)) (sym (same_order o y s r e f))
        where
          go : (k : Ordering) → filter_map (λ n. set_at m n NSEC3) (match_ordering k (o ∷ y ∷ ys) (y ∷ ys) (y ∷ joined name_cmp o ys)) ≡ match_ordering k (s ∷ r ∷ rest) (r ∷ rest) (r ∷ joined owner_cmp s rest)
          go Less = λ i. cons_option (e i) (cons_option (f i) rest)
          go Equal = ap (λ x. cons_option x rest) f
          go Greater = λ i. cons_option (f i) (ih i)

  pub sets_in_order : (os : List Name) → AllOwn os → filter_map look (in_order name_cmp os) ≡ in_order owner_cmp (filter_map look os)
  sets_in_order [] h = refl
  sets_in_order (o ∷ os) h = by (look o) refl (h o (inl refl)) (sets_in_order os (λ z i. h z (inr i)))
    where
      by : (q : Option RRset) → look o ≡ q → is_some q ≡ true → filter_map (λ n. set_at m n NSEC3) (in_order name_cmp os) ≡ in_order owner_cmp (filter_map (λ n. set_at m n NSEC3) os)
          → filter_map (λ n. set_at m n NSEC3) (joined name_cmp o (in_order name_cmp os)) ≡ in_order owner_cmp (cons_option q (filter_map (λ n. set_at m n NSEC3) os))
      by None f t ih = absurd cc
      by (Some s) f t ih = joined_sets o s f (in_order name_cmp os) (λ z i. h z (inr (In-from_in_order name_order z os i))) ∙ ap (joined owner_cmp s) ih
