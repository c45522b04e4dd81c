-- The next owner of NSEC, among owners that ascend
use Rattle.std.proofs.Common.{◌≡◌, ℕ, ◌==◌, Bool, true, false, cond, List, [], ◌∷◌, ◌++◌, map, refl, sym, ap, ◌∙◌, subst, inl, inr, ◌⊎◌, Ordering, Less, is_lt, arith}
use Rattle.std.specs.Prelude.{Option, Some, None, filter, unwrap_or, option_map, slice_get}
use Rattle.std.specs.Borrow.{Bor}
use Rattle.std.specs.List.{cons_option}
use Rattle.std.proofs.lemmas.Bool.Decides.{nat_tests}
use Rattle.std.proofs.lemmas.List.{map-append}
use Rattle.zone_proto.specs.declared.rr_key.RrKey.{RrKey}
use Rattle.zone_proto.specs.Names.{Name, name_cmp}
use Rattle.zone_proto.specs.Sets.{RRset}
use Rattle.zone_proto.specs.Types.{NSEC}
use Rattle.zone_proto.proofs.Names.Tree.{name_order}
use Rattle.zone_map.specs.Zones.{Sets, IsZone, owners}
use Rattle.zone_map.proofs.Lists.{owners_ascend}
use Rattle.zone_denial.specs.Chains.{next_owner}
use Rattle.zone_proto.specs.Order.{is_before, least}
use Rattle.zone_proto.proofs.Members.{In, In-filter, In-from_filter, In-from_append, In-append_right}
use Rattle.zone_proto.proofs.Ordering.Orders.{IsOrder, irrefl, asym, less_test, greatest_is, greatest_from}
use Rattle.zone_denial.proofs.Ascending.{Ascends, Ascends-end, Ascends-apart, Ascends-from_sorted}
use Rattle.zone_denial.proofs.InOrder.{flipped}

module _ {K : Type 0} {R : K → K → Ordering} (o : IsOrder R) (front : List K) (x : K) where
  later : (rest : List K) → Ascends R (front ++ x ∷ rest) → (y : K) → In y (filter (is_before R x) (front ++ x ∷ rest)) → In y rest
  later rest a y i = let r = In-from_filter (is_before R x) y (front ++ x ∷ rest) i in by (less_test (R x y) r.1) (In-from_append y front (x ∷ rest) r.0)
    where
      by : R x y ≡ Less → In y front ⊎ In y (x ∷ rest) → In y rest
      by l (inl j) = absurd (asym o y x (Ascends-apart R front (x ∷ rest) a y x j (inl refl)) l)
      by l (inr (inl e)) = absurd (irrefl o x (ap (R x) e ∙ l))
      by l (inr (inr j)) = j

  -- an element is followed by the next one of the list
  pub followed : (y : K) (rest : List K) → Ascends R (front ++ x ∷ y ∷ rest) → least R (filter (is_before R x) (front ++ x ∷ y ∷ rest)) ≡ Some y
  followed y rest a =
      greatest_from (flipped o) (filter (is_before R x) (front ++ x ∷ y ∷ rest)) y (record {
        among = In-filter (is_before R x) y (front ++ x ∷ y ∷ rest) (In-append_right y front (x ∷ y ∷ rest) (inr (inl refl))) (ap is_lt (own.0 y (inl refl)));
        none_greater = λ z i l. none z (later (y ∷ rest) a z i) l;
      })
    where
      own : Ascends R (x ∷ y ∷ rest)
      own = Ascends-end R front (x ∷ y ∷ rest) a

      none : (z : K) → In z (y ∷ rest) → R z y ≡ Less → ⊥
      none z (inl e) l = irrefl o y (ap (λ w. R w y) e ∙ l)
      none z (inr j) l = asym o y z (own.1.0 z j) l

  -- and the last one by none
  pub last_one : Ascends R (front ++ x ∷ []) → least R (filter (is_before R x) (front ++ x ∷ [])) ≡ None
  last_one a = by (least R (filter (is_before R x) (front ++ x ∷ []))) refl
    where
      by : (p : Option K) → least R (filter (is_before R x) (front ++ x ∷ [])) ≡ p → p ≡ None
      by None e = refl
      by (Some z) e = absurd (later [] a z (greatest_is (flipped o) (filter (is_before R x) (front ++ x ∷ [])) z e).among)

-- ---- the entries of a zone

eq_swap : (a b : ℕ) → (a == b) ≡ (b == a)
eq_swap a b = grind (arith, nat_tests)

owners_listed : (m : Sets) → owners m NSEC ≡ map (λ e. e.0.name) (filter (λ e. e.0.record_type.0 == NSEC) m)
owners_listed [] = refl
owners_listed (e ∷ m) = by (owners_listed m) (NSEC == e.0.record_type.0) (e.0.record_type.0 == NSEC) (eq_swap NSEC e.0.record_type.0)
  where
    rest : Sets
    rest = filter (λ e. e.0.record_type.0 == NSEC) m

    by : owners m NSEC ≡ map (λ (d : RrKey × RRset). d.0.name) rest → (a b : Bool) → a ≡ b
        → cons_option (cond a (Some e.0.name) None) (owners m NSEC) ≡ map (λ (d : RrKey × RRset). d.0.name) (cond b (e ∷ rest) rest)
    by same true true q = ap (λ ns. e.0.name ∷ ns) same
    by same false false q = same
    by same true false q = absurd cc
    by same false true q = absurd cc

-- entries that are lent
abbrev pub Lent : Type 0
Lent = Bor RrKey × Bor RRset

abbrev pub entry : Lent → RrKey × RRset
entry e = (e.0.now, e.1.now)

abbrev name_at : Lent → Name
name_at e = e.0.now.name

fused : (es : List Lent) → map (λ (e : RrKey × RRset). e.0.name) (map entry es) ≡ map name_at es
fused [] = refl
fused (e ∷ es) = ap (λ ns. name_at e ∷ ns) (fused es)

-- the next owner is that of the next entry of NSEC, or the origin
pub next_here : (origin : Name) (m : Sets) (zone : IsZone m) (es : List Lent) → map entry es ≡ filter (λ e. e.0.record_type.0 == NSEC) m
    → (front rest : List Lent) (x : Lent) → es ≡ front ++ x ∷ rest
    → next_owner origin m x.0.now.name ≡ unwrap_or (option_map (λ (e : Lent). e.0.now.name) (slice_get rest 0)) origin
next_here origin m zone es are front rest x split = by rest split
  where
    ascend : Ascends name_cmp (owners m NSEC)
    ascend = Ascends-from_sorted name_cmp (owners m NSEC) (owners_ascend m NSEC zone.ordered)

    next_in : List Name → Name
    next_in ns = unwrap_or (least name_cmp (filter (is_before name_cmp (name_at x)) ns)) origin

    names : (rest : List Lent) → es ≡ front ++ x ∷ rest → owners m NSEC ≡ map name_at front ++ name_at x ∷ map name_at rest
    names rest split =
        owners_listed m ∙ ap (map (λ (e : RrKey × RRset). e.0.name)) (sym are) ∙ fused es ∙ ap (map name_at) split ∙ map-append name_at front (x ∷ rest)

    by : (rest : List Lent) → es ≡ front ++ x ∷ rest → next_in (owners m NSEC) ≡ unwrap_or (option_map name_at (slice_get rest 0)) origin
    by [] split =
        let e = names [] split in
        ap next_in e ∙ ap (λ p. unwrap_or p origin) (last_one name_order (map name_at front) (name_at x) (subst (Ascends name_cmp) e ascend))
    by (y ∷ rest) split =
        let e = names (y ∷ rest) split in
        ap next_in e ∙ ap (λ p. unwrap_or p origin) (followed name_order (map name_at front) (name_at x) (name_at y) (map name_at rest) (subst (Ascends name_cmp) e ascend))
