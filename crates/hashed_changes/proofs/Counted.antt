-- Whether a name gets an NSEC3 set is told by whether a name at or below it counts
use Rattle.std.proofs.Common.{◌≡◌, Bool, true, false, not, ◌&&◌, List, [], ◌∷◌, map, refl, sym, ap, ◌∙◌, true≢false, inl, inr}
use Rattle.std.specs.Prelude.{filter}
use Rattle.std.specs.Cmp.{both_ways}
use Rattle.std.specs.List.{list_all}
use Rattle.std.specs.Ordering.{is_eq, eq_by_cmp}
use Rattle.zone_proto.specs.Names.{Name, name_cmp, name_eq, is_above, is_at_or_above}
use Rattle.zone_proto.specs.Types.{NSEC3}
use Rattle.zone_proto.proofs.Members.{In, In-Contains, Contains-In, In-filter, In-from_filter, In-from_any, any_from_In, and_left, and_right}
use Rattle.zone_proto.proofs.Names.NameTree.{name_eq-Decides, name_itself, above_test, is_at_or_above_sound, is_at_or_above_complete}
use Rattle.zone_proto.proofs.Names.Tree.{name_order, name_eq_itself}
use Rattle.zone_proto.proofs.Ordering.KeyOrder.{equal_of}
use Rattle.zone_map.specs.Zones.{Sets, names_of}
use Rattle.zone_denial.specs.Authority.{is_authoritative, authoritative_names}
use Rattle.zone_denial.specs.Nsec3Names.{is_unsigned_delegation, counted_names, nsec3_names, IsNsec3Name}
use Rattle.zone_denial.proofs.Hashed.Nsec3NameLaws.{names_are_exact}
use Rattle.zone_denial.proofs.Names.AuthoritativeNames.{authoritative_listed}
use Rattle.hashed_changes.specs.Among.{is_among}
use Rattle.hashed_changes.specs.Counting.{counts, has_counted, is_left_out}
use Rattle.hashed_changes.proofs.Names.{among_in, not_among_from}

-- names that the program finds equal are the same
pub same_by : (n a : Name) → eq_by_cmp name_cmp n a ≡ true → name_eq n a ≡ true
same_by n a h = (name_eq-Decides n a).1 (name_order.exact n a (equal_of (name_cmp n a) h))

equal_itself : (n a : Name) → n ≡ a → eq_by_cmp name_cmp n a ≡ true
equal_itself n a e = ap (eq_by_cmp name_cmp n) (sym e) ∙ ap is_eq (name_itself n)

pub other_by : (n a : Name) → eq_by_cmp name_cmp n a ≡ false → name_eq n a ≡ false
other_by n a h = by (name_eq n a) refl
  where
    by : (b : Bool) → name_eq n a ≡ b → b ≡ false
    by true e = absurd (true≢false (sym (equal_itself n a ((name_eq-Decides n a).0 e)) ∙ h))
    by false e = refl

pub among_from : (names : List Name) (n : Name) → In n names → is_among names n ≡ true
among_from names n i = any_from_In (name_eq n) n names i (name_eq_itself n)

module _ (origin : Name) (m : Sets) (opt_out : Bool) (n : Name) where
  abbrev names : List Name
  names = nsec3_names origin m opt_out

  named_from : IsNsec3Name origin m opt_out n → is_among names n ≡ true
  named_from h = among_from names n (Contains-In n names ((names_are_exact origin m opt_out n).1 h))

  named_is : is_among names n ≡ true → IsNsec3Name origin m opt_out n
  named_is e = (names_are_exact origin m opt_out n).0 (In-Contains n names (among_in names n e))

  pub of_origin : eq_by_cmp name_cmp n origin ≡ true → true ≡ is_among (nsec3_names origin m opt_out) n
  of_origin h = sym (named_from (inl ((name_eq-Decides n origin).0 (same_by n origin h))))

  not_origin : eq_by_cmp name_cmp n origin ≡ false → n ≡ origin → ⊥
  not_origin h e = true≢false (sym ((name_eq-Decides n origin).1 e) ∙ other_by n origin h)

  pub not_below : eq_by_cmp name_cmp n origin ≡ false → is_above origin n ≡ false → false ≡ is_among (nsec3_names origin m opt_out) n
  not_below h k = sym (not_among_from names n (λ i. by ((names_are_exact origin m opt_out n).0 (In-Contains n names i))))
    where
      by : IsNsec3Name origin m opt_out n → ⊥
      by (inl e) = not_origin h e
      by (inr (over, c)) = true≢false (sym ((above_test origin n).1 over) ∙ k)

  abbrev passes : Name → Bool
  passes c = not (opt_out && (not (name_eq c origin) && is_unsigned_delegation m c))

  abbrev at_or_below : List Name
  at_or_below = filter (is_at_or_above n) (names_of m)

  pub below : eq_by_cmp name_cmp n origin ≡ false → is_above origin n ≡ true → has_counted origin m opt_out n ≡ is_among (nsec3_names origin m opt_out) n
  below h k = both_ways (has_counted origin m opt_out n) (is_among names n) to from
    where
      to : has_counted origin m opt_out n ≡ true → is_among names n ≡ true
      to e =
          let r = In-from_any (counts origin m opt_out) at_or_below e in
          let at = In-from_filter (is_at_or_above n) r.0 (names_of m) r.1 in
          let authority = and_left (is_authoritative origin m NSEC3 r.0) (passes r.0) r.2 in
          let kept = and_right (is_authoritative origin m NSEC3 r.0) (passes r.0) r.2 in
          let counted = In-filter passes r.0 (authoritative_names origin m NSEC3) (authoritative_listed origin m NSEC3 r.0 authority) kept in
          named_from (inr ((above_test origin n).0 k, (r.0, In-Contains r.0 (counted_names origin m opt_out) counted, is_at_or_above_sound n r.0 at.1)))

      of : IsNsec3Name origin m opt_out n → has_counted origin m opt_out n ≡ true
      of (inl e) = absurd (not_origin h e)
      of (inr (over, (c, i, at))) =
          let r = In-from_filter passes c (authoritative_names origin m NSEC3) (Contains-In c (counted_names origin m opt_out) i) in
          let s = In-from_filter (is_authoritative origin m NSEC3) c (names_of m) r.0 in
          any_from_In (counts origin m opt_out) c at_or_below (In-filter (is_at_or_above n) c (names_of m) s.0 (is_at_or_above_complete n c at)) (λ j. s.1 j && r.1 j)

      from : is_among names n ≡ true → has_counted origin m opt_out n ≡ true
      from e = of (named_is e)

  -- ---- whether it counts

  pub counts_not : is_authoritative origin m NSEC3 n ≡ false → false ≡ counts origin m opt_out n
  counts_not e = sym (ap (λ b. b && not (is_left_out origin m opt_out n)) e)

  pub counts_by : (out : Bool) → is_authoritative origin m NSEC3 n ≡ true → out ≡ is_left_out origin m opt_out n → not out ≡ counts origin m opt_out n
  counts_by out e h = ap not h ∙ sym (ap (λ b. b && not (is_left_out origin m opt_out n)) e)

  pub in_by_default : opt_out ≡ false → false ≡ is_left_out origin m opt_out n
  in_by_default e = sym (ap (λ b. b && (not (name_eq n origin) && is_unsigned_delegation m n)) e)

  pub origin_stays : opt_out ≡ true → eq_by_cmp name_cmp n origin ≡ true → false ≡ is_left_out origin m opt_out n
  origin_stays e h = sym (λ i. e i && (not (same_by n origin h i) && is_unsigned_delegation m n))

  pub left_out_by : (un : Bool) → opt_out ≡ true → eq_by_cmp name_cmp n origin ≡ false → un ≡ is_unsigned_delegation m n → un ≡ is_left_out origin m opt_out n
  left_out_by un e h u = u ∙ sym (λ i. e i && (not (other_by n origin h i) && is_unsigned_delegation m n))

-- a test of what is made of elements, as a test of these
pub all_map : {A B : Type 0} (p : B → Bool) (f : A → B) (xs : List A) → list_all (λ x. p (f x)) xs ≡ list_all p (map f xs)
all_map p f [] = refl
all_map p f (x ∷ xs) = ap (λ b. p (f x) && b) (all_map p f xs)
