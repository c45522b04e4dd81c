-- The names that get an NSEC3 set, and the types of each, in maps in which each name owns the same types: NSEC3 aside, and
-- NSEC3PARAM at the origin aside
use Rattle.std.proofs.Common.{◌≡◌, ℕ, Bool, true, false, List, not, ◌&&◌, ◌||◌, ◌==◌, refl, sym, ap, ◌∙◌, true≢false, inl, inr, ◌⊎◌, eqb-true}
use Rattle.zone_proto.specs.Names.{Name, name_cmp, name_eq, is_at_or_above, IsAbove, IsAtOrAbove}
use Rattle.zone_proto.specs.Types.{NS, NSEC3, NSEC3PARAM}
use Rattle.zone_proto.proofs.Members.{In, In-Contains, Contains-In, In-filter, In-from_filter, and_left, and_right, not_true, or_right}
use Rattle.zone_proto.proofs.Names.NameTree.{name_eq-Decides, above_is_less}
use Rattle.zone_proto.proofs.Ordering.Orders.{number_order, irrefl, asym}
use Rattle.zone_proto.proofs.Names.Tree.{name_order, above_cases}
use Rattle.zone_map.specs.Zones.{Sets, owns, types_at, names_of}
use Rattle.zone_map.proofs.Owned.{type_in, type_owned}
use Rattle.zone_denial.specs.Authority.{is_below_cut, owns_besides, is_authoritative, authoritative_names}
use Rattle.zone_denial.specs.Nsec3Circle.{nsec3_types, IsNsec3Type}
use Rattle.zone_denial.specs.Nsec3Names.{is_unsigned_delegation, counted_names, nsec3_names, IsNsec3Name}
use Rattle.zone_denial.proofs.Hashed.AllPassing.{all_from_In, In-passes}
use Rattle.zone_denial.proofs.Names.AuthoritativeNames.{authoritative_from, authoritative_listed, besides_from, from_besides, same_cuts}
use Rattle.zone_denial.proofs.InOrder.{ascending_same}
use Rattle.zone_denial.proofs.Hashed.Nsec3NameLaws.{names_are_exact, names_ascend}
use Rattle.zone_denial.proofs.Hashed.Nsec3TypeLaws.{types_are_exact, types_ascend}

-- each name owns the same types in both maps, but for NSEC3, and at the origin NSEC3PARAM
abbrev pub OwnSameOthers : Name → Sets → Sets → Type 0
OwnSameOthers origin m after = (n : Name) (t : ℕ) → (t == NSEC3) ≡ false → (t == NSEC3PARAM) && name_eq n origin ≡ false → owns after n t ≡ owns m n t

and_false : (a b : Bool) → b ≡ false → a && b ≡ false
and_false true b e = e
and_false false b e = refl

-- ---- from one map to the other

module _ (origin : Name) (a b : Sets) (same : OwnSameOthers origin a b) where
  off_origin : (n : Name) → name_eq n origin ≡ false → (t : ℕ) → not (t == NSEC3) ≡ true → owns b n t ≡ owns a n t
  off_origin n off t ne = same n t (not_true (t == NSEC3) ne) (and_false (t == NSEC3PARAM) (name_eq n origin) off)

  besides_kept : (n : Name) → name_eq n origin ≡ false → owns_besides a NSEC3 n ≡ true → owns_besides b NSEC3 n ≡ true
  besides_kept n off h = let r = from_besides a NSEC3 n h in besides_from b NSEC3 n r.0 r.1 (off_origin n off r.0 r.1 ∙ r.2)

  unsigned_back : (n : Name) → name_eq n origin ≡ false → is_unsigned_delegation b n ≡ true → is_unsigned_delegation a n ≡ true
  unsigned_back n off h = all_from_In passes (types_at a n) each
    where
      passes : ℕ → Bool
      passes t = (t == NS) || (t == NSEC3)

      each : (t : ℕ) → In t (types_at a n) → passes t ≡ true
      each t i = by (t == NSEC3) refl
        where
          by : (d : Bool) → (t == NSEC3) ≡ d → passes t ≡ true
          by true e = or_right (t == NS) (t == NSEC3) e
          by false e = In-passes passes (types_at b n) h t (type_in b n t (off_origin n off t (ap not e) ∙ type_owned a n t i))

  authority_kept : (n : Name) → name_eq n origin ≡ false → is_authoritative origin a NSEC3 n ≡ true → is_authoritative origin b NSEC3 n ≡ true
  authority_kept n off h =
      let rest = and_right (is_at_or_above origin n) (owns_besides a NSEC3 n && not (is_below_cut origin a n)) h in
      authoritative_from origin b NSEC3 n (and_left (is_at_or_above origin n) (owns_besides a NSEC3 n && not (is_below_cut origin a n)) h)
      (besides_kept n off (and_left (owns_besides a NSEC3 n) (not (is_below_cut origin a n)) rest))
      (same_cuts origin a b (λ k. same k NS refl refl) n ∙ not_true (is_below_cut origin a n) (and_right (owns_besides a NSEC3 n) (not (is_below_cut origin a n)) rest))

  counted_kept : (opt_out : Bool) (n : Name) → name_eq n origin ≡ false → In n (counted_names origin a opt_out) → In n (counted_names origin b opt_out)
  counted_kept opt_out n off i =
      let r = In-from_filter (counts a) n (authoritative_names origin a NSEC3) i in
      let authority = (In-from_filter (is_authoritative origin a NSEC3) n (names_of a) r.0).1 in
      In-filter (counts b) n (authoritative_names origin b NSEC3) (authoritative_listed origin b NSEC3 n (authority_kept n off authority)) (by opt_out (not (name_eq n origin)) r.1)
    where
      counts : Sets → Name → Bool
      counts m n = not (opt_out && (not (name_eq n origin) && is_unsigned_delegation m n))

      signed : not (is_unsigned_delegation a n) ≡ true → (d : Bool) → is_unsigned_delegation b n ≡ d → not d ≡ true
      signed h true e = absurd (true≢false (sym (unsigned_back n off e) ∙ not_true (is_unsigned_delegation a n) h))
      signed h false e = refl

      by : (c d : Bool) → not (c && (d && is_unsigned_delegation a n)) ≡ true → not (c && (d && is_unsigned_delegation b n)) ≡ true
      by true true h = signed h (is_unsigned_delegation b n) refl
      by true false h = refl
      by false d h = refl

  -- what is at or below a name below the origin isn't the origin
  below_off : (n c : Name) → IsAbove origin n → IsAtOrAbove n c → name_eq c origin ≡ false
  below_off n c above at = by (name_eq c origin) refl
    where
      itself : (n ≡ c) ⊎ IsAbove n c → origin ≡ c → ⊥
      itself (inl e) q = irrefl name_order origin (ap (name_cmp origin) (q ∙ sym e) ∙ above_is_less origin n above)
      itself (inr h) q = asym name_order origin n (above_is_less origin n above) (ap (name_cmp n) q ∙ above_is_less n c h)

      by : (d : Bool) → name_eq c origin ≡ d → d ≡ false
      by true h = absurd (itself (above_cases n c at) (sym ((name_eq-Decides c origin).0 h)))
      by false h = refl

  named_kept : (opt_out : Bool) (n : Name) → IsNsec3Name origin a opt_out n → IsNsec3Name origin b opt_out n
  named_kept opt_out n (inl e) = inl e
  named_kept opt_out n (inr (above, (c, i, at))) =
      let counted = counted_kept opt_out c (below_off n c above at) (Contains-In c (counted_names origin a opt_out) i) in
      inr (above, (c, In-Contains c (counted_names origin b opt_out) counted, at))

  type_kept : (n : Name) (t : ℕ) → IsNsec3Type origin a n t → IsNsec3Type origin b n t
  type_kept n t (inl (h, ne)) = by ((t == NSEC3PARAM) && name_eq n origin) refl
    where
      other : (d : Bool) → (t == NSEC3) ≡ d → d ≡ false
      other true e = absurd (ne (eqb-true t NSEC3 e))
      other false e = refl

      by : (d : Bool) → (t == NSEC3PARAM) && name_eq n origin ≡ d → IsNsec3Type origin b n t
      by true e = inr (inr (eqb-true t NSEC3PARAM (and_left (t == NSEC3PARAM) (name_eq n origin) e), (name_eq-Decides n origin).0 (and_right (t == NSEC3PARAM) (name_eq n origin) e)))
      by false e = inl (same n t (other (t == NSEC3) refl) e ∙ h, ne)
  type_kept n t (inr (inl (e, inl at))) = inr (inl (e, inl at))
  type_kept n t (inr (inl (e, inr h))) = by (name_eq n origin) refl
    where
      by : (d : Bool) → name_eq n origin ≡ d → IsNsec3Type origin b n t
      by true q = inr (inl (e, inl ((name_eq-Decides n origin).0 q)))
      by false q = inr (inl (e, inr (besides_kept n q h)))
  type_kept n t (inr (inr h)) = inr (inr h)

-- ---- so the names and the types are the same

module _ (origin : Name) (m after : Sets) (same : OwnSameOthers origin m after) where
  same_back : OwnSameOthers origin after m
  same_back n t other off = sym (same n t other off)

  pub same_names : (opt_out : Bool) → nsec3_names origin after opt_out ≡ nsec3_names origin m opt_out
  same_names opt_out =
      ascending_same name_order (names after) (names m) (names_ascend origin after opt_out) (names_ascend origin m opt_out)
      (moved after m same_back)
      (moved m after same)
    where
      names : Sets → List Name
      names k = nsec3_names origin k opt_out

      moved : (a b : Sets) → OwnSameOthers origin a b → (n : Name) → In n (names a) → In n (names b)
      moved a b f n i = Contains-In n (names b) ((names_are_exact origin b opt_out n).1 (named_kept origin a b f opt_out n ((names_are_exact origin a opt_out n).0 (In-Contains n (names a) i))))

  pub same_types : (n : Name) → nsec3_types origin after n ≡ nsec3_types origin m n
  same_types n =
      ascending_same number_order (nsec3_types origin after n) (nsec3_types origin m n) (types_ascend origin after n) (types_ascend origin m n)
      (moved after m same_back)
      (moved m after same)
    where
      moved : (a b : Sets) → OwnSameOthers origin a b → (t : ℕ) → In t (nsec3_types origin a n) → In t (nsec3_types origin b n)
      moved a b f t i = Contains-In t (nsec3_types origin b n) ((types_are_exact origin b n t).1 (type_kept origin a b f n t ((types_are_exact origin a n t).0 (In-Contains t (nsec3_types origin a n) i))))
