-- Where a name stands between an owner of NSEC and its next name, on a chain of NSEC sets, no owner does
use Rattle.std.proofs.Common.{◌≡◌, Bool, true, false, ◌&&◌, ◌||◌, refl, sym, ap, ◌∙◌, ◌⊎◌, inl, inr, Less}
use Rattle.zone_proto.specs.Names.{Name, name_cmp, IsAtOrAbove, IsAbove}
use Rattle.zone_proto.specs.Order.{is_before, is_upto}
use Rattle.zone_proto.specs.Types.{NSEC}
use Rattle.zone_proto.proofs.Members.{and_left, and_right}
use Rattle.zone_proto.proofs.Names.NameTree.{above_is_less, is_at_or_above_complete}
use Rattle.zone_proto.proofs.Ordering.Orders.{less_test, Side, side, before, same, after, irrefl, asym, upto_cases, upto_before, upto_same, upto_from_not_before, before_from_upto}
use Rattle.zone_proto.proofs.Names.Tree.{name_order, together}
use Rattle.zone_map.specs.Zones.{Sets, owns}
use Rattle.zone_denial.specs.Covering.{covers}
use Rattle.zone_denial.specs.Chains.{IsNsecChain, next_owner}
use Rattle.zone_denial.proofs.Chain.NsecBelow.{above_at}
use Rattle.zone_denial.proofs.Chain.NsecCircle.{above_upto, NextIs, least_after, wraps}
use Rattle.zone_denial.proofs.Chains.NsecLinks.{origin_upto, next_is}
use Rattle.denial_laws.proofs.Tests.{either}

upto_through : (a b c : Name) → is_upto name_cmp a b ≡ true → is_upto name_cmp b c ≡ true → is_upto name_cmp a c ≡ true
upto_through a b c h k = by (upto_cases name_order b c k)
  where
    by : (b ≡ c) ⊎ (name_cmp b c ≡ Less) → is_upto name_cmp a c ≡ true
    by (inl e) = ap (is_upto name_cmp a) (sym e) ∙ h
    by (inr e) = upto_before name_order a c (before_from_upto name_order a b c h e)

-- a name comes after an owner and before its next name, or after the last owner, whose next name is the origin
pub record IsBetween (origin : Name) (m : Sets) (x o : Name) : Type 0 where
  pub on_chain : owns m o NSEC ≡ true
  pub after_owner : name_cmp o x ≡ Less
  pub before_next : (name_cmp x (next_owner origin m o) ≡ Less) ⊎ (next_owner origin m o ≡ origin)

module _ (origin : Name) (m : Sets) (h : IsNsecChain origin m) where
  -- an owner isn't before the origin
  not_before_origin : (w : Name) → owns m w NSEC ≡ true → name_cmp w origin ≡ Less → ⊥
  not_before_origin w k l = irrefl name_order origin (before_from_upto name_order origin w origin (origin_upto origin m h w k) l)

  -- what an owner and its next name cover, below the origin, stands between them
  pub between_from_covers : (x o : Name) → IsAbove origin x → owns m o NSEC ≡ true → covers name_cmp o (next_owner origin m o) x ≡ true → IsBetween origin m x o
  between_from_covers x o u k c = by (either (is_before name_cmp o x && is_before name_cmp x n) (is_upto name_cmp n o && (is_before name_cmp o x || is_before name_cmp x n)) c)
    where
      n : Name
      n = next_owner origin m o

      last : is_upto name_cmp n o ≡ true → NextIs origin m o n → n ≡ origin
      last l (wraps e none) = e
      last l (least_after a b none) = absurd (irrefl name_order o (before_back (upto_cases name_order n o l)))
        where
          before_back : (n ≡ o) ⊎ (name_cmp n o ≡ Less) → name_cmp o o ≡ Less
          before_back (inl e) = ap (name_cmp o) (sym e) ∙ b
          before_back (inr e) = absurd (asym name_order o n b e)

      around : (n ≡ origin) → (is_before name_cmp o x ≡ true) ⊎ (is_before name_cmp x n ≡ true) → name_cmp o x ≡ Less
      around e (inl l) = less_test (name_cmp o x) l
      around e (inr l) = absurd (asym name_order origin x (above_is_less origin x u) (ap (name_cmp x) (sym e) ∙ less_test (name_cmp x n) l))

      by : (is_before name_cmp o x && is_before name_cmp x n ≡ true) ⊎ (is_upto name_cmp n o && (is_before name_cmp o x || is_before name_cmp x n) ≡ true) → IsBetween origin m x o
      by (inl l) = record {
        on_chain = k;
        after_owner = less_test (name_cmp o x) (and_left (is_before name_cmp o x) (is_before name_cmp x n) l);
        before_next = inl (less_test (name_cmp x n) (and_right (is_before name_cmp o x) (is_before name_cmp x n) l));
      }
      by (inr l) =
          let e = last (and_left (is_upto name_cmp n o) (is_before name_cmp o x || is_before name_cmp x n) l) (next_is origin m h o) in
          record {
            on_chain = k;
            after_owner = around e (either (is_before name_cmp o x) (is_before name_cmp x n) (and_right (is_upto name_cmp n o) (is_before name_cmp o x || is_before name_cmp x n) l));
            before_next = inr e;
          }

  module _ (x o : Name) (b : IsBetween origin m x o) where
    abbrev n : Name
    n = next_owner origin m o

    -- another owner isn't after o, or isn't before the next name, which is then after x
    pub gap : (w : Name) → owns m w NSEC ≡ true → (is_upto name_cmp w o ≡ true) ⊎ ((name_cmp x n ≡ Less) × (is_upto name_cmp n w ≡ true))
    gap w k = by (side name_order o w) (next_is origin m h o)
      where
        by : Side name_cmp o w → NextIs origin m o n → (is_upto name_cmp w o ≡ true) ⊎ ((name_cmp x n ≡ Less) × (is_upto name_cmp n w ≡ true))
        by (same e) next = inl (upto_same name_order w o (sym e))
        by (after e) next = inl (upto_before name_order w o e)
        by (before e) (wraps q none) = absurd (none w k e)
        by (before e) (least_after a l none) = inr (past b.before_next, upto_from_not_before name_order n w (none w k e))
          where
            past : (name_cmp x n ≡ Less) ⊎ (n ≡ origin) → name_cmp x n ≡ Less
            past (inl p) = p
            past (inr p) = absurd (not_before_origin o b.on_chain (ap (name_cmp o) (sym p) ∙ l))

    -- an owner at or below an ancestor of x has that ancestor above o or its next name
    pub owner_near : (g w : Name) → IsAbove g x → owns m w NSEC ≡ true → IsAtOrAbove g w → IsAtOrAbove g o ⊎ IsAtOrAbove g n
    owner_near g w a k u = by (gap w k)
      where
        upto_owner : is_upto name_cmp g w ≡ true
        upto_owner = above_upto g w (is_at_or_above_complete g w u)

        by : (is_upto name_cmp w o ≡ true) ⊎ ((name_cmp x n ≡ Less) × (is_upto name_cmp n w ≡ true)) → IsAtOrAbove g o ⊎ IsAtOrAbove g n
        by (inl l) = inl (together g o x (upto_through g w o upto_owner l) (upto_before name_order o x b.after_owner) (above_at g x a))
        by (inr (l, v)) = inr (together g n w (upto_before name_order g n (name_order.total.trans g x n (above_is_less g x a) l)) v u)

    -- with an owner at or below x, the next name is after x, and at or below it too
    pub owner_below : (w : Name) → owns m w NSEC ≡ true → IsAtOrAbove x w → (name_cmp x n ≡ Less) × IsAtOrAbove x n
    owner_below w k u = by (gap w k)
      where
        by : (is_upto name_cmp w o ≡ true) ⊎ ((name_cmp x n ≡ Less) × (is_upto name_cmp n w ≡ true)) → (name_cmp x n ≡ Less) × IsAtOrAbove x n
        by (inl l) = absurd (irrefl name_order x (before_from_upto name_order x o x (upto_through x w o (above_upto x w (is_at_or_above_complete x w u)) l) b.after_owner))
        by (inr (l, v)) = (l, together x n w (upto_before name_order x n l) v u)

    -- so x is no owner
    pub off_chain : owns m x NSEC ≡ false
    off_chain = by (owns m x NSEC) refl
      where
        back : (is_upto name_cmp x o ≡ true) ⊎ ((name_cmp x n ≡ Less) × (is_upto name_cmp n x ≡ true)) → ⊥
        back (inl l) = irrefl name_order x (before_from_upto name_order x o x l b.after_owner)
        back (inr (l, v)) = irrefl name_order n (before_from_upto name_order n x n v l)

        by : (q : Bool) → owns m x NSEC ≡ q → q ≡ false
        by true k = absurd (back (gap x k))
        by false k = refl
