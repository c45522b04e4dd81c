-- What the next name of a denial by a chain of NSEC sets says of the names below the denied one
use Rattle.std.proofs.Common.{◌≡◌, ℕ, Bool, true, false, ◌&&◌, List, [], refl, sym, ap, ◌∙◌, subst, true≢false, ◌⊎◌, inl, inr, Less}
use Rattle.std.specs.Prelude.{filter}
use Rattle.zone_proto.specs.Names.{Name, name_cmp, is_above, is_at_or_above, IsAbove, IsAtOrAbove}
use Rattle.zone_proto.specs.Order.{is_upto}
use Rattle.zone_proto.specs.Types.{NS, NSEC, DNAME}
use Rattle.zone_proto.proofs.Members.{In, In-filter, In-from_filter, In-from_any, none_passes, and_left, and_right}
use Rattle.zone_proto.proofs.Names.NameTree.{above_test, above_is_less, is_at_or_above_sound, is_at_or_above_complete}
use Rattle.zone_proto.proofs.Ordering.Orders.{IsTop, has_greatest, irrefl, asym, upto_cases, upto_before, upto_from_not_before}
use Rattle.zone_proto.proofs.Names.Tree.{name_order, above_cases, together}
use Rattle.zone_map.specs.Zones.{Sets, owns, owners, types_at, names_of, owns_at_or_below}
use Rattle.zone_map.proofs.Owned.{owner_in, owner_owned, name_in, name_owned, type_in}
use Rattle.zone_denial.specs.Authority.{is_below_cut}
use Rattle.zone_denial.specs.ChainLaws.{ChainNoNextBelowAbsent, ChainNextBelowEmpty}
use Rattle.zone_denial.specs.Chains.{is_below_dname, IsNsecChain, next_owner}
use Rattle.zone_denial.proofs.InOrder.{flipped}
use Rattle.zone_denial.proofs.Names.AuthoritativeNames.{authoritative_from, besides_alone}
use Rattle.zone_denial.proofs.Names.LongestAncestors.{above_above}
use Rattle.zone_denial.proofs.Chain.NsecBelow.{above_at, above_through, comparable}
use Rattle.zone_denial.proofs.Chain.NsecCircle.{NextIs, least_after, wraps}
use Rattle.zone_denial.proofs.Chain.NsecLists.{owner_elsewhere, off_circle}
use Rattle.zone_denial.proofs.Chains.NsecClosest.{IsClosest, closest_is, closest_before, last_covers}
use Rattle.zone_denial.proofs.Chains.NsecLinks.{next_is, next_owned}

-- ---- where nothing is owned at x and below it, the next name isn't there either, since it is an owner

pub no_next_below : ChainNoNextBelowAbsent
no_next_below origin m h x inside none =
    let c = closest_is origin m h x inside in
    (next_owner origin m c.0, last_covers origin m h x c.0 c.2 c.1 (off_circle m x none), owner_elsewhere m x (next_owner origin m c.0) NSEC none (next_owned origin m h c.0))

-- ---- names at or above which nothing refers elsewhere

pub record IsOpen (origin : Name) (m : Sets) (e : Name) : Type 0 where
  pub no_cut : (a : Name) → IsAtOrAbove a e → is_above origin a ≡ true → owns m a NS ≡ false
  pub no_dname : (a : Name) → IsAtOrAbove a e → owns m a DNAME ≡ false

module _ (origin : Name) (m : Sets) (x : Name) (uncut : is_below_cut origin m x ≡ false) (plain : is_below_dname m x ≡ false) where
  not_owned : (a : Name) (t : ℕ) → (owns m a t ≡ true → ⊥) → owns m a t ≡ false
  not_owned a t h = by (owns m a t) refl
    where
      by : (b : Bool) → owns m a t ≡ b → b ≡ false
      by true e = absurd (h e)
      by false e = refl

  no_cut_above : (a : Name) → IsAbove a x → is_above origin a ≡ true → owns m a NS ≡ false
  no_cut_above a u below = not_owned a NS (λ k. none_passes (λ a. is_above origin a && is_above a x) a (owners m NS) uncut (owner_in m a NS k) (λ i. below i && (above_test a x).1 u i))

  no_dname_above : (a : Name) → IsAbove a x → owns m a DNAME ≡ false
  no_dname_above a u = not_owned a DNAME (λ k. none_passes (λ a. is_above a x) a (owners m DNAME) plain (owner_in m a DNAME k) ((above_test a x).1 u))

  -- the ancestors of a name that is below no zone cut and no DNAME
  pub open_above : (e : Name) → IsAbove e x → IsOpen origin m e
  open_above e u = record { no_cut = λ a v. no_cut_above a (above_above a e x v u); no_dname = λ a v. no_dname_above a (above_above a e x v u) }

  -- and itself where it owns neither
  pub open_itself : owns m x NS ≡ false → owns m x DNAME ≡ false → IsOpen origin m x
  open_itself ns dname = record { no_cut = λ a v k. of a v (above_cases a x v) k; no_dname = λ a v. of_dname a (above_cases a x v) }
    where
      of : (a : Name) → IsAtOrAbove a x → (a ≡ x) ⊎ IsAbove a x → is_above origin a ≡ true → owns m a NS ≡ false
      of a v (inl e) k = ap (λ n. owns m n NS) e ∙ ns
      of a v (inr u) k = no_cut_above a u k

      of_dname : (a : Name) → (a ≡ x) ⊎ IsAbove a x → owns m a DNAME ≡ false
      of_dname a (inl e) = ap (λ n. owns m n DNAME) e ∙ dname
      of_dname a (inr u) = no_dname_above a u

-- of the names at or below one of these that pass a test, each of which owns a set, the first is below no zone cut and
-- no DNAME, if those pass
module _ (origin : Name) (m : Sets) (p : Name → Bool) (cuts : (a : Name) → owns m a NS ≡ true → p a ≡ true) (dnames : (a : Name) → owns m a DNAME ≡ true → p a ≡ true) (e : Name) (open_at : IsOpen origin m e) where
  abbrev below : List Name
  below = filter (λ n. is_at_or_above e n && p n) (names_of m)

  below_in : (a : Name) (t : ℕ) → owns m a t ≡ true → IsAtOrAbove e a → p a ≡ true → In a below
  below_in a t k u q = In-filter (λ n. is_at_or_above e n && p n) a (names_of m) (name_in m a t k) (λ i. is_at_or_above_complete e a u i && q i)

  pub record IsFirstBelow (z : Name) : Type 0 where
    pub among : In z (names_of m)
    pub under : IsAtOrAbove e z
    pub passes : p z ≡ true
    pub uncut : is_below_cut origin m z ≡ false
    pub plain : is_below_dname m z ≡ false

  pub first_below : (a : Name) (t : ℕ) → owns m a t ≡ true → IsAtOrAbove e a → p a ≡ true → (z : Name) × IsFirstBelow z
  first_below a t k u q =
      let g = has_greatest (flipped name_order) below a (below_in a t k u q) in
      let i = In-from_filter (λ n. is_at_or_above e n && p n) g.0 (names_of m) g.2.among in
      let under = is_at_or_above_sound e g.0 (and_left (is_at_or_above e g.0) (p g.0) i.1) in (
        g.0,
        record {
          among = i.0;
          under = under;
          passes = and_right (is_at_or_above e g.0) (p g.0) i.1;
          uncut = no_cut g.0 g.2 under (is_below_cut origin m g.0) refl;
          plain = no_dname g.0 g.2 under (is_below_dname m g.0) refl;
        },
      )
    where
      sides : (z a : Name) → IsAtOrAbove e z → IsAbove a z → IsAtOrAbove e a ⊎ IsAtOrAbove a e
      sides z a u v = let w = above_at a z v in comparable u.0 w.0 e a (sym u.1 ∙ w.1)

      -- another that passes doesn't are above the first
      none_above : (z a : Name) (t : ℕ) → IsTop (flipped name_order) below z → IsAbove a z → owns m a t ≡ true → p a ≡ true → IsAtOrAbove e a → ⊥
      none_above z a t g v k q u = g.none_greater a (below_in a t k u q) (above_is_less a z v)

      no_cut : (z : Name) → IsTop (flipped name_order) below z → IsAtOrAbove e z → (b : Bool) → is_below_cut origin m z ≡ b → b ≡ false
      no_cut z g under false q = refl
      no_cut z g under true q =
          let r = In-from_any (λ a. is_above origin a && is_above a z) (owners m NS) q in
          let k = owner_owned m r.0 NS r.1 in
          let v = (above_test r.0 z).0 (and_right (is_above origin r.0) (is_above r.0 z) r.2) in
          absurd (by r.0 k (and_left (is_above origin r.0) (is_above r.0 z) r.2) v (sides z r.0 under v))
        where
          by : (a : Name) → owns m a NS ≡ true → is_above origin a ≡ true → IsAbove a z → IsAtOrAbove e a ⊎ IsAtOrAbove a e → ⊥
          by a k o v (inl u) = none_above z a NS g v k (cuts a k) u
          by a k o v (inr u) = true≢false (sym k ∙ open_at.no_cut a u o)

      no_dname : (z : Name) → IsTop (flipped name_order) below z → IsAtOrAbove e z → (b : Bool) → is_below_dname m z ≡ b → b ≡ false
      no_dname z g under false q = refl
      no_dname z g under true q =
          let r = In-from_any (λ a. is_above a z) (owners m DNAME) q in
          let v = (above_test r.0 z).0 r.2 in
          absurd (by r.0 (owner_owned m r.0 DNAME r.1) v (sides z r.0 under v))
        where
          by : (a : Name) → owns m a DNAME ≡ true → IsAbove a z → IsAtOrAbove e a ⊎ IsAtOrAbove a e → ⊥
          by a k v (inl u) = none_above z a DNAME g v k (dnames a k) u
          by a k v (inr u) = true≢false (sym k ∙ open_at.no_dname a u)

module _ (origin : Name) (m : Sets) (h : IsNsecChain origin m) where
  -- with a set at or below a name where nothing refers elsewhere, an owner of NSEC is there
  pub owner_under : (e : Name) → is_at_or_above origin e ≡ true → IsOpen origin m e → owns_at_or_below m e ≡ true → (z : Name) × (owns m z NSEC ≡ true) × IsAtOrAbove e z
  owner_under e inside open_at some =
      let r = In-from_any (is_at_or_above e) (names_of m) some in
      let t = name_owned m r.0 r.1 in
      let z = first_below origin m (λ n. true) (λ a k. refl) (λ a k. refl) e open_at r.0 t.0 t.1 (is_at_or_above_sound e r.0 r.2) refl in
      (z.0, on z.0 z.1, z.1.under)
    where
      on : (z : Name) → IsFirstBelow origin m (λ n. true) (λ a k. refl) (λ a k. refl) e open_at z → owns m z NSEC ≡ true
      on z f = by (owns m z NSEC) refl
        where
          by : (b : Bool) → owns m z NSEC ≡ b → b ≡ true
          by true q = refl
          by false q =
              let t = name_owned m z f.among in
              let within = is_at_or_above_complete origin z (above_through origin e z (is_at_or_above_sound origin e inside) f.under) in
              of (h.complete z (authoritative_from origin m NSEC z within (besides_alone m NSEC z t.0 t.1 q) f.uncut))
            where
              of : (owns m z NSEC ≡ true) ⊎ (is_below_dname m z ≡ true) → false ≡ true
              of (inl k) = sym q ∙ k
              of (inr d) = absurd (true≢false (sym d ∙ f.plain))

-- ---- an empty non-terminal with an owner below it, and neither zone cut nor DNAME above it

module _ (origin : Name) (m : Sets) (h : IsNsecChain origin m) (x : Name) (inside : is_at_or_above origin x ≡ true) (empty : types_at m x ≡ []) where
  owns_none : (t : ℕ) → owns m x t ≡ false
  owns_none t = by (owns m x t) refl
    where
      by : (b : Bool) → owns m x t ≡ b → b ≡ false
      by true k = absurd (subst (In t) empty (type_in m x t k))
      by false k = refl

  -- an owner of NSEC below it makes the closest owner's next name are below it: that is past x and not past the owner,
  -- and descendants stand together
  module _ (d : Name) (on : owns m d NSEC ≡ true) (over : IsAbove x d) where
    next_below : (o : Name) → IsClosest origin m x o → is_above x (next_owner origin m o) ≡ true
    next_below o c = by (next_is origin m h o)
      where
        n : Name
        n = next_owner origin m o

        before_owner : name_cmp o d ≡ Less
        before_owner = name_order.total.trans o x d (closest_before origin m x o c (owns_none NSEC)) (above_is_less x d over)

        past : name_cmp o n ≡ Less → (name_cmp x n ≡ Less) ⊎ (is_upto name_cmp n o ≡ true) → name_cmp x n ≡ Less
        past l (inl e) = e
        past l (inr e) = back (upto_cases name_order n o e)
          where
            back : (n ≡ o) ⊎ (name_cmp n o ≡ Less) → name_cmp x n ≡ Less
            back (inl q) = absurd (irrefl name_order o (ap (name_cmp o) (sym q) ∙ l))
            back (inr q) = absurd (asym name_order o n l q)

        strictly : name_cmp x n ≡ Less → (x ≡ n) ⊎ IsAbove x n → is_above x n ≡ true
        strictly p (inl e) = absurd (irrefl name_order x (ap (name_cmp x) e ∙ p))
        strictly p (inr a) = (above_test x n).1 a

        by : NextIs origin m o n → is_above x n ≡ true
        by (wraps e none) = absurd (none d on before_owner)
        by (least_after k l none) =
            let p = past l c.past in
            let u = upto_from_not_before name_order n d (none d on before_owner) in
            strictly p (above_cases x n (together x n d (upto_before name_order x n p) u (above_at x d over)))

pub next_below_empty : ChainNextBelowEmpty
next_below_empty origin m h x inside empty some uncut plain =
    let open_at = open_itself origin m x uncut plain (owns_none origin m h x inside empty NS) (owns_none origin m h x inside empty DNAME) in
    let z = owner_under origin m h x inside open_at some in
    let c = closest_is origin m h x inside in (
      next_owner origin m c.0,
      last_covers origin m h x c.0 c.2 c.1 (owns_none origin m h x inside empty NSEC),
      next_below origin m h x inside empty z.0 z.1 (over z.0 z.1 (above_cases x z.0 z.2)) c.0 c.2,
    )
  where
    over : (z : Name) → owns m z NSEC ≡ true → (x ≡ z) ⊎ IsAbove x z → IsAbove x z
    over z on (inl e) = absurd (true≢false (sym on ∙ ap (λ n. owns m n NSEC) (sym e) ∙ owns_none origin m h x inside empty NSEC))
    over z on (inr u) = u
