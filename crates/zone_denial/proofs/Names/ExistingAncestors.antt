-- The closest encloser that a circle has for a name, and the name's longest ancestor that exists
use Rattle.std.proofs.Common.{◌≡◌, ℕ, Bool, true, false, cond, not, ◌&&◌, ◌||◌, [], ◌∷◌, refl, sym, ap, ◌∙◌, true≢false, ◌⊎◌, inl, inr}
use Rattle.std.specs.Prelude.{None, filter, option_map, ◌==◌}
use Rattle.std.specs.Cmp.{both_ways}
use Rattle.std.specs.Map.{keys_of}
use Rattle.zone_proto.specs.declared.rr_key.RrKey.{RrKey}
use Rattle.zone_proto.specs.Keys.{key}
use Rattle.zone_proto.specs.Names.{Name, asterisk_label, is_above, is_at_or_above, IsAbove, IsAtOrAbove, is_wildcard, wildcard_under}
use Rattle.zone_proto.specs.Sets.{RRset}
use Rattle.zone_proto.specs.Types.{NS}
use Rattle.zone_proto.proofs.Members.{In-filter, In-from_filter, In-from_any, any_from_In, In-map, In-from_map, none_passes, and_left, and_right, not_true}
use Rattle.zone_proto.proofs.Names.NameTree.{above_test, above_is_less, is_at_or_above_sound, is_at_or_above_complete}
use Rattle.zone_proto.proofs.Ordering.Orders.{IsTop, has_greatest}
use Rattle.zone_proto.proofs.Names.Tree.{name_order, above_cases}
use Rattle.zone_map.specs.Upserts.{is_denial_type}
use Rattle.zone_map.specs.Wildcards.{exists, asked_wildcard, closest_encloser}
use Rattle.zone_map.specs.Zones.{Sets, owns, owners, names_of, owns_at_or_below}
use Rattle.zone_map.proofs.Owned.{has_entry, entry_owned, owner_in, owner_owned, name_in}
use Rattle.zone_denial.specs.Authority.{is_below_cut, owns_besides, is_authoritative}
use Rattle.zone_denial.proofs.Names.AuthoritativeNames.{authoritative_from, besides_from, from_besides}
use Rattle.zone_denial.proofs.InOrder.{flipped}
use Rattle.zone_denial.proofs.Names.LongestAncestors.{above_below, above_above, above_shorter, IsLongestAbove, others_above}
use Rattle.zone_denial.proofs.Chain.NsecBelow.{above_at, above_through, comparable}

-- ---- which names exist

module _ (m : Sets) where
  abbrev shows : Name → RrKey → Bool
  shows n k = is_at_or_above n k.name && not (is_denial_type k.record_type.0)

  pub exists_from : (n d : Name) (t : ℕ) → owns m d t ≡ true → is_denial_type t ≡ false → IsAtOrAbove n d → exists m n ≡ true
  exists_from n d t k o u =
      let e = has_entry m d t k in
      any_from_In (shows n) (key d t) (keys_of m) (In-map (λ (e : RrKey × RRset). e.0) (key d t, e.0) m e.1) (λ i. is_at_or_above_complete n d u i && not (o i))

  pub from_exists : (n : Name) → exists m n ≡ true → (d : Name) × (t : ℕ) × (owns m d t ≡ true) × (is_denial_type t ≡ false) × IsAtOrAbove n d
  from_exists n e =
      let r = In-from_any (shows n) (keys_of m) e in
      let s = In-from_map (λ (e : RrKey × RRset). e.0) r.0 m r.1 in (
        r.0.name,
        r.0.record_type.0,
        entry_owned m r.0.name r.0.record_type.0 s.0 s.1 s.2,
        not_true (is_denial_type r.0.record_type.0) (and_right (is_at_or_above n r.0.name) (not (is_denial_type r.0.record_type.0)) r.2),
        is_at_or_above_sound n r.0.name (and_left (is_at_or_above n r.0.name) (not (is_denial_type r.0.record_type.0)) r.2),
      )

  -- what exists owns a set, or has a name below it that does
  pub unowned_absent : (n : Name) → owns_at_or_below m n ≡ false → exists m n ≡ false
  unowned_absent n none = by (exists m n) refl
    where
      by : (b : Bool) → exists m n ≡ b → b ≡ false
      by false e = refl
      by true e =
          let r = from_exists n e in
          absurd (none_passes (is_at_or_above n) r.0 (names_of m) none (name_in m r.0 r.1 r.2) (is_at_or_above_complete n r.0 r.4))

-- the wildcard at the closest encloser of a name below another
pub asked_is : (m : Sets) (o x : Name) → IsAbove o x → is_wildcard x ≡ false → exists m x ≡ false → asked_wildcard m x ≡ option_map wildcard_under (closest_encloser m x)
asked_is m o [] (l, f, e) s h = absurd cc
asked_is m o (k ∷ ks) u s h = λ i. cond (s i || h i) None (option_map wildcard_under (closest_encloser m (k ∷ ks)))

-- ---- authoritative names

module _ (origin : Name) (m : Sets) (c : ℕ) where
  abbrev cuts : Name → Name → Bool
  cuts d a = is_above origin a && is_above a d

  rest : (d : Name) → is_authoritative origin m c d ≡ true → owns_besides m c d && not (is_below_cut origin m d) ≡ true
  rest d h = and_right (is_at_or_above origin d) (owns_besides m c d && not (is_below_cut origin m d)) h

  authority_in : (d : Name) → is_authoritative origin m c d ≡ true → IsAtOrAbove origin d
  authority_in d h = is_at_or_above_sound origin d (and_left (is_at_or_above origin d) (owns_besides m c d && not (is_below_cut origin m d)) h)

  authority_uncut : (d : Name) → is_authoritative origin m c d ≡ true → is_below_cut origin m d ≡ false
  authority_uncut d h = not_true (is_below_cut origin m d) (and_right (owns_besides m c d) (not (is_below_cut origin m d)) (rest d h))

  authority_owns : (d : Name) → is_authoritative origin m c d ≡ true → (t : ℕ) × (not (t == c) ≡ true) × (owns m d t ≡ true)
  authority_owns d h = from_besides m c d (and_left (owns_besides m c d) (not (is_below_cut origin m d)) (rest d h))

  cut_by : (a d : Name) → IsAbove origin a → owns m a NS ≡ true → IsAbove a d → is_below_cut origin m d ≡ true
  cut_by a d o k u = any_from_In (cuts d) a (owners m NS) (owner_in m a NS k) (λ i. (above_test origin a).1 o i && (above_test a d).1 u i)

  -- an authoritative name strictly below the origin that owns NS
  pub record IsCut (a : Name) : Type 0 where
    pub authoritative : is_authoritative origin m c a ≡ true
    pub below : IsAbove origin a
    pub delegates : owns m a NS ≡ true

  -- a name of the zone that owns another type is authoritative, or is below a cut: the topmost one above it
  data Reached (d : Name) : Type 0 where
    itself : is_authoritative origin m c d ≡ true → Reached d
    by_cut : (a : Name) → IsCut a → IsAbove a d → Reached d

  module _ (no_cut_type : not (NS == c) ≡ true) where
    reached : (d : Name) (t : ℕ) → IsAtOrAbove origin d → owns m d t ≡ true → not (t == c) ≡ true → Reached d
    reached d t inside k o = by (is_below_cut origin m d) refl
      where
        topmost : (a : Name) → IsAbove a d → IsTop (flipped name_order) (filter (cuts d) (owners m NS)) a → (b : Bool) → is_below_cut origin m a ≡ b → b ≡ false
        topmost a v top false q = refl
        topmost a v top true q =
            let s = In-from_any (cuts a) (owners m NS) q in
            let w = (above_test s.0 a).0 (and_right (is_above origin s.0) (is_above s.0 a) s.2) in
            absurd
            (top.none_greater s.0 (In-filter (cuts d) s.0 (owners m NS) s.1 (λ i. and_left (is_above origin s.0) (is_above s.0 a) s.2 i && (above_test s.0 d).1 (above_below s.0 a d w (above_at a d v)) i)) (above_is_less s.0 a w))

        by : (b : Bool) → is_below_cut origin m d ≡ b → Reached d
        by false e = itself (authoritative_from origin m c d (is_at_or_above_complete origin d inside) (besides_from m c d t o k) e)
        by true e =
            let r = In-from_any (cuts d) (owners m NS) e in
            let g = has_greatest (flipped name_order) (filter (cuts d) (owners m NS)) r.0 (In-filter (cuts d) r.0 (owners m NS) r.1 r.2) in
            let i = In-from_filter (cuts d) g.0 (owners m NS) g.2.among in
            let u = (above_test origin g.0).0 (and_left (is_above origin g.0) (is_above g.0 d) i.1) in
            let v = (above_test g.0 d).0 (and_right (is_above origin g.0) (is_above g.0 d) i.1) in
            let w = owner_owned m g.0 NS i.0 in
            by_cut g.0
            (record {
              authoritative = authoritative_from origin m c g.0 (is_at_or_above_complete origin g.0 (above_at origin g.0 u)) (besides_from m c g.0 NS no_cut_type w) (topmost g.0 v g.2 (is_below_cut origin m g.0) refl);
              below = u;
              delegates = w;
            })
            v

-- ---- the two enclosers

-- a circle of denials of type c: the zone has no other denials, and P tells which names may be enclosers
pub record IsEncloserTest (origin : Name) (m : Sets) (c : ℕ) (P : Name → Bool) : Type 0 where
  pub no_cut_type : not (NS == c) ≡ true
  pub shown : (n : Name) (t : ℕ) → owns m n t ≡ true → not (t == c) ≡ true → is_denial_type t ≡ false
  pub counts : (t : ℕ) → is_denial_type t ≡ false → not (t == c) ≡ true
  pub from : (a b : Name) → IsAtOrAbove origin a → is_authoritative origin m c b ≡ true → IsAtOrAbove a b → P a ≡ true
  pub to : (a : Name) → P a ≡ true → (a ≡ origin) ⊎ ((b : Name) × (is_authoritative origin m c b ≡ true) × IsAtOrAbove a b)
  pub origin_passes : P origin ≡ true
  pub origin_there : exists m origin ≡ true

module _ (origin : Name) (m : Sets) (c : ℕ) (P : Name → Bool) (test : IsEncloserTest origin m c P) where
  -- a name at or above an authoritative one exists
  pub above_authority : (a b : Name) → is_authoritative origin m c b ≡ true → IsAtOrAbove a b → exists m a ≡ true
  above_authority a b h u = let t = authority_owns origin m c b h in exists_from m a b t.0 t.2 (test.shown b t.0 t.2 t.1) u

  -- at or below a name of the zone that exists an authoritative name stands, or a cut above it
  data Below (e : Name) : Type 0 where
    on : (a : Name) → is_authoritative origin m c a ≡ true → IsAtOrAbove e a → Below e
    over : (a : Name) → IsCut origin m c a → IsAbove a e → Below e

  below : (e : Name) → IsAtOrAbove origin e → exists m e ≡ true → Below e
  below e u h = by (from_exists m e h)
    where
      by : (d : Name) × (t : ℕ) × (owns m d t ≡ true) × (is_denial_type t ≡ false) × IsAtOrAbove e d → Below e
      by (d, t, k, o, v) = of (reached origin m c test.no_cut_type d t (above_through origin e d u v) k (test.counts t o))
        where
          of : Reached origin m c d → Below e
          of (itself s) = on d s v
          of (by_cut a s (l, f, q)) = side (comparable v.0 (l ∷ f) e a (sym v.1 ∙ q))
            where
              above : (a ≡ e) ⊎ IsAbove a e → Below e
              above (inl p) = on a s.authoritative ([], p)
              above (inr p) = over a s p

              side : IsAtOrAbove e a ⊎ IsAtOrAbove a e → Below e
              side (inl r) = on a s.authoritative r
              side (inr r) = above (above_cases a e r)

  -- where no zone cut is above a name of the zone, it exists exactly where it passes
  pub exists_as_passes : (e : Name) → IsAtOrAbove origin e → is_below_cut origin m e ≡ false → exists m e ≡ P e
  exists_as_passes e u uncut = both_ways (exists m e) (P e) (λ h. of (below e u h)) (λ h. there (test.to e h))
    where
      of : Below e → P e ≡ true
      of (on a k v) = test.from e a u k v
      of (over a k v) = absurd (true≢false (sym (cut_by origin m c a e k.below k.delegates v) ∙ uncut))

      there : (e ≡ origin) ⊎ ((b : Name) × (is_authoritative origin m c b ≡ true) × IsAtOrAbove e b) → exists m e ≡ true
      there (inl q) = ap (exists m) q ∙ test.origin_there
      there (inr (b, k, v)) = above_authority e b k v

  -- of a name x below the origin, e is the longest existing ancestor and a is the closest encloser of the circle
  module _ (x e a : Name) (u : IsAbove origin x) (there : IsLongestAbove (exists m) x e) (encloses : IsLongestAbove P x a) where
    pub encloser_in : IsAtOrAbove origin a
    encloser_in = others_above P x a origin encloses u test.origin_passes

    encloser_there : exists m a ≡ true
    encloser_there = by (test.to a encloses.passes)
      where
        by : (a ≡ origin) ⊎ ((b : Name) × (is_authoritative origin m c b ≡ true) × IsAtOrAbove a b) → exists m a ≡ true
        by (inl q) = ap (exists m) q ∙ test.origin_there
        by (inr (b, k, v)) = above_authority a b k v

    -- they are one name, or a cut is above the former
    data Enclosers : Type 0 where
      one : a ≡ e → Enclosers
      apart : (d : Name) → IsCut origin m c d → IsAbove d e → Enclosers

    enclosers : Enclosers
    enclosers = by (above_cases a e (others_above (exists m) x e a there encloses.above encloser_there))
      where
        inside : IsAtOrAbove origin e
        inside = others_above (exists m) x e origin there u test.origin_there

        by : (a ≡ e) ⊎ IsAbove a e → Enclosers
        by (inl q) = one q
        by (inr w) = of (below e inside there.passes)
          where
            of : Below e → Enclosers
            of (on d k v) = absurd (true≢false (sym (test.from e d inside k v) ∙ encloses.longest e there.above (above_shorter a e w)))
            of (over d k v) = apart d k v

    -- where no cut is above x, they are one
    pub same_encloser : is_below_cut origin m x ≡ false → a ≡ e
    same_encloser uncut = by enclosers
      where
        by : Enclosers → a ≡ e
        by (one q) = q
        by (apart d k v) = absurd (true≢false (sym (cut_by origin m c d x k.below k.delegates (above_below d e x v (above_at e x there.above))) ∙ uncut))

    -- where the wildcard at e doesn't exist, no authoritative name is at or below the wildcard at a
    pub no_wildcard_name : exists m (wildcard_under e) ≡ false → (b : Name) → is_authoritative origin m c b ≡ true → IsAtOrAbove (wildcard_under a) b → ⊥
    no_wildcard_name gone b h s = by enclosers
      where
        by : Enclosers → ⊥
        by (one q) = true≢false (sym (above_authority (wildcard_under a) b h s) ∙ ap (λ n. exists m (wildcard_under n)) q ∙ gone)
        by (apart d k v) =
            let up = above_below d e x v (above_at e x there.above) in
            let w = others_above P x a d encloses up (test.from d d (above_at origin d k.below) k.authoritative ([], refl)) in
            true≢false (sym (cut_by origin m c d b k.below k.delegates (above_below d (wildcard_under a) b (above_above d a (wildcard_under a) w (asterisk_label, [], refl)) s)) ∙ authority_uncut origin m c b h)
