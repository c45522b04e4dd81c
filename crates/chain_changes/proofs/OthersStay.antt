-- The NSEC set of each name that isn't renewed stays
use Rattle.std.proofs.Common.{◌≡◌, ℕ, Bool, true, false, ◌&&◌, ◌||◌, cond, List, [], ◌∷◌, refl, sym, ap, ◌∙◌, subst, true≢false, ◌⊎◌, inl, inr, Ordering, Less, Equal, Greater, is_lt}
use Rattle.std.specs.Option.{option_map_or}
use Rattle.std.specs.Prelude.{Option, Some, None, filter, ◌==◌}
use Rattle.std.specs.List.{list_any}
use Rattle.std.specs.Ordering.{ordering_reverse}
use Rattle.zone_proto.specs.declared.rr_key.RrKey.{RrKey}
use Rattle.zone_proto.specs.Keys.{key, key_eq}
use Rattle.zone_proto.specs.Names.{Name, name_cmp, name_eq, is_above, is_at_or_above, IsAbove}
use Rattle.zone_proto.specs.Order.{is_before, is_upto}
use Rattle.zone_proto.specs.Types.{NS, NSEC}
use Rattle.zone_proto.proofs.Members.{In, In-filter, In-from_filter, In-from_any, any_from_In, none_passes, and_left, and_right, or_left, or_right}
use Rattle.zone_proto.proofs.Names.NameTree.{name_eq-Decides, above_is_less, is_at_or_above_sound, is_at_or_above_complete}
use Rattle.zone_proto.proofs.Names.Tree.{name_order, name_eq_itself, above_cases, together}
use Rattle.zone_proto.proofs.Ordering.KeyOrder.{key_same}
use Rattle.zone_proto.proofs.Ordering.Orders.{less_test, upto_before, upto_same, upto_cases, upto_from_not_before, greatest_is, greatest_none}
use Rattle.zone_map.specs.Zones.{Sets, owns, owners, names_of}
use Rattle.zone_map.proofs.Owned.{name_in, owner_in, owner_owned}
use Rattle.zone_denial.specs.Authority.{is_authoritative, owns_besides}
use Rattle.zone_denial.specs.NsecCircle.{nsec_next}
use Rattle.zone_denial.specs.NsecSets.{nsec_set, nsec_set_at}
use Rattle.zone_denial.proofs.Names.AuthoritativeNames.{from_besides}
use Rattle.chain_changes.specs.Locality.{OwnsSame, HasSameCuts, HasSameNext, CameOrWent, Stays}
use Rattle.update_in_place.specs.Parts.{is_among}
use Rattle.chain_changes.specs.Renewal.{is_cut_key, is_touched_by, nearest_before, is_renewed_by, is_renewed, HaveChanges}
use Rattle.chain_changes.specs.RenewalLaws.{OthersStay}
use Rattle.chain_changes.proofs.Local.{authority_is_local, next_is_local, denials_are_local}

-- a name that is among others by the test is one of them
pub among_in : (names : List Name) (n : Name) → is_among names n ≡ true → In n names
among_in names n e =
    let r = In-from_any (name_eq n) names e in
    subst (λ x. In x names) (sym ((name_eq-Decides n r.0).0 r.2)) r.1

pub not_among : (names : List Name) (n : Name) → is_among names n ≡ false → In n names → ⊥
not_among names n e i = none_passes (name_eq n) n names e i (name_eq_itself n)

in_among : (names : List Name) (n : Name) → In n names → is_among names n ≡ true
in_among names n i = any_from_In (name_eq n) n names i (name_eq_itself n)

-- a name that is above another is at or above it
above_too : (a n : Name) → is_above a n ≡ true → is_at_or_above a n ≡ true
above_too a [] h = absurd (true≢false (sym h))
above_too a (l ∷ ls) h = or_right (name_eq a (l ∷ ls)) (is_at_or_above a ls) h

-- a name isn't after a name at or above another that it is before, where it isn't itself at or below that
before_top : (a n x : Name) → name_cmp n x ≡ Less → is_at_or_above a x ≡ true → (is_at_or_above a n ≡ true → ⊥) → name_cmp n a ≡ Less
before_top a n x l over off = by (name_cmp n a) refl
  where
    below : is_upto name_cmp a n ≡ true → ⊥
    below u = off (is_at_or_above_complete a n (together a n x u (upto_before name_order n x l) (is_at_or_above_sound a x over)))

    by : (o : Ordering) → name_cmp n a ≡ o → name_cmp n a ≡ Less
    by Less e = e
    by Equal e = absurd (below (upto_same name_order a n (sym (name_order.exact n a e))))
    by Greater e = absurd (below (upto_before name_order a n (name_order.total.antisymm a n ∙ ap ordering_reverse e)))

-- what is before a name is before each name at or below that
before_below : (p a x : Name) → name_cmp p a ≡ Less → is_at_or_above a x ≡ true → name_cmp p x ≡ Less
before_below p a x s over = by (above_cases a x (is_at_or_above_sound a x over))
  where
    by : (a ≡ x) ⊎ IsAbove a x → name_cmp p x ≡ Less
    by (inl e) = ap (name_cmp p) (sym e) ∙ s
    by (inr h) = name_order.total.trans p a x s (above_is_less a x h)

-- no set in place of none
none_either : {X : Type 0} (b : Bool) (x y : X) → cond (b && false) (Some x) None ≡ cond (b && false) (Some y) None
none_either true x y = refl
none_either false x y = refl

module _ (origin : Name) (m after : Sets) (keys : List RrKey) (told : HaveChanges keys m after) (held : (n : Name) → owns after n NSEC ≡ is_authoritative origin m NSEC n) where
  abbrev had : Name → Bool
  had n = is_authoritative origin m NSEC n

  abbrev has : Name → Bool
  has n = is_authoritative origin after NSEC n

  -- no key touches a name
  abbrev IsOut : Name → Type 0
  IsOut n = (k : RrKey) → In k keys → is_touched_by origin after k n ≡ true → ⊥

  -- ---- a name that isn't touched owns what it owned, and the zone cuts above it are the same

  no_key : (k : RrKey) (n : Name) → IsOut n → is_touched_by origin after k n ≡ true → list_any (key_eq k) keys ≡ false
  no_key k n out i = by (list_any (key_eq k) keys) refl
    where
      by : (b : Bool) → list_any (key_eq k) keys ≡ b → b ≡ false
      by true e = let r = In-from_any (key_eq k) keys e in absurd (out r.0 r.1 (subst (λ q. is_touched_by origin after q n ≡ true) (key_same k r.0 r.2) i))
      by false e = refl

  owns_same : (n : Name) → IsOut n → OwnsSame m after n
  owns_same n out t other = told n t other (no_key (key n t) n out (or_left (name_eq n n) _ (name_eq_itself n)))

  -- where a set makes a zone cut, its key touches each name at or below that owns a set
  below_touched : (k : RrKey) (n : Name) → is_cut_key origin k ≡ true → is_at_or_above k.name n ≡ true → In n (names_of after) → is_touched_by origin after k n ≡ true
  below_touched k n cut over there =
      let among = in_among (names_of after) n there in
      or_right (name_eq n k.name) (is_cut_key origin k && (is_at_or_above k.name n && is_among (names_of after) n)) (λ i. cut i && (over i && among i))

  same_cuts : (n : Name) → IsOut n → In n (names_of after) → HasSameCuts m after origin n
  same_cuts n out there a up over = told a NS refl (no_key (key a NS) n out (below_touched (key a NS) n up (above_too a n over) there))

  -- a name that the zone is or was authoritative for owns a set
  present : (n : Name) → (had n ≡ true) ⊎ (has n ≡ true) → In n (names_of after)
  present n (inl h) = name_in after n NSEC (held n ∙ h)
  present n (inr h) =
      let besides = and_left (owns_besides after NSEC n) _ (and_right (is_at_or_above origin n) _ h) in
      let r = from_besides after NSEC n besides in
      name_in after n r.0 r.2

  unmoved : (n : Name) → IsOut n → has n ≡ had n
  unmoved n out = by (has n) refl (had n) refl
    where
      local : In n (names_of after) → has n ≡ had n
      local i = authority_is_local origin m after n (owns_same n out) (same_cuts n out i)

      by : (x : Bool) → has n ≡ x → (y : Bool) → had n ≡ y → has n ≡ had n
      by true e y f = local (present n (inr e))
      by false e true f = local (present n (inl f))
      by false e false f = e ∙ sym f

  -- so a key touches a name that came or went
  abbrev IsTouched : Name → Type 0
  IsTouched x = (k : RrKey) × In k keys × (is_touched_by origin after k x ≡ true)

  moved_touched : (x : Name) → CameOrWent m after origin x → IsTouched x
  moved_touched x d = by (list_any (λ k. is_touched_by origin after k x) keys) refl
    where
      by : (b : Bool) → list_any (λ k. is_touched_by origin after k x) keys ≡ b → IsTouched x
      by true e = In-from_any (λ k. is_touched_by origin after k x) keys e
      by false e = absurd (d (unmoved x (λ k i h. none_passes (λ q. is_touched_by origin after q x) k keys e i h)))

  -- ---- the nearest name before its owner is renewed

  module _ (n : Name) (off : is_renewed origin after keys n ≡ false) where
    by_none : (k : RrKey) → In k keys → is_renewed_by origin after k n ≡ true → ⊥
    by_none k i h = none_passes (λ q. is_renewed_by origin after q n) k keys off i h

    out : IsOut n
    out k i h = by_none k i (or_left (is_touched_by origin after k n) (option_map_or (name_eq n) (nearest_before origin after k.name) false) h)

    module _ (on : had n ≡ true) (x : Name) (l : name_cmp n x ≡ Less) (k : RrKey) (i : In k keys) (touched : is_touched_by origin after k x ≡ true) where
      abbrev Reached : Type 0
      Reached = (name_cmp n k.name ≡ Less) × ((p : Name) → name_cmp p k.name ≡ Less → name_cmp p x ≡ Less)

      -- the name is before that owner, and what is before the owner is before the name that came or went
      reached : Reached
      reached = by (name_eq x k.name) refl touched
        where
          by : (b : Bool) → name_eq x k.name ≡ b → b || (is_cut_key origin k && (is_at_or_above k.name x && is_among (names_of after) x)) ≡ true → Reached
          by true e h =
              let is : x ≡ k.name = (name_eq-Decides x k.name).0 e in
              (ap (name_cmp n) (sym is) ∙ l, λ p s. ap (name_cmp p) is ∙ s)
          by false e h =
              let cut = and_left (is_cut_key origin k) _ h in
              let over = and_left (is_at_or_above k.name x) _ (and_right (is_cut_key origin k) _ h) in
              (before_top k.name n x l over (λ g. out k i (below_touched k n cut g (present n (inl on)))), λ p s. before_below p k.name x s over)

      abbrev earlier : List Name
      earlier = filter (λ o. is_before name_cmp o k.name) (owners after NSEC)

      abbrev staying : List Name
      staying = filter (is_authoritative origin after NSEC) earlier

      itself : In n staying
      itself =
          In-filter (is_authoritative origin after NSEC) n earlier
          (In-filter (λ o. is_before name_cmp o k.name) n (owners after NSEC) (owner_in after n NSEC (held n ∙ on)) (ap is_lt reached.0)) (unmoved n out ∙ on)

      not_nearest : nearest_before origin after k.name ≡ Some n → ⊥
      not_nearest e =
          by_none k i
          (or_right (is_touched_by origin after k n) (option_map_or (name_eq n) (nearest_before origin after k.name) false)
          (ap (λ (o : Option Name). option_map_or (name_eq n) o false) e ∙ name_eq_itself n))

      stays : (p : Name) → In p staying → (had p ≡ true) × (has p ≡ true) × (name_cmp p x ≡ Less)
      stays p j =
          let r = In-from_filter (is_authoritative origin after NSEC) p earlier j in
          let q = In-from_filter (λ o. is_before name_cmp o k.name) p (owners after NSEC) r.0 in
          (sym (held p) ∙ owner_owned after p NSEC q.0, r.1, reached.1 p (less_test (name_cmp p k.name) q.1))

    abbrev Between : Name → Type 0
    Between x = (y : Name) × Stays m after origin y × (name_cmp n y ≡ Less) × (name_cmp y x ≡ Less)

    nearest_between : had n ≡ true → (x : Name) → name_cmp n x ≡ Less → (k : RrKey) → In k keys → is_touched_by origin after k x ≡ true → Between x
    nearest_between on x l k i touched = by (nearest_before origin after k.name) refl
      where
        at : (p : Name) → nearest_before origin after k.name ≡ Some p → In p (staying on x l k i touched) → (n ≡ p) ⊎ (name_cmp n p ≡ Less) → Between x
        at p e j (inl q) = absurd (not_nearest on x l k i touched (e ∙ ap Some (sym q)))
        at p e j (inr s) = let r = stays on x l k i touched p j in (p, record { before = r.0; after' = r.1 }, s, r.2)

        by : (p : Option Name) → nearest_before origin after k.name ≡ p → Between x
        by None e = absurd (greatest_none name_order (staying on x l k i touched) e n (itself on x l k i touched))
        by (Some p) e =
            let top = greatest_is name_order (staying on x l k i touched) p e in
            at p e top.among (upto_cases name_order n p (upto_from_not_before name_order n p (top.none_greater n (itself on x l k i touched))))

    same_next : had n ≡ true → HasSameNext m after origin n
    same_next on x d l = let t = moved_touched x d in nearest_between on x l t.0 t.1 t.2

    -- ---- so these stay

    pub types_stay : OwnsSame m after n
    types_stay = owns_same n out

    pub authority_stays : is_authoritative origin after NSEC n ≡ is_authoritative origin m NSEC n
    authority_stays = unmoved n out

    pub next_stays : is_authoritative origin m NSEC n ≡ true → nsec_next origin after n ≡ nsec_next origin m n
    next_stays on = next_is_local origin m after n (same_next on)

    same_set : (ttl serial t : ℕ) → nsec_set_at origin after ttl serial n t ≡ nsec_set_at origin m ttl serial n t
    same_set ttl serial t = by (had n) refl
      where
        by : (b : Bool) → had n ≡ b → nsec_set_at origin after ttl serial n t ≡ nsec_set_at origin m ttl serial n t
        by true on = denials_are_local origin m after n (owns_same n out) (same_cuts n out (present n (inl on))) (same_next on) ttl serial t
        by false none =
            ap (λ b. cond ((t == NSEC) && b) (Some (nsec_set origin after ttl serial n)) None) (unmoved n out ∙ none)
            ∙ none_either (t == NSEC) (nsec_set origin after ttl serial n) (nsec_set origin m ttl serial n)
            ∙ sym (ap (λ b. cond ((t == NSEC) && b) (Some (nsec_set origin m ttl serial n)) None) none)

pub others_stay : OthersStay
others_stay origin m after keys told held n e ttl serial t =
    same_set origin m after keys told held n e ttl serial t
