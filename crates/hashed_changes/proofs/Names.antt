-- A name that no change affects gets an NSEC3 set after it where it got one before
use Rattle.std.proofs.Common.{◌≡◌, ◌↔◌, Bool, true, false, not, ◌&&◌, List, [], refl, sym, ap, ◌∙◌, subst, true≢false, ◌⊎◌, inl, inr}
use Rattle.std.specs.Prelude.{◌==◌}
use Rattle.std.specs.List.{list_any, Contains}
use Rattle.zone_proto.specs.declared.rr_key.RrKey.{RrKey}
use Rattle.zone_proto.specs.Keys.{key, key_eq}
use Rattle.zone_proto.specs.Names.{Name, name_eq, is_above, is_at_or_above, IsAbove, IsAtOrAbove}
use Rattle.zone_proto.specs.Types.{NS, NSEC3}
use Rattle.zone_proto.proofs.Members.{In, In-Contains, Contains-In, In-filter, In-from_filter, In-from_any, any_from_In, none_passes, not_true, or_left, or_right}
use Rattle.zone_proto.proofs.Names.NameTree.{name_eq-Decides, above_test, is_at_or_above_complete}
use Rattle.zone_proto.proofs.Names.Tree.{name_eq_itself, above_cases}
use Rattle.zone_proto.proofs.Ordering.KeyOrder.{key_same}
use Rattle.zone_map.specs.Zones.{Sets, owns, names_of, owns_at_or_below}
use Rattle.zone_map.proofs.Owned.{name_in}
use Rattle.zone_denial.specs.Authority.{is_authoritative, authoritative_names, is_below_cut, owns_besides}
use Rattle.zone_denial.specs.Nsec3Names.{is_unsigned_delegation, counted_names, nsec3_names, IsNsec3Name}
use Rattle.zone_denial.proofs.Chain.NsecBelow.{above_at, comparable}
use Rattle.zone_denial.proofs.Hashed.Nsec3NameLaws.{names_are_exact}
use Rattle.zone_denial.proofs.Names.AuthoritativeNames.{authoritative_listed, from_besides}
use Rattle.hashed_changes.specs.Among.{is_among}
use Rattle.hashed_changes.specs.Affected.{HaveChanges, is_affected_below, is_affected_by, is_affected}
use Rattle.hashed_changes.specs.Locality.{OwnsSame}
use Rattle.hashed_changes.specs.RenewalLaws.{NamesAreLocal}
use Rattle.hashed_changes.proofs.Local.{same_authority, same_delegation}

-- a name that is among others by the test is one of them
pub among_in : (names : List Name) (n : Name) → is_among names n ≡ true → In n names
among_in names n e =
    let r = In-from_any (name_eq n) names e in
    subst (λ x. In x names) (sym ((name_eq-Decides n r.0).0 r.2)) r.1

pub not_among : (names : List Name) (n : Name) → is_among names n ≡ false → In n names → ⊥
not_among names n e i = none_passes (name_eq n) n names e i (name_eq_itself n)

pub not_among_from : (names : List Name) (n : Name) → (In n names → ⊥) → is_among names n ≡ false
not_among_from names n out = by (is_among names n) refl
  where
    by : (b : Bool) → is_among names n ≡ b → b ≡ false
    by true e = absurd (out (among_in names n e))
    by false e = refl

-- a conjunction with what is false
with_false : (b : Bool) → b && false ≡ false
with_false true = refl
with_false false = refl

module _ (origin : Name) (m after : Sets) (keys : List RrKey) (told : HaveChanges keys m after) where
  -- a key of a set that came or went affects a name, if it does so
  affects : (k : RrKey) (n : Name) → list_any (key_eq k) keys ≡ true → is_affected_by origin after k n ≡ true → is_affected origin after keys n ≡ true
  affects k n e h =
      let r = In-from_any (key_eq k) keys e in
      any_from_In (λ q. is_affected_by origin after q n) r.0 keys r.1 (subst (λ q. is_affected_by origin after q n ≡ true) (key_same k r.0 r.2) h)

  no_key : (k : RrKey) (n : Name) → is_affected origin after keys n ≡ false → is_affected_by origin after k n ≡ true → list_any (key_eq k) keys ≡ false
  no_key k n out h = by (list_any (key_eq k) keys) refl
    where
      by : (b : Bool) → list_any (key_eq k) keys ≡ b → b ≡ false
      by true e = absurd (true≢false (sym (affects k n e h) ∙ out))
      by false e = refl

  -- a name that isn't affected owns what it owned
  pub owns_same : (n : Name) → is_affected origin after keys n ≡ false → OwnsSame m after n
  owns_same n out t other = told n t other (no_key (key n t) n out (or_left (name_eq n n) _ (name_eq_itself n)))

  -- ---- and so does each name at or below one, strictly below the origin, and the zone cuts above that are the same

  module _ (n : Name) (out : is_affected origin after keys n ≡ false) (over : IsAbove origin n) (c : Name) (at : IsAtOrAbove n c) where
    -- whichever set comes or goes below n affects n
    affected_below : (k : RrKey) → is_affected_below origin after k n ≡ true → is_affected_by origin after k n ≡ true
    affected_below k h = or_right (name_eq n k.name) _ (λ i. (above_test origin n).1 over i && h i)

    affected_from : (k : RrKey) → IsAtOrAbove n k.name → is_affected_by origin after k n ≡ true
    affected_from k h = by (above_cases n k.name h)
      where
        by : (n ≡ k.name) ⊎ IsAbove n k.name → is_affected_by origin after k n ≡ true
        by (inl e) = or_left (name_eq n k.name) _ ((name_eq-Decides n k.name).1 e)
        by (inr h) = affected_below k (or_left (is_above n k.name) _ ((above_test n k.name).1 h))

    same_below : OwnsSame m after c
    same_below t other = told c t other (no_key (key c t) n out (affected_from (key c t) at))

    same_cuts : In c (names_of after) → (a : Name) → is_above origin a ≡ true → is_above a c ≡ true → owns after a NS ≡ owns m a NS
    same_cuts there a up down = told a NS refl (no_key (key a NS) n out (by (comparable at.0 below.0 n a (sym at.1 ∙ below.1))))
      where
        below : IsAtOrAbove a c
        below = above_at a c ((above_test a c).0 down)

        exists : owns_at_or_below after n ≡ true
        exists = any_from_In (is_at_or_above n) c (names_of after) there (is_at_or_above_complete n c at)

        of : (a ≡ n) ⊎ IsAbove a n → is_affected_by origin after (key a NS) n ≡ true
        of (inl e) = affected_from (key a NS) ([], e)
        of (inr h) = affected_below (key a NS) (or_right (is_above n a) _ (λ i. up i && ((above_test a n).1 h i && exists i)))

        by : IsAtOrAbove n a ⊎ IsAtOrAbove a n → is_affected_by origin after (key a NS) n ≡ true
        by (inl h) = affected_from (key a NS) h
        by (inr h) = of (above_cases a n h)

    unmoved : is_authoritative origin after NSEC3 c ≡ is_authoritative origin m NSEC3 c
    unmoved = by (owns_besides after NSEC3 c) refl (owns_besides m NSEC3 c) refl
      where
        local : In c (names_of after) → is_authoritative origin after NSEC3 c ≡ is_authoritative origin m NSEC3 c
        local i = same_authority m after c same_below origin (same_cuts i)

        none : (zone : Sets) → owns_besides zone NSEC3 c ≡ false → is_authoritative origin zone NSEC3 c ≡ false
        none zone e = ap (λ b. is_at_or_above origin c && (b && not (is_below_cut origin zone c))) e ∙ with_false (is_at_or_above origin c)

        by : (x : Bool) → owns_besides after NSEC3 c ≡ x → (y : Bool) → owns_besides m NSEC3 c ≡ y → is_authoritative origin after NSEC3 c ≡ is_authoritative origin m NSEC3 c
        by true e y f = let r = from_besides after NSEC3 c e in local (name_in after c r.0 r.2)
        by false e true f = let r = from_besides m NSEC3 c f in local (name_in after c r.0 (same_below r.0 (not_true (r.0 == NSEC3) r.1) ∙ r.2))
        by false e false f = none after e ∙ sym (none m f)

  -- ---- so that counts after the change where it did before

  module _ (opt_out : Bool) where
    abbrev counts : Sets → Name → Bool
    counts zone n = not (opt_out && (not (name_eq n origin) && is_unsigned_delegation zone n))

    abbrev Counted : Sets → Name → Type 0
    Counted zone n = (is_authoritative origin zone NSEC3 n ≡ true) × (counts zone n ≡ true)

    from_counted : (zone : Sets) (n : Name) → In n (counted_names origin zone opt_out) → Counted zone n
    from_counted zone n i =
        let r = In-from_filter (counts zone) n (authoritative_names origin zone NSEC3) i in
        ((In-from_filter (is_authoritative origin zone NSEC3) n (names_of zone) r.0).1, r.1)

    to_counted : (zone : Sets) (n : Name) → Counted zone n → In n (counted_names origin zone opt_out)
    to_counted zone n c = In-filter (counts zone) n (authoritative_names origin zone NSEC3) (authoritative_listed origin zone NSEC3 n c.0) c.1

    module _ (n : Name) (out : is_affected origin after keys n ≡ false) where
      same_counts : IsAbove origin n → (c : Name) → IsAtOrAbove n c → counts after c ≡ counts m c
      same_counts over c at = ap (λ b. not (opt_out && (not (name_eq c origin) && b))) (same_delegation m after c (same_below n out over c at))

      kept_on : IsAbove origin n → (c : Name) → IsAtOrAbove n c → In c (counted_names origin m opt_out) → In c (counted_names origin after opt_out)
      kept_on over c at i = let k = from_counted m c i in to_counted after c (unmoved n out over c at ∙ k.0, same_counts over c at ∙ k.1)

      kept_back : IsAbove origin n → (c : Name) → IsAtOrAbove n c → In c (counted_names origin after opt_out) → In c (counted_names origin m opt_out)
      kept_back over c at i = let k = from_counted after c i in to_counted m c (sym (unmoved n out over c at) ∙ k.0, sym (same_counts over c at) ∙ k.1)

      -- ---- and n gets a set after it where it did before

      moved : (a b : Sets) → (IsAbove origin n → (c : Name) → IsAtOrAbove n c → In c (counted_names origin a opt_out) → In c (counted_names origin b opt_out)) → IsNsec3Name origin a opt_out n → IsNsec3Name origin b opt_out n
      moved a b f (inl e) = inl e
      moved a b f (inr (over, (c, i, at))) = inr (over, (c, In-Contains c (counted_names origin b opt_out) (f over c at (Contains-In c (counted_names origin a opt_out) i)), at))

      pub same_named : Contains (nsec3_names origin after opt_out) n ↔ Contains (nsec3_names origin m opt_out) n
      same_named = (
        λ h. (names_are_exact origin m opt_out n).1 (moved after m kept_back ((names_are_exact origin after opt_out n).0 h)),
        λ h. (names_are_exact origin after opt_out n).1 (moved m after kept_on ((names_are_exact origin m opt_out n).0 h)),
      )

pub names_are_local : NamesAreLocal
names_are_local origin m after keys told opt_out n out = same_named origin m after keys told opt_out n out
