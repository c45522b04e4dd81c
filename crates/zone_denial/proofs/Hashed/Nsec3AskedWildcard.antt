-- What a circle of NSEC3 sets says of the wildcard that a search asks, without opt-out
use Rattle.std.proofs.Common.{◌≡◌, Bool, true, false, not, ◌&&◌, ◌||◌, [], length, refl, sym, ap, ◌∙◌, subst, true≢false, ◌⊎◌, inl, inr, arith}
use Rattle.std.specs.Prelude.{Some, find, option_map, ◌==◌}
use Rattle.std.specs.List.{Contains}
use Rattle.std.proofs.lemmas.List.{length-append}
use Rattle.zone_proto.specs.Names.{Name, name_eq, IsAbove, IsAtOrAbove, proper_ancestors, wildcard_under}
use Rattle.zone_proto.specs.Types.{NSEC, NSEC3, NSEC3PARAM}
use Rattle.zone_proto.proofs.Members.{In, In-Contains, Contains-In, In-filter, In-from_filter, not_true}
use Rattle.zone_proto.proofs.Names.NameTree.{above_test, is_at_or_above_sound}
use Rattle.zone_proto.proofs.Names.Tree.{above_cases}
use Rattle.zone_map.specs.Wildcards.{exists}
use Rattle.zone_map.specs.Zones.{Sets, owns, names_of}
use Rattle.zone_denial.specs.Authority.{is_below_cut, is_authoritative, authoritative_names}
use Rattle.zone_denial.specs.Nsec3Denial.{closest_encloser}
use Rattle.zone_denial.specs.Nsec3Names.{is_unsigned_delegation, counted_names, nsec3_names, IsNsec3Name}
use Rattle.zone_denial.specs.Nsec3Zones.{IsCircleName}
use Rattle.zone_denial.specs.WildcardLaws.{OwnsNone, Nsec3EnclosersAgree, Nsec3ProvedWildcardIsAsked, Nsec3AbsentWildcardIsDenied}
use Rattle.zone_denial.proofs.Names.AuthoritativeNames.{authoritative_listed}
use Rattle.zone_denial.proofs.Names.ExistingAncestors.{exists_from, unowned_absent, asked_is, IsEncloserTest, above_authority, encloser_in, exists_as_passes, same_encloser, no_wildcard_name}
use Rattle.zone_denial.proofs.Names.LongestAncestors.{IsLongestAbove, longest_is, longest_above}
use Rattle.zone_denial.proofs.Hashed.Nsec3Enclosers.{is_named, named_in, in_named, origin_in}
use Rattle.zone_denial.proofs.Hashed.Nsec3NameLaws.{names_are_exact}
use Rattle.zone_denial.proofs.Hashed.Nsec3Wildcard.{proves_wildcard}
use Rattle.zone_denial.proofs.Chain.NsecAskedWildcard.{other_type, plain_type, absent_wildcard}

module _ (origin : Name) (m : Sets) (opt_out : Bool) (announced : owns m origin NSEC3PARAM ≡ true) (all_in : opt_out ≡ false) (none : OwnsNone m NSEC) where
  abbrev counts : Name → Bool
  counts n = not (opt_out && (not (name_eq n origin) && is_unsigned_delegation m n))

  -- without opt-out each authoritative name counts
  counted : (b : Name) → is_authoritative origin m NSEC3 b ≡ true → Contains (counted_names origin m opt_out) b
  counted b k =
      In-Contains b (counted_names origin m opt_out)
      (In-filter counts b (authoritative_names origin m NSEC3) (authoritative_listed origin m NSEC3 b k) (λ i. not (all_in i && (not (name_eq b origin) && is_unsigned_delegation m b))))

  authoritative : (b : Name) → Contains (counted_names origin m opt_out) b → is_authoritative origin m NSEC3 b ≡ true
  authoritative b i =
      let listed : In b (authoritative_names origin m NSEC3) = (In-from_filter counts b (authoritative_names origin m NSEC3) (Contains-In b (counted_names origin m opt_out) i)).0 in
      (In-from_filter (is_authoritative origin m NSEC3) b (names_of m) listed).1

  on_circle : (a b : Name) → IsAtOrAbove origin a → is_authoritative origin m NSEC3 b ≡ true → IsAtOrAbove a b → is_named origin m opt_out a ≡ true
  on_circle a b u k v = in_named origin m opt_out a (Contains-In a (nsec3_names origin m opt_out) ((names_are_exact origin m opt_out a).1 (by (above_cases origin a u))))
    where
      by : (origin ≡ a) ⊎ IsAbove origin a → IsNsec3Name origin m opt_out a
      by (inl e) = inl (sym e)
      by (inr w) = inr (w, (b, counted b k, v))

  of_circle : (a : Name) → IsCircleName origin m opt_out a → (a ≡ origin) ⊎ ((b : Name) × (is_authoritative origin m NSEC3 b ≡ true) × IsAtOrAbove a b)
  of_circle a on = by ((names_are_exact origin m opt_out a).0 on)
    where
      by : IsNsec3Name origin m opt_out a → (a ≡ origin) ⊎ ((b : Name) × (is_authoritative origin m NSEC3 b ≡ true) × IsAtOrAbove a b)
      by (inl e) = inl e
      by (inr (w, (b, i, v))) = inr (b, authoritative b i, v)

  on : (a : Name) → is_named origin m opt_out a ≡ true → IsCircleName origin m opt_out a
  on a e = In-Contains a (nsec3_names origin m opt_out) (named_in origin m opt_out a e)

  test : IsEncloserTest origin m NSEC3 (is_named origin m opt_out)
  test = record {
    no_cut_type = refl;
    shown = λ n t k o i. other_type m n t NSEC none k i || not_true (t == NSEC3) o i;
    counts = λ t e. (plain_type t e).1;
    from = on_circle;
    to = λ a e. of_circle a (on a e);
    origin_passes = in_named origin m opt_out origin (origin_in origin m opt_out);
    origin_there = exists_from m origin origin NSEC3PARAM announced refl ([], refl);
  }

  -- where no zone cut is above a name of the zone, it exists exactly where it is on the circle
  pub exists_on_circle : (n : Name) → IsAtOrAbove origin n → is_below_cut origin m n ≡ false → exists m n ≡ is_named origin m opt_out n
  exists_on_circle = exists_as_passes origin m NSEC3 (is_named origin m opt_out) test

  -- a name of the circle exists
  circle_exists : (a : Name) → IsCircleName origin m opt_out a → exists m a ≡ true
  circle_exists a i = by (of_circle a i)
    where
      by : (a ≡ origin) ⊎ ((b : Name) × (is_authoritative origin m NSEC3 b ≡ true) × IsAtOrAbove a b) → exists m a ≡ true
      by (inl e) = ap (exists m) e ∙ test.origin_there
      by (inr (b, k, v)) = above_authority origin m NSEC3 (is_named origin m opt_out) test a b k v

  module _ (x : Name) (u : IsAbove origin x) where
    there : (e : Name) × IsLongestAbove (exists m) x e
    there = longest_above (exists m) x origin u test.origin_there

    agree : is_below_cut origin m x ≡ false → find (exists m) (proper_ancestors x) ≡ closest_encloser origin m opt_out x
    agree uncut =
        let a = longest_above (is_named origin m opt_out) x origin u test.origin_passes in
        there.1.found ∙ ap Some (sym (same_encloser origin m NSEC3 (is_named origin m opt_out) test x there.0 a.0 u there.1 a.1 uncut)) ∙ sym a.1.found

    -- a wildcard at the closest encloser and doesn't exist isn't on the circle
    wildcard_off : (a : Name) → closest_encloser origin m opt_out x ≡ Some a → exists m (wildcard_under there.0) ≡ false → IsCircleName origin m opt_out (wildcard_under a) → ⊥
    wildcard_off a is gone i = by (of_circle (wildcard_under a) i)
      where
        longest : IsLongestAbove (is_named origin m opt_out) x a
        longest = longest_is (is_named origin m opt_out) x a is

        by : (wildcard_under a ≡ origin) ⊎ ((b : Name) × (is_authoritative origin m NSEC3 b ≡ true) × IsAtOrAbove (wildcard_under a) b) → ⊥
        by (inl e) = let w = encloser_in origin m NSEC3 (is_named origin m opt_out) test x there.0 a u there.1 longest in omega (arith, ap length e, ap length w.1, length-append w.0 origin)
        by (inr (b, k, v)) = no_wildcard_name origin m NSEC3 (is_named origin m opt_out) test x there.0 a u there.1 longest gone b k v

pub enclosers_agree : Nsec3EnclosersAgree
enclosers_agree origin m hash parameters zone all_in none x below uncut = agree origin m parameters.opt_out zone.circle.announced all_in none x ((above_test origin x).0 below) uncut

pub proved_wildcard_is_asked : Nsec3ProvedWildcardIsAsked
proved_wildcard_is_asked origin m hash parameters zone all_in none x below uncut plain absent a is =
    asked_is m origin x ((above_test origin x).0 below) plain absent ∙ ap (option_map wildcard_under) (enclosers_agree origin m hash parameters zone all_in none x below uncut ∙ is)

pub absent_wildcard_is_denied : Nsec3AbsentWildcardIsDenied
absent_wildcard_is_denied origin m hash parameters zone all_in none x inside apart plain unowned gone =
    let r = proves_wildcard origin m hash parameters zone x inside apart off in
    let wildcard_name = wildcard_off origin m parameters.opt_out zone.circle.announced all_in none x below r.2.encloser r.2.is_encloser gone_wildcard in
    let cover = r.2.wildcard_name.off wildcard_name in
    record { answer = r.0; denial = r.1; encloser = r.2.encloser; is_encloser = r.2.is_encloser; off = wildcard_name; cover = cover.0; covers = cover.1; has_cover = cover.2 }
  where
    off : IsCircleName origin m parameters.opt_out x → ⊥
    off i = true≢false (sym (circle_exists origin m parameters.opt_out zone.circle.announced all_in none x i) ∙ unowned_absent m x unowned)

    below : IsAbove origin x
    below = by (above_cases origin x (is_at_or_above_sound origin x inside))
      where
        by : (origin ≡ x) ⊎ IsAbove origin x → IsAbove origin x
        by (inl e) = absurd (off (subst (IsCircleName origin m parameters.opt_out) e (In-Contains origin (nsec3_names origin m parameters.opt_out) (origin_in origin m parameters.opt_out))))
        by (inr w) = w

    gone_wildcard : exists m (wildcard_under (there origin m parameters.opt_out zone.circle.announced all_in none x below).0) ≡ false
    gone_wildcard =
        let t = there origin m parameters.opt_out zone.circle.announced all_in none x below in
        absent_wildcard m origin x t.0 below plain unowned gone t.1.found
