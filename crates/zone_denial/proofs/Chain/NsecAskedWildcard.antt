-- What a circle of NSEC sets says of the wildcard that a search asks
use Rattle.std.proofs.Common.{◌≡◌, ℕ, Bool, true, false, not, ◌&&◌, ◌||◌, [], refl, sym, ap, ◌∙◌, true≢false, ◌⊎◌, inl, inr, eqb-true}
use Rattle.std.specs.Prelude.{Some, unwrap_or, option_map, ◌==◌}
use Rattle.std.specs.Option.{option_map_or}
use Rattle.zone_proto.specs.Names.{Name, is_at_or_above, IsAbove, IsAtOrAbove, is_wildcard, wildcard_under}
use Rattle.zone_proto.specs.Types.{NSEC, NSEC3}
use Rattle.zone_proto.proofs.Members.{In-from_any, any_from_In, and_right, not_true}
use Rattle.zone_proto.proofs.Names.NameTree.{above_test, is_at_or_above_sound, is_at_or_above_complete}
use Rattle.zone_proto.proofs.Names.Tree.{above_cases}
use Rattle.zone_map.specs.Upserts.{is_denial_type}
use Rattle.zone_map.specs.Wildcards.{exists, asked_wildcard_exists, closest_encloser}
use Rattle.zone_map.specs.Zones.{Sets, owns, owners, owns_at_or_below}
use Rattle.zone_map.proofs.Owned.{owner_in, owner_owned}
use Rattle.zone_denial.specs.Authority.{is_authoritative}
use Rattle.zone_denial.specs.NsecDenial.{owns_nsec_at_or_below, nsec_encloser}
use Rattle.zone_denial.specs.NsecLaws.{IsNsecZone}
use Rattle.zone_denial.specs.WildcardLaws.{OwnsNone, EnclosersAgree, ProvedWildcardIsAsked, AbsentWildcardIsDenied}
use Rattle.zone_denial.proofs.Names.AuthoritativeNames.{from_besides}
use Rattle.zone_denial.proofs.Names.ExistingAncestors.{exists_from, unowned_absent, asked_is, IsEncloserTest, same_encloser, no_wildcard_name}
use Rattle.zone_denial.proofs.Names.LongestAncestors.{IsLongestAbove, longest_is, longest_above}
use Rattle.zone_denial.proofs.Chain.NsecCircle.{origin_on_circle}
use Rattle.zone_denial.proofs.Chain.NsecLists.{off_circle}
use Rattle.zone_denial.proofs.Chain.NsecWildcard.{proves_wildcard}

-- ---- types that are in a zone without a type of denial

-- of two that aren't so, neither is
neither : (a b : Bool) → a || b ≡ false → (a ≡ false) × (b ≡ false)
neither true b e = absurd (true≢false e)
neither false b e = (refl, e)

pub other_type : (m : Sets) (n : Name) (t u : ℕ) → OwnsNone m u → owns m n t ≡ true → (t == u) ≡ false
other_type m n t u none k = by (t == u) refl
  where
    by : (b : Bool) → (t == u) ≡ b → b ≡ false
    by true e = absurd (true≢false (sym k ∙ ap (owns m n) (eqb-true t u e) ∙ none n))
    by false e = refl

pub plain_type : (t : ℕ) → is_denial_type t ≡ false → (not (t == NSEC) ≡ true) × (not (t == NSEC3) ≡ true)
plain_type t e = let r = neither (t == NSEC) (t == NSEC3) e in (ap not r.0, ap not r.1)

-- the wildcard at the closest encloser doesn't exist, of the ancestor that its name is under
pub absent_wildcard : (m : Sets) (o x e : Name) → IsAbove o x → is_wildcard x ≡ false → owns_at_or_below m x ≡ false → asked_wildcard_exists m x ≡ false → closest_encloser m x ≡ Some e → exists m (wildcard_under e) ≡ false
absent_wildcard m o x e u plain none gone is = sym (ap (λ p. option_map_or (exists m) p false) (asked_is m o x u plain (unowned_absent m x none) ∙ ap (option_map wildcard_under) is)) ∙ gone

module _ (origin : Name) (m : Sets) (h : IsNsecZone origin m) (none : OwnsNone m NSEC3) where
  abbrev encloses : Name → Bool
  encloses a = is_at_or_above origin a && owns_nsec_at_or_below m a

  on_circle : (n : Name) → owns m n NSEC ≡ true → is_authoritative origin m NSEC n ≡ true
  on_circle n k = sym (h.circle.one_for_each n) ∙ k

  passes : (a b : Name) → IsAtOrAbove origin a → is_authoritative origin m NSEC b ≡ true → IsAtOrAbove a b → encloses a ≡ true
  passes a b u k v =
      λ i. is_at_or_above_complete origin a u i && any_from_In (is_at_or_above a) b (owners m NSEC) (owner_in m b NSEC (h.circle.one_for_each b ∙ k)) (is_at_or_above_complete a b v) i

  shown : (n : Name) (t : ℕ) → owns m n t ≡ true → not (t == NSEC) ≡ true → is_denial_type t ≡ false
  shown n t k o = λ i. not_true (t == NSEC) o i || other_type m n t NSEC3 none k i

  enclosed_owner : (a : Name) → encloses a ≡ true → (a ≡ origin) ⊎ ((b : Name) × (is_authoritative origin m NSEC b ≡ true) × IsAtOrAbove a b)
  enclosed_owner a e =
      let r = In-from_any (is_at_or_above a) (owners m NSEC) (and_right (is_at_or_above origin a) (owns_nsec_at_or_below m a) e) in
      inr (r.0, on_circle r.0 (owner_owned m r.0 NSEC r.1), is_at_or_above_sound a r.0 r.2)

  test : IsEncloserTest origin m NSEC encloses
  test = record {
    no_cut_type = refl;
    shown = shown;
    counts = λ t e. (plain_type t e).0;
    from = passes;
    to = enclosed_owner;
    origin_passes = passes origin origin ([], refl) (on_circle origin (origin_on_circle origin m h)) ([], refl);
    origin_there = let t = from_besides m NSEC origin h.on_circle in exists_from m origin origin t.0 t.2 (shown origin t.0 t.2 t.1) ([], refl);
  }

  module _ (x : Name) (u : IsAbove origin x) where
    -- its encloser is the longest ancestor that passes, and the origin does
    longest : IsLongestAbove encloses x (nsec_encloser origin m x)
    longest =
        let r = longest_above encloses x origin u test.origin_passes in
        longest_is encloses x (nsec_encloser origin m x) (r.1.found ∙ ap Some (sym (ap (λ p. unwrap_or p origin) r.1.found)))

    there : (e : Name) × IsLongestAbove (exists m) x e
    there = longest_above (exists m) x origin u test.origin_there

pub enclosers_agree : EnclosersAgree
enclosers_agree origin m h none x below uncut =
    let u = (above_test origin x).0 below in
    let e = there origin m h none x u in
    e.1.found ∙ ap Some (sym (same_encloser origin m NSEC (encloses origin m h none) (test origin m h none) x e.0 (nsec_encloser origin m x) u e.1 (longest origin m h none x u) uncut))

pub proved_wildcard_is_asked : ProvedWildcardIsAsked
proved_wildcard_is_asked origin m h none x below uncut plain absent =
    asked_is m origin x ((above_test origin x).0 below) plain absent ∙ ap (option_map wildcard_under) (enclosers_agree origin m h none x below uncut)

pub absent_wildcard_is_denied : AbsentWildcardIsDenied
absent_wildcard_is_denied origin m h none x inside plain unowned gone =
    record { off = off; covered = (proves_wildcard origin m h x inside (off_circle m x unowned)).off off }
  where
    below : IsAbove origin x
    below = by (above_cases origin x (is_at_or_above_sound origin x inside))
      where
        by : (origin ≡ x) ⊎ IsAbove origin x → IsAbove origin x
        by (inl e) = absurd (true≢false (sym (origin_on_circle origin m h) ∙ ap (λ a. owns m a NSEC) e ∙ off_circle m x unowned))
        by (inr w) = w

    wildcard_name : Name
    wildcard_name = wildcard_under (nsec_encloser origin m x)

    off : owns m (wildcard_under (nsec_encloser origin m x)) NSEC ≡ false
    off = by (owns m (wildcard_under (nsec_encloser origin m x)) NSEC) refl
      where
        by : (b : Bool) → owns m (wildcard_under (nsec_encloser origin m x)) NSEC ≡ b → b ≡ false
        by false e = refl
        by true e =
            let t = there origin m h none x below in
            absurd
            (no_wildcard_name origin m NSEC (encloses origin m h none) (test origin m h none) x t.0 (nsec_encloser origin m x) below t.1 (longest origin m h none x below)
            (absent_wildcard m origin x t.0 below plain unowned gone t.1.found) (wildcard_under (nsec_encloser origin m x)) (on_circle origin m h none (wildcard_under (nsec_encloser origin m x)) e) ([], refl))
