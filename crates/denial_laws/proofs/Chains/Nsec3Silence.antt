-- Below a zone cut that is a name of a chain of NSEC3 sets, the records of the chain prove nothing but what a wildcard
-- below the cut may have answered
use Rattle.std.proofs.Common.{◌≡◌, ◌≤◌, ℕ, Bool, true, false, cond, not, ◌&&◌, ◌||◌, List, [], ◌++◌, length, refl, sym, ap, ◌∙◌, subst, true≢false, ◌⊎◌, inl, inr, arith}
use Rattle.std.specs.Prelude.{Option, Some, None, filter, reverse, option_map}
use Rattle.std.specs.List.{list_any, Contains}
use Rattle.std.proofs.lemmas.List.{length-append}
use Rattle.zone_proto.specs.declared.rdata.denial.NSEC3PARAM.{NSEC3PARAM as Nsec3Parameters}
use Rattle.zone_proto.specs.Names.{Name, base_name, is_above, is_at_or_above, suffixes, IsAtOrAbove, IsAbove, proper_ancestors}
use Rattle.zone_proto.specs.Types.{NS, SOA, NSEC3, DNAME}
use Rattle.zone_proto.proofs.Members.{In, In-Contains, Contains-In, In-from_filter, In-from_any, any_from_In, and_left, and_right, not_true}
use Rattle.zone_proto.proofs.Names.NameTree.{above_test, at_or_above_from_suffix, suffix_from_at_or_above, is_at_or_above_complete}
use Rattle.zone_proto.proofs.Names.Tree.{above_cases}
use Rattle.zone_map.specs.Zones.{Sets, owners}
use Rattle.zone_map.proofs.Owned.{owner_in}
use Rattle.zone_denial.specs.Authority.{is_below_cut, is_authoritative, owns_besides}
use Rattle.zone_denial.specs.Nsec3Denial.{encloser_on}
use Rattle.zone_denial.specs.Chains.{IsNsec3Chain}
use Rattle.zone_denial.specs.Nsec3Zones.{IsHashedOn, HasDistinctDigests}
use Rattle.zone_denial.proofs.Names.LongestAncestors.{above_below, above_shorter, IsLongestAbove, longest_above, others_above}
use Rattle.zone_denial.proofs.Chains.Nsec3Names.{is_named, named_in, in_named, origin_in, IsEnclosed, enclosed_off}
use Rattle.zone_denial.proofs.Chain.NsecBelow.{above_at, comparable}
use Rattle.denial_validation.specs.declared.proof.Proof.{Proof}
use Rattle.denial_validation.specs.declared.proof.Proof.TheVariants.{WildcardAnswer}
use Rattle.denial_validation.specs.Judgement.{nsec3_proof}
use Rattle.denial_validation.specs.Nsec3Proofs.{lists, is_of_encloser, is_of_unsigned, denies_type, matches, is_matched, is_covered, is_opted_out, is_denied, is_handing_on, is_handed_on, encloser_and, covered_closer, wildcard_answer}
use Rattle.denial_validation.specs.Nsec3Records.{Nsec3Record}
use Rattle.denial_laws.specs.Nsec3Scope.{read_nsec3_sets, AreNsec3OfZone}
use Rattle.denial_laws.specs.Nsec3Chains.{Nsec3ChainNothingBelowCut, Nsec3ChainOwnNothingBelowCut, Nsec3ChainAnswersBelowCut}
use Rattle.denial_laws.specs.Nsec3Soundness.{IsAnswerBelow}
use Rattle.denial_laws.specs.Soundness.{IsTopmostCut}
use Rattle.denial_laws.proofs.Chains.Nsec3Judging.{told_listed, told_unlisted}
use Rattle.denial_laws.proofs.Chains.Nsec3Matches.{matched_by}
use Rattle.denial_laws.proofs.Chains.Nsec3Proved.{ancestor_named, uncovered, matching, closer_covered, encloser_inside, closer_below}
use Rattle.denial_laws.proofs.Nsec3Proved.{sides, IsProved, parts}
use Rattle.denial_laws.proofs.Chains.Nsec3Readings.{record_of, of_name}
use Rattle.denial_laws.proofs.Chains.Nsec3Shown.{enclosing_shown}
use Rattle.denial_laws.proofs.Nsec3Silence.{In-from_reverse, same_proof, only_answers}
use Rattle.denial_laws.proofs.Tests.{refuted, right_false, find_some}

-- ---- below a zone cut

module _ {origin : Name} {beside m : Sets} {hash : Name → Option (List ℕ)} {parameters : Nsec3Parameters} {names : List Name} {x : Name} (zone : IsNsec3Chain origin beside m hash parameters names) (apart : HasDistinctDigests (IsHashedOn names x) hash)
    (rs : List Nsec3Record) (of_zone : AreNsec3OfZone m rs) (c : Name) (cut : IsTopmostCut origin m x c) (counts : Contains names c)
  where
    of_names : (r : Nsec3Record) → In r rs → (n : Name) × In n names × (r ≡ record_of zone apart n)
    of_names = of_name zone apart rs of_zone

    on : In c names
    on = Contains-In c names counts

    -- nothing below the cut is in the chain
    none_below : (n : Name) → IsAbove c n → In n names → ⊥
    none_below n w i = of (zone.authoritative n (In-Contains n names i)).1
      where
        of : (k : Name) × (is_authoritative origin m NSEC3 k ≡ true) × IsAtOrAbove n k → ⊥
        of (k, whole, at) =
            true≢false
            (sym (any_from_In (λ a. is_above origin a && is_above a k) c (owners m NS) (owner_in m c NS cut.delegated) (λ i. (above_test origin c).1 cut.below i && (above_test c k).1 (above_below c n k w at) i)) ∙ uncut)
          where
            uncut : is_below_cut origin m k ≡ false
            uncut = not_true (is_below_cut origin m k) (and_right (owns_besides m NSEC3 k) (not (is_below_cut origin m k)) (and_right (is_at_or_above origin k) (owns_besides m NSEC3 k && not (is_below_cut origin m k)) whole))

    -- so it is the closest encloser that the chain has
    closest : encloser_on names x ≡ Some c
    closest = a.1.found ∙ ap Some (by (above_cases c a.0 (others_above test x a.0 c a.1 cut.above (in_named names c on))))
      where
        test : Name → Bool
        test = is_named names

        a : (a : Name) × IsLongestAbove test x a
        a = longest_above test x c cut.above (in_named names c on)

        by : (c ≡ a.0) ⊎ IsAbove c a.0 → a.0 ≡ c
        by (inl e) = sym e
        by (inr w) = absurd (none_below a.0 w (named_in names a.0 a.1.passes))

    inside : IsAbove origin x
    inside = above_below origin c x cut.below (above_at c x cut.above)

    -- an ancestor of x that isn't above the origin is hashed
    hashed : (b : Name) → IsAtOrAbove origin b → IsAtOrAbove b x → IsHashedOn names x b
    hashed b u v = by (comparable v.0 k.0 b c (sym v.1 ∙ k.1))
      where
        k : IsAtOrAbove c x
        k = above_at c x cut.above

        upper : (origin ≡ b) ⊎ IsAbove origin b → IsAtOrAbove b c → IsHashedOn names x b
        upper (inl e) w = inl (In-Contains b names (subst (λ n. In n names) e (origin_in names origin zone.begins)))
        upper (inr o) w = inl (In-Contains b names (ancestor_named zone b c on w o))

        by : IsAtOrAbove b c ⊎ IsAtOrAbove c b → IsHashedOn names x b
        by (inl w) = upper (above_cases origin b u) w
        by (inr w) = inr (c, closest, inl (v, w))

    match_on : (b : Name) → IsAtOrAbove origin b → IsAtOrAbove b x → (r : Nsec3Record) → In r rs → matches origin hash r b ≡ true → In b names × (r ≡ record_of zone apart b)
    match_on b u v = matching zone apart rs of_names b (hashed b u v)

    -- the record of the cut hands on what is below it
    hands_on : is_of_encloser (record_of zone apart c) ≡ false
    hands_on =
        right_false (not (lists (record_of zone apart c) DNAME)) (not (lists (record_of zone apart c) NS) || lists (record_of zone apart c) SOA)
        (λ i. not (told_listed zone apart c on NS refl cut.delegated i) || told_unlisted zone apart c on SOA refl cut.no_apex i)

    no_proof : (cover : Nsec3Record → Bool) (rest : Name → Bool) → IsProved origin hash rs cover x rest → ⊥
    no_proof cover rest p = by (sides x p.encloser c v k)
      where
        v : IsAtOrAbove p.encloser x
        v = above_at p.encloser x p.shown.above

        k : IsAtOrAbove c x
        k = above_at c x cut.above

        r : (r : Nsec3Record) × In r rs × (matches origin hash r p.encloser && is_of_encloser r ≡ true)
        r = In-from_any (λ r. matches origin hash r p.encloser && is_of_encloser r) rs p.encloses

        own : In p.encloser names × (r.0 ≡ record_of zone apart p.encloser)
        own = match_on p.encloser (encloser_inside zone apart rs of_names cover rest p) v r.0 r.1 (and_left (matches origin hash r.0 p.encloser) (is_of_encloser r.0) r.2)

        closer_on : IsAbove p.encloser c → IsAtOrAbove c p.closer ⊎ IsAtOrAbove p.closer c → In p.closer names
        closer_on w (inr u) = ancestor_named zone p.closer c on u (closer_below zone apart rs of_names cover rest p)
        closer_on w (inl u) = of (above_cases c p.closer u)
          where
            of : (c ≡ p.closer) ⊎ IsAbove c p.closer → In p.closer names
            of (inl e) = subst (λ n. In n names) e on
            of (inr d) = absurd (omega (arith, above_shorter p.encloser c w, above_shorter c p.closer d, p.longer))

        by : IsAbove p.encloser c ⊎ ((p.encloser ≡ c) ⊎ IsAbove c p.encloser) → ⊥
        by (inl w) = uncovered zone apart rs of_names p.closer (closer_covered zone apart rs of_names cover rest p) (closer_on w (comparable k.0 p.at.0 c p.closer (sym k.1 ∙ p.at.1)))
        by (inr (inl e)) = true≢false (sym (and_right (matches origin hash r.0 p.encloser) (is_of_encloser r.0) r.2) ∙ ap is_of_encloser (own.1 ∙ ap (record_of zone apart) e) ∙ hands_on)
        by (inr (inr w)) = none_below p.encloser w own.0

    unproved : (cover : Nsec3Record → Bool) (rest : Name → Bool) → encloser_and origin hash rs cover x rest ≡ false
    unproved cover rest = refuted (encloser_and origin hash rs cover x rest) (λ e. no_proof cover rest (parts origin hash rs cover x rest e))

    -- no record is that of x
    none_of : (test : Nsec3Record → Bool) → list_any (λ r. matches origin hash r x && test r) rs ≡ false
    none_of test =
        refuted (list_any (λ r. matches origin hash r x && test r) rs)
        (λ e. let r = In-from_any (λ r. matches origin hash r x && test r) rs e in
        none_below x cut.above (match_on x (above_at origin x inside) ([], refl) r.0 r.1 (and_left (matches origin hash r.0 x) (test r.0) r.2)).0)

    below_only : (t : ℕ) → nsec3_proof origin hash rs x t ≡ cond (is_handed_on origin hash rs x) None (wildcard_answer origin hash rs x)
    below_only =
        only_answers origin hash rs x unproved (λ t. right_false (is_at_or_above origin x) (is_denied origin hash rs x t) (none_of (λ r. denies_type origin r x t)))
        (right_false (is_above origin x) (list_any (λ r. matches origin hash r x && is_of_unsigned r) rs) (none_of is_of_unsigned))

    -- where the record of the cut is shown, x is handed on
    handed : is_matched origin hash rs c ≡ true → is_handed_on origin hash rs x ≡ true
    handed e = any_from_In (λ a. is_at_or_above origin a && is_handing_on origin hash rs a) c (proper_ancestors x) among (λ i. is_at_or_above_complete origin c (above_at origin c cut.below) i && handing i)
      where
        among : In c (proper_ancestors x)
        among = by cut.above
          where
            by : IsAbove c x → In c (proper_ancestors x)
            by (l, f, q) = subst (λ (k : Name). In c (proper_ancestors k)) (sym q) (Contains-In c (suffixes (f ++ c)) (suffix_from_at_or_above (f ++ c) c (f, refl)))

        r : (r : Nsec3Record) × In r rs × (matches origin hash r c ≡ true)
        r = In-from_any (λ r. matches origin hash r c) rs e

        handing : is_handing_on origin hash rs c ≡ true
        handing =
            any_from_In (λ r. matches origin hash r c && not (is_of_encloser r)) r.0 rs r.1
            (λ i. r.2 i && not ((ap is_of_encloser (match_on c (above_at origin c cut.below) (above_at c x cut.above) r.0 r.1 r.2).1 ∙ hands_on) i))

    -- what a wildcard may have answered is below the cut
    answer_below : (p : Proof) → wildcard_answer origin hash rs x ≡ Some p → IsAnswerBelow c p
    answer_below p e = by (covered_closer origin hash rs x) refl e
      where
        answer : Name → Proof
        answer n = WildcardAnswer (length (base_name n)) (is_opted_out origin hash rs n)

        by : (o : Option Name) → covered_closer origin hash rs x ≡ o → option_map answer o ≡ Some p → IsAnswerBelow c p
        by None q g = absurd cc
        by (Some n) q g = (length (base_name n), is_opted_out origin hash rs n, sym (same_proof (answer n) p g), more (lower (sides x c n k u)))
          where
            f : In n (reverse (filter (is_above origin) (suffixes x))) × (is_covered origin hash rs n ≡ true)
            f = find_some (is_covered origin hash rs) (reverse (filter (is_above origin) (suffixes x))) n q

            s : In n (suffixes x) × (is_above origin n ≡ true)
            s = In-from_filter (is_above origin) n (suffixes x) (In-from_reverse n (filter (is_above origin) (suffixes x)) f.0)

            u : IsAtOrAbove n x
            u = at_or_above_from_suffix x n (In-Contains n (suffixes x) s.0)

            k : IsAtOrAbove c x
            k = above_at c x cut.above

            away : IsAtOrAbove n c → ⊥
            away w = uncovered zone apart rs of_names n f.1 (ancestor_named zone n c on w ((above_test origin n).0 s.1))

            lower : IsAbove c n ⊎ ((c ≡ n) ⊎ IsAbove n c) → IsAbove c n
            lower (inl w) = w
            lower (inr (inl g)) = absurd (away ([], g))
            lower (inr (inr w)) = absurd (away (above_at n c w))

            more : IsAbove c n → length c ≤ length (base_name n)
            more (l, f, g) = let size : length (base_name n) ≡ length (f ++ c) = ap (λ (n : Name). length (base_name n)) g in omega (arith, size, length-append f c)

pub nsec3_nothing_below_cut : Nsec3ChainNothingBelowCut
nsec3_nothing_below_cut origin beside m hash parameters names rs x c zone apart of_zone cut counts shown t =
    below_only zone apart rs of_zone c cut counts t ∙ ap (λ b. cond b None (wildcard_answer origin hash rs x)) (handed zone apart rs of_zone c cut counts shown)

-- its own denial has the record of the cut, which is its closest encloser
pub nsec3_own_nothing_below_cut : Nsec3ChainOwnNothingBelowCut
nsec3_own_nothing_below_cut origin beside m hash parameters names x c zone apart cut counts answer of_zone given =
    nsec3_nothing_below_cut origin beside m hash parameters names rs x c zone apart of_zone cut counts (matched_by zone apart rs c (on zone apart rs of_zone c cut counts) shown)
  where
    rs : List Nsec3Record
    rs = read_nsec3_sets answer

    off : In x names → ⊥
    off = none_below zone apart rs of_zone c cut counts x cut.above

    n : (a : Name) × (k : Name) × IsEnclosed names x a k
    n = enclosed_off names origin zone.begins x (is_at_or_above_complete origin x (above_at origin x (inside zone apart rs of_zone c cut counts))) off

    same : n.0 ≡ c
    same = same_value n.0 c (sym n.2.is_encloser ∙ closest zone apart rs of_zone c cut counts)
      where
        same_value : (a b : Name) → Some a ≡ Some b → a ≡ b
        same_value a b e = cc

    shown : In (record_of zone apart c) (read_nsec3_sets answer)
    shown = subst (λ a. In (record_of zone apart a) rs) same (enclosing_shown zone apart off n.0 n.1 n.2 answer given).encloser

pub nsec3_answers_below_cut : Nsec3ChainAnswersBelowCut
nsec3_answers_below_cut origin beside m hash parameters names rs x c zone apart of_zone cut counts t p e = by (is_handed_on origin hash rs x) (sym (below_only zone apart rs of_zone c cut counts t) ∙ e)
  where
    by : (b : Bool) → cond b None (wildcard_answer origin hash rs x) ≡ Some p → IsAnswerBelow c p
    by true q = absurd cc
    by false q = answer_below zone apart rs of_zone c cut counts p q
