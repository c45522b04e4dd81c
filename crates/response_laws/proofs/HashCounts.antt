-- Few names are hashed for a response of a zone whose NSEC3 sets are a chain without opt-out
use Rattle.std.proofs.Common.{◌≡◌, ℕ, ◌≤◌, Bool, true, false, cond, List, [], ◌∷◌, ◌++◌, length, refl, sym, ap, ◌∙◌, subst, true≢false, ◌⊎◌, inl, inr, arith}
use Rattle.std.proofs.lemmas.List.{length-append}
use Rattle.std.specs.Prelude.{Option, Some, None, Ok, flat_map, is_some, option_map, option_to_list}
use Rattle.std.specs.Option.{option_map_or}
use Rattle.zone_proto.specs.declared.nx_proof_kind.NxProofKind.{NxProofKind}
use Rattle.zone_proto.specs.declared.nx_proof_kind.NxProofKind.TheVariants as kind
use Rattle.zone_proto.specs.declared.rdata.denial.NSEC3PARAM.{NSEC3PARAM as Nsec3Parameters}
use Rattle.zone_proto.specs.HashedOwners.{hashed_owner, name_or_fault, owner_or_refusal}
use Rattle.zone_proto.specs.Names.{Name, lower, suffixes, wildcard_under, IsAbove}
use Rattle.zone_proto.specs.Sets.{RRset}
use Rattle.zone_proto.specs.Types.{NS, NSEC, NSEC3}
use Rattle.zone_proto.proofs.Members.{In, In-Contains}
use Rattle.zone_proto.proofs.Names.NameTree.{is_at_or_above_sound, is_at_or_above_complete}
use Rattle.zone_proto.proofs.Names.Tree.{above_cases}
use Rattle.zone_proto.proofs.Texts.TextFaults.{name_faultless}
use Rattle.zone_map.specs.Wildcards.{exists, closest_encloser}
use Rattle.zone_map.specs.Zones.{Sets, set_at}
use Rattle.zone_map.proofs.ExistingNames.{owner_exists}
use Rattle.zone_map.proofs.Lists.{owner_named}
use Rattle.zone_denial.specs.Chains.{chain_sets}
use Rattle.zone_denial.specs.WildcardLaws.{OwnsNone}
use Rattle.zone_denial.proofs.Chain.NsecBelow.{above_at}
use Rattle.zone_denial.proofs.Chains.ChainSets.{one_kind}
use Rattle.zone_denial.proofs.Chains.Nsec3Names.{named_in}
use Rattle.zone_denial.proofs.Names.LongestAncestors.{IsLongestAbove, longest_is, longest_above, others_above, above_above}
use Rattle.zone_response.specs.Denials.{wildcard_hashed_by, wildcard_hashed_names, denial_hashed, denial_hashed_by, end_hashed}
use Rattle.zone_response.specs.HashedDenials.{next_closer, wildcard_hashed, below_hashed, owner_given, has_set, provable, tried, absent_hashed, left_out_hashed, present_hashed}
use Rattle.zone_response.specs.Queries.{Zone, Query, inquiry}
use Rattle.zone_response.specs.Responses.{ds_at, hashed_with}
use Rattle.zone_response.specs.Steps.{End, complete, referred, missing, outside, unfollowed, too_long, failed}
use Rattle.zone_response.specs.Wildcards.{source_of_synthesis}
use Rattle.zone_response.proofs.ProvableWalk.{tried_is}
use Rattle.response_laws.specs.HashCounts.{most_for_end, most_hashed, HasDigests, FewNamesAreHashed}
use Rattle.response_laws.specs.HashedSayings.{zone_hash, DeniesByNsec3, IsReached}
use Rattle.response_laws.proofs.HashedNames.{there_named, origin_there, uncut_under, plain_under}
use Rattle.response_laws.proofs.HashedParts.{zone_owner}
use Rattle.response_laws.proofs.LastNames.{IsMissing, bare, bare_wildcard, unsynthesized, gone, EndOf, stops, arrives, PathEnd, path_end, IsReferred}
use Rattle.response_laws.proofs.LentSets.{exists_kept, reached_kept}
use Rattle.response_laws.proofs.Parts.{path_of}
use Rattle.response_laws.proofs.SaidNames.{reached_unturned, reached_cut}
use Rattle.response_laws.proofs.Stepped.{IsUndiverted}

-- ---- lengths

at_most_one : (o : Option Name) → length (option_to_list o) ≤ 1
at_most_one None = omega arith
at_most_one (Some x) = omega arith

-- the next closer name and a wildcard
at_most_two : (o : Option Name) (w : Name) → length (option_to_list o ++ w ∷ []) ≤ 2
at_most_two None w = omega arith
at_most_two (Some x) w = omega arith

module _ (z : Zone) where
  -- ---- one for each answer of a wildcard

  one_of_wildcard : (k : Option NxProofKind) (x : Name) → length (wildcard_hashed_by z k x) ≤ 1
  one_of_wildcard (Some (kind.Nsec3 algorithm salt iterations opt_out)) x = by (closest_encloser z.sets x)
    where
      by : (e : Option Name) → length (option_map_or (wildcard_hashed x) e []) ≤ 1
      by None = omega arith
      by (Some e) = at_most_one (next_closer x e)
  one_of_wildcard (Some kind.Nsec) x = omega arith
  one_of_wildcard None x = omega arith

  one_of_each : (made : List Name) → length (flat_map (wildcard_hashed_names z) made) ≤ length made
  one_of_each [] = omega arith
  one_of_each (x ∷ made) =
      omega
      (arith, length-append (wildcard_hashed_names z x) (flat_map (wildcard_hashed_names z) made), one_of_wildcard z.nx_proof_kind x, one_of_each made)

module _ (z : Zone) (parameters : Nsec3Parameters) (q : Query) (d : DeniesByNsec3 z parameters) (all_in : parameters.opt_out ≡ false) (digests : HasDigests z parameters) where
  abbrev o : Name
  o = z.origin

  -- the sets that deny
  abbrev m : Sets
  m = z.denials

  abbrev hash : Name → Option (List ℕ)
  hash = zone_hash z parameters

  abbrev hashed : Name → Name
  hashed = zone_owner z parameters

  no_nsec : OwnsNone z.denials NSEC
  no_nsec = subst (λ m. OwnsNone m NSEC) (sym (d.denials ∙ ap (λ k. chain_sets k z.sets) d.kind)) ((one_kind z.sets d.zone).nsec3 parameters.algorithm parameters.salt parameters.iterations d.flag)

  -- ---- the names of the chain have their sets

  record HasItsSet (n : Name) : Type 0 where
    pub owner : Name
    pub set : RRset
    pub hashes : owner_or_refusal z.origin (zone_hash z parameters n) ≡ Ok owner
    pub stands : set_at z.denials owner NSEC3 ≡ Some set

  set_of : (n : Name) → In n d.names → HasItsSet n
  set_of n i = by (hash n) refl
    where
      by : (r : Option (List ℕ)) → hash n ≡ r → HasItsSet n
      by None e = absurd (digests n e)
      by (Some digest) e =
          let s = d.chain.one_for_each n digest (In-Contains n d.names i) e in
          let owner : Name = hashed_owner o digest in
          record {
            owner = owner;
            set = s.0;
            hashes = ap (owner_or_refusal o) e ∙ ap (name_or_fault owner) (name_faultless owner (owner_named m owner NSEC3 d.chain.zone (ap is_some s.1)));
            stands = s.1;
          }

  has_its_set : (n : Name) → In n d.names → has_set o m hashed n ≡ true
  has_its_set n i =
      let s = set_of n i in
      ap (λ r. is_some (set_at m (owner_given r) NSEC3)) s.hashes ∙ ap is_some s.stands

  -- and a name that exists is one of them, where neither a zone cut nor a DNAME is above it
  named : (x : Name) → IsReached z.origin z.sets x → exists z.sets x ≡ true → In x d.names
  named x k there =
      let r = reached_kept z d.denials x k in
      named_in d.names x
      (there_named o z.sets m hash parameters d.names d.chain no_nsec all_in x (is_at_or_above_sound o x r.inside) r.uncut (plain_under m x r.no_dname) (exists_kept z d.denials x ∙ there))

  -- ---- a name that exists

  present_is : (x : Name) → denial_hashed z x None ≡ present_hashed o m hashed x
  present_is x = ap (λ k. denial_hashed_by z k x None) d.kind

  one_present : (x : Name) → IsReached z.origin z.sets x → exists z.sets x ≡ true → length (denial_hashed z x None) ≤ 1
  one_present x k there =
      subst (λ (names : List Name). length names ≤ 1)
      (sym (present_is x ∙ ap (λ b. x ∷ cond b [] (left_out_hashed o m hashed x)) (has_its_set x (named x k there)))) (omega arith)

  -- ---- a name that doesn't

  absent_is : (x e : Name) → denial_hashed z x (Some (wildcard_under e)) ≡ absent_hashed o m hashed x e
  absent_is x e = ap (λ k. denial_hashed_by z k x (Some (wildcard_under e))) d.kind

  module _ (x : Name) (k : IsReached z.origin z.sets x) (absent : exists z.sets x ≡ false) where
    -- the origin exists, and so is above it
    below : IsAbove z.origin x
    below = by (above_cases o x (is_at_or_above_sound o x k.inside))
      where
        there : exists z.sets o ≡ true
        there = sym (exists_kept z d.denials o) ∙ origin_there o z.sets m hash parameters d.names d.chain no_nsec

        by : (o ≡ x) ⊎ IsAbove o x → IsAbove o x
        by (inl e) = absurd (true≢false (sym there ∙ ap (exists z.sets) e ∙ absent))
        by (inr u) = u

    origin_exists : exists z.sets z.origin ≡ true
    origin_exists = sym (exists_kept z d.denials o) ∙ origin_there o z.sets m hash parameters d.names d.chain no_nsec

    has_wildcard : source_of_synthesis z.sets x ≡ None → ⊥
    has_wildcard f =
        let e = longest_above (exists z.sets) x o below origin_exists in
        let p : None ≡ Some (wildcard_under e.0) = sym f ∙ ap (option_map wildcard_under) e.1.found in
        cc

    module _ (e : Name) (found : closest_encloser z.sets x ≡ Some e) where
      longest : IsLongestAbove (exists z.sets) x e
      longest = longest_is (exists z.sets) x e found

      encloser_reached : IsReached z.origin z.sets e
      encloser_reached = record {
        inside = is_at_or_above_complete o e (others_above (exists z.sets) x e o longest below origin_exists);
        uncut = uncut_under o z.sets x e k.uncut (λ c v. above_above c e x (above_at c e v) longest.above);
        no_dname = λ a v. k.no_dname a (above_above a e x (above_at a e v) longest.above);
      }

      on : In e d.names
      on = named e encloser_reached longest.passes

      one_tried : tried o m hashed (suffixes e) ≡ e ∷ []
      one_tried =
          let s = set_of e on in
          tried_is o m (λ n. owner_or_refusal o (hash n)) e s.owner (Some s.set) encloser_reached.inside s.hashes (sym s.stands)

      two_below : (a : Option Name) → length (option_map_or (below_hashed x) a []) ≤ 2
      two_below None = omega arith
      two_below (Some a) = at_most_two (next_closer x a) (wildcard_under a)

      three_absent : length (denial_hashed z x (Some (wildcard_under e))) ≤ 3
      three_absent =
          subst (λ (names : List Name). length names ≤ 3) (sym (absent_is x e))
          (omega (
            arith,
            length-append (tried o m hashed (suffixes e)) (option_map_or (below_hashed x) (provable o m hashed (suffixes e)) []),
            ap (λ (names : List Name). length names) one_tried,
            two_below (provable o m hashed (suffixes e)),
          ))

    three_below : (w : Name) → source_of_synthesis z.sets x ≡ Some w → length (denial_hashed z x (Some w)) ≤ 3
    three_below w f = by (closest_encloser z.sets x) refl f
      where
        same : (a : Name) → Some (wildcard_under a) ≡ Some w → wildcard_under a ≡ w
        same a e = cc

        by : (r : Option Name) → closest_encloser z.sets x ≡ r → option_map wildcard_under r ≡ Some w → length (denial_hashed z x (Some w)) ≤ 3
        by None e f = absurd cc
        by (Some a) e f = subst (λ w. length (denial_hashed z x (Some w)) ≤ 3) (same a f) (three_absent a e)

  -- ---- the end of a search

  missing_few : (x : Name) (wildcard_name : Option Name) (there : Bool) → IsUndiverted (inquiry z q) x → IsMissing (inquiry z q) x wildcard_name there → length (denial_hashed z x wildcard_name) ≤ most_for_end (missing x wildcard_name there)
  missing_few x wildcard_name there u how = by how
    where
      k : IsReached z.origin z.sets x
      k = reached_unturned z q d.top.no_dname x u

      of : (s : Option Name) → wildcard_name ≡ s → length (denial_hashed z x s) ≤ most_for_end (missing x s there) → length (denial_hashed z x wildcard_name) ≤ most_for_end (missing x wildcard_name there)
      of s e h = subst (λ s. length (denial_hashed z x s) ≤ most_for_end (missing x s there)) (sym e) h

      by : IsMissing (inquiry z q) x wildcard_name there → length (denial_hashed z x wildcard_name) ≤ most_for_end (missing x wildcard_name there)
      by (bare e f g b) = of None f (one_present x k g)
      by (bare_wildcard w e f absent g stands b) = of (Some w) f (three_below x k absent w g)
      by (unsynthesized e absent f) = absurd (has_wildcard x k absent f)
      by (gone w e f absent g none) = of (Some w) f (three_below x k absent w g)

  referred_few : (x : Name) (c : RRset) → IsReferred (inquiry z q) x c → (ds : Option RRset) → length (end_hashed z ds (referred c)) ≤ 1
  referred_few x c h (Some ds) = omega arith
  referred_few x c h None =
      let cut = reached_cut z q d.top.no_dname d.zone x c h in
      one_present (lower c.owner) cut.reached (owner_exists z.sets (lower c.owner) NS (ap is_some cut.stands) refl)

  end_few : (x : Name) (sets : List RRset) (e : End) → EndOf (inquiry z q) (path_of z q).answers x sets e → (ds : Option RRset) → length (end_hashed z ds e) ≤ most_for_end e
  end_few x sets complete h ds = omega arith
  end_few x sets (referred c) h ds = referred_few x c h.0 ds
  end_few x sets (missing y wildcard_name there) h ds =
      subst (λ (n : Name). length (end_hashed z ds (missing n wildcard_name there)) ≤ most_for_end (missing n wildcard_name there)) (sym h.2) (missing_few x wildcard_name there h.0 h.1)
  end_few x sets (outside y) h ds = omega arith
  end_few x sets unfollowed h ds = omega arith
  end_few x sets too_long h ds = omega arith
  end_few x sets failed h ds = omega arith

  path_few : (ds : Option RRset) → length (end_hashed z ds (path_of z q).end) ≤ most_for_end (path_of z q).end
  path_few ds = by (path_end (inquiry z q) d.zone q.name)
    where
      of : (e : End) → (path_of z q).end ≡ e → length (end_hashed z ds e) ≤ most_for_end e → length (end_hashed z ds (path_of z q).end) ≤ most_for_end (path_of z q).end
      of e f h = subst (λ e. length (end_hashed z ds e) ≤ most_for_end e) (sym f) h

      by : PathEnd (inquiry z q) d.zone [] q.name (path_of z q) → length (end_hashed z ds (path_of z q).end) ≤ most_for_end (path_of z q).end
      by (stops y f l u) = of unfollowed f (omega arith)
      by (arrives y sets e f l h) = of e f (end_few y sets e h ds)

  all_few : (signed : Bool) (ds : Option RRset) → length (hashed_with z ds signed (path_of z q).made (path_of z q).end) ≤ most_hashed (path_of z q)
  all_few false ds = omega arith
  all_few true ds =
      omega
      (arith, length-append (flat_map (wildcard_hashed_names z) (path_of z q).made) (end_hashed z ds (path_of z q).end), one_of_each z (path_of z q).made, path_few ds)

pub few_names_are_hashed : FewNamesAreHashed
few_names_are_hashed z parameters q d all_in digests = all_few z parameters q d all_in digests q.signed (ds_at z.sets (path_of z q).end)
