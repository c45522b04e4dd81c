-- Below the origin of a circle of NSEC3 sets a denial is no refusal, also where a wildcard answered, and covers the next closer name
use Rattle.std.proofs.Common.{◌≡◌, ℕ, suc, Bool, true, false, cond, ◌&&◌, List, [], ◌∷◌, length, refl, sym, ap, ◌∙◌, subst, true≢false, ◌⊎◌, inl, inr, arith, eqb-true, ◌==◌}
use Rattle.std.specs.Prelude.{Option, Some, None, Result, Ok, filter_map, option_map, option_to_list}
use Rattle.std.proofs.lemmas.List.{length-append}
use Rattle.std.specs.Option.{option_map_or}
use Rattle.zone_proto.specs.declared.error.ProtoError.{ProtoError}
use Rattle.zone_proto.specs.declared.rdata.denial.NSEC3PARAM.{NSEC3PARAM as Nsec3Parameters}
use Rattle.zone_proto.specs.HashedOwners.{owner_or_refusal}
use Rattle.zone_proto.specs.Names.{Name, name_cmp, IsAtOrAbove, IsAbove}
use Rattle.zone_proto.specs.Sets.{RRset}
use Rattle.zone_proto.specs.Types.{NSEC3}
use Rattle.zone_proto.proofs.Members.{In, In-Contains, Contains-In, In-filter_map}
use Rattle.zone_proto.proofs.Names.NameTree.{above_test, is_at_or_above_complete}
use Rattle.zone_proto.proofs.Names.Tree.{name_order}
use Rattle.zone_handler.specs.declared.auth_lookup.AuthLookup.{AuthLookup}
use Rattle.zone_handler.specs.declared.control_flow.LookupControlFlow.{LookupControlFlow}
use Rattle.lookup_types.specs.declared.lookup_error.LookupError.{LookupError}
use Rattle.lookup_types.specs.declared.lookup_options.LookupOptions.{LookupOptions}
use Rattle.lookup_types.specs.declared.nsec3_query_info.Nsec3QueryInfo.{Nsec3QueryInfo}
use Rattle.zone_map.specs.Zones.{Sets, set_at, owns}
use Rattle.zone_map.proofs.Delegations.{found_above}
use Rattle.zone_denial.specs.Nsec3Circle.{digests, next_digest}
use Rattle.zone_denial.specs.Nsec3Denial.{closest_encloser, cover_owner, result_and_then, has_match, cover_of, encloser_of, enclosed, next_closer, nsec3_denial}
use Rattle.zone_denial.specs.Nsec3Names.{nsec3_names}
use Rattle.zone_denial.specs.Nsec3Zones.{IsNsec3Zone, IsCircleName, IsHashed, HasDistinctDigests}
use Rattle.zone_denial.specs.TypeLists.{in_order}
use Rattle.zone_denial.proofs.InOrder.{In-in_order}
use Rattle.zone_denial.proofs.Chain.NsecBelow.{above_at, comparable}
use Rattle.zone_denial.proofs.Hashed.Nsec3Covers.{IsCover, has_cover}
use Rattle.zone_denial.proofs.Hashed.Nsec3Enclosers.{is_named, named_in, in_named, origin_in, root_off, walked, IsEnclosed, enclosed_off}
use Rattle.zone_denial.proofs.Hashed.Nsec3Encloses.{finds_or_encloses}
use Rattle.zone_denial.proofs.Hashed.Nsec3Owners.{owner, named_hashed, set_of_named, is_owner, owns_as_named}
use Rattle.zone_denial.proofs.Names.LongestAncestors.{IsLongestAbove, longest_above}
use Rattle.zone_in_memory.specs.Handlers.{Zone}
use Rattle.zone_in_memory.specs.Nsec3Answers.{CoversNextCloser, HasNextCloser}
use Rattle.zone_in_memory.specs.Nsec3Steps.{IsNsec3Answer}
use Rattle.zone_in_memory.proofs.Nsec3Agreement.{answers}

module _ {origin : Name} {m : Sets} {hash : Name → Option (List ℕ)} {parameters : Nsec3Parameters} {x : Name} (zone : IsNsec3Zone origin m hash parameters)
    (apart : HasDistinctDigests (IsHashed origin m parameters.opt_out x) hash) (below : IsAbove origin x)
  where
    abbrev names : List Name
    names = nsec3_names origin m parameters.opt_out

    abbrev on_circle : Name → Bool
    on_circle = is_named origin m parameters.opt_out

    abbrev hashed : Name → Result Name ProtoError
    hashed n = owner_or_refusal origin (hash n)

    abbrev Hashed : Name → Type 0
    Hashed n = IsHashed origin m parameters.opt_out x n

    -- what a denial of x proves
    abbrev Proved : List RRset → Type 0
    Proved sets = (IsCircleName origin m parameters.opt_out x → ⊥) → CoversNextCloser origin m hash parameters.opt_out x sets

    abbrev IsProved : Bool → Type 0
    IsProved wildcard = (answer : List RRset) × (nsec3_denial m hashed wildcard x ≡ Ok answer) × Proved answer

    -- ---- where a wildcard answered, with the closest encloser a

    module _ (a : Name) (found : closest_encloser origin m parameters.opt_out x ≡ Some a) (above : IsAtOrAbove a x) where
      hashed_above : (n : Name) → IsAtOrAbove n x → IsAtOrAbove a n → Hashed n
      hashed_above n u v = inr (a, found, inl (u, v))

      match_test : (n : Name) → Hashed n → has_match m hashed n ≡ Ok (on_circle n)
      match_test n h = ap (result_and_then (λ h. Ok (owns m h NSEC3))) (is_owner zone apart n h) ∙ ap Ok (owns_as_named zone apart n h)

      encloser_is : encloser_of m hashed x ≡ Ok (Some a)
      encloser_is = walked (has_match m hashed) on_circle (root_off origin m parameters.opt_out zone.below_root) x a found (λ n u v. match_test n (hashed_above n u v))

      abbrev with_encloser : Result (Option Name) ProtoError → Result (List Name) ProtoError
      with_encloser = result_and_then (λ encloser. result_and_then (λ owners. Ok (in_order name_cmp owners)) (enclosed m hashed true x encloser))

      -- the sets of these owners
      abbrev sets_of : List Name → List RRset
      sets_of owners = filter_map (λ o. set_at m o NSEC3) (in_order name_cmp owners)

      -- they are given, where they are those of what covers the next closer name; x isn't denied by its own set
      given : (cover : List Name) → option_map_or (cover_of m hashed) (next_closer x a) (Ok []) ≡ Ok cover → nsec3_denial m hashed true x ≡ Ok (sets_of cover)
      given cover e =
          ap (result_and_then (λ owners. Ok (filter_map (λ o. set_at m o NSEC3) owners)))
          (ap (result_and_then (λ own. cond (owns m own NSEC3 && false) (Ok (own ∷ [])) (with_encloser (encloser_of m hashed x)))) (is_owner zone apart x (hashed_above x ([], refl) above))
          ∙ by (owns m (owner zone apart x) NSEC3)
          ∙ ap with_encloser encloser_is
          ∙ ap (result_and_then (λ owners. Ok (in_order name_cmp owners))) (ap (result_and_then (λ closer. Ok closer)) e))
        where
          by : (b : Bool) → cond (b && false) (Ok (owner zone apart x ∷ [])) (with_encloser (encloser_of m hashed x)) ≡ with_encloser (encloser_of m hashed x)
          by true = refl
          by false = refl

      -- that of a next closer name, which the hash has a digest of
      closer_is : (c : Name) → next_closer x a ≡ Some c → Hashed c → option_map_or (cover_of m hashed) (next_closer x a) (Ok []) ≡ Ok (option_to_list (cover_owner m (owner zone apart c)))
      closer_is c e h =
          ap (λ o. option_map_or (cover_of m hashed) o (Ok [])) e
          ∙ ap (result_and_then (λ h. Ok (option_to_list (cover_owner m h)))) (is_owner zone apart c h)

    -- ---- on the circle

    on_proved : IsCircleName origin m parameters.opt_out x → IsProved true
    on_proved on = by (next_closer x a) refl
      where
        longest : (a : Name) × IsLongestAbove on_circle x a
        longest = longest_above on_circle x origin below (in_named origin m parameters.opt_out origin (origin_in origin m parameters.opt_out))

        a : Name
        a = longest.0

        above : IsAtOrAbove a x
        above = above_at a x longest.1.above

        is_given : (cover : List Name) → option_map_or (cover_of m hashed) (next_closer x a) (Ok []) ≡ Ok cover → IsProved true
        is_given cover e = (sets_of a longest.1.found above cover, given a longest.1.found above cover e, λ off. absurd (off on))

        longer : Name → Bool
        longer s = length s == suc (length a)

        -- the next closer name is at or below the encloser
        below_it : (c : Name) → IsAtOrAbove c x → length c ≡ suc (length a) → IsAtOrAbove a c
        below_it c (g, q) h = at (comparable above.0 g a c (sym above.1 ∙ q))
          where
            at : IsAtOrAbove a c ⊎ IsAtOrAbove c a → IsAtOrAbove a c
            at (inl r) = r
            at (inr (k, r)) = absurd (omega (arith, h, ap length r ∙ length-append k c))

        by : (o : Option Name) → next_closer x a ≡ o → IsProved true
        by None e = is_given [] (ap (λ o. option_map_or (cover_of m hashed) o (Ok [])) e)
        by (Some c) e =
            let r = found_above longer x c e in
            let h = hashed_above a longest.1.found above c r.0 (below_it c r.0 (eqb-true (length c) (suc (length a)) r.1)) in
            is_given (option_to_list (cover_owner m (owner zone apart c))) (closer_is a longest.1.found above c e h)

    -- ---- off it

    off_proved : (IsCircleName origin m parameters.opt_out x → ⊥) → IsProved true
    off_proved off = (answer, given a e.is_encloser e.above cover (closer_is a e.is_encloser e.above c e.is_closer closer_hashed), λ off. proved)
      where
        enclosing : (a : Name) × (c : Name) × IsEnclosed origin m parameters.opt_out x a c
        enclosing = enclosed_off origin m parameters.opt_out x (is_at_or_above_complete origin x (above_at origin x below)) (λ i. off (In-Contains x names i))

        a : Name
        a = enclosing.0

        c : Name
        c = enclosing.1

        e : IsEnclosed origin m parameters.opt_out x a c
        e = enclosing.2

        closer_hashed : Hashed c
        closer_hashed = hashed_above a e.is_encloser e.above c e.closer_at e.closer_below

        cover : List Name
        cover = option_to_list (cover_owner m (owner zone apart c))

        answer : List RRset
        answer = sets_of a e.is_encloser e.above cover

        proved : CoversNextCloser origin m hash parameters.opt_out x answer
        proved =
            let n = has_cover zone apart c closer_hashed e.off in
            let s = set_of_named zone apart n.0 n.1.on in
            let among : In (owner zone apart n.0) cover = subst (In (owner zone apart n.0)) (sym (ap option_to_list n.1.is_cover)) (inl refl) in
            record {
              encloser = a;
              is_encloser = e.is_encloser;
              closer = c;
              is_closer = e.is_closer;
              cover = s.0;
              covers = record {
                owner = apart.digest n.0;
                octets = apart.octets n.0 (named_hashed zone apart n.0 n.1.on);
                next = next_digest (digests hash names) (apart.digest n.0);
                digest = apart.digest c;
                stands = s.1;
                said = ap (option_map (λ a. a.next_hashed_owner_name)) s.2.says;
                hashed = apart.answers c closer_hashed;
                covered = n.1.covered;
              };
              has_cover = In-Contains s.0 answer (In-filter_map (λ o. set_at m o NSEC3) (owner zone apart n.0) s.0 (in_order name_cmp cover) (In-in_order name_order (owner zone apart n.0) cover among) s.1);
            }

    proved_by : (wildcard : Bool) → IsProved wildcard
    proved_by true = by (on_circle x) refl
      where
        by : (b : Bool) → on_circle x ≡ b → IsProved true
        by true e = on_proved (In-Contains x names (named_in origin m parameters.opt_out x e))
        by false e = off_proved (λ on. true≢false (sym (in_named origin m parameters.opt_out x (Contains-In x names on)) ∙ e))
    proved_by false =
        let law = finds_or_encloses origin m hash parameters zone x (is_at_or_above_complete origin x (above_at origin x below)) apart in (
          law.0,
          law.1,
          λ off.
              let e = law.2.off off in
              record { encloser = e.encloser; is_encloser = e.is_encloser; closer = e.closer; is_closer = e.is_closer; cover = e.cover; covers = e.covers; has_cover = e.has_cover },
        )

pub nsec3_closer_covered : {S H : Type 0} (digest_of : H → ℕ → List ℕ → Name → ℕ → Option (List ℕ)) (zone : Zone S H) (query : Nsec3QueryInfo) (options : LookupOptions)
    (step : LookupControlFlow AuthLookup LookupError) → IsNsec3Answer digest_of zone query options step → HasNextCloser digest_of zone query step
nsec3_closer_covered digest_of zone query options step is parameters circle apart below =
    answers digest_of zone query options (Proved circle apart ((above_test zone.origin query.qname.now).0 below)) query.has_wildcard_match refl
    (proved_by circle apart ((above_test zone.origin query.qname.now).0 below) query.has_wildcard_match) step is
