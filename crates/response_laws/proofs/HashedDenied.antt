-- What the NSEC3 records of a response show of a name that doesn't exist, and that they prove a name error
use Rattle.std.proofs.Common.{◌≡◌, ℕ, Bool, true, false, ◌||◌, List, refl, sym, ap, ◌∙◌, subst, true≢false}
use Rattle.std.specs.Prelude.{Option, Some, None, option_map}
use Rattle.zone_proto.specs.declared.rdata.denial.NSEC3PARAM.{NSEC3PARAM as Nsec3Parameters}
use Rattle.zone_proto.specs.Names.{Name, wildcard_under}
use Rattle.zone_proto.specs.Sets.{RRset}
use Rattle.zone_proto.proofs.Members.{In, or_left, or_right}
use Rattle.zone_map.specs.Wildcards.{exists, closest_encloser as found_encloser}
use Rattle.zone_map.specs.Zones.{Sets, IsZone}
use Rattle.zone_denial.proofs.Chains.Nsec3Names.{is_named, IsEnclosed}
use Rattle.zone_denial.proofs.Names.LongestAncestors.{longest_above}
use Rattle.denial_validation.specs.Nsec3Proofs.{is_handed_on, proves_name_error, proves_opted_out, proves_wildcard_no_data}
use Rattle.denial_validation.specs.Nsec3Records.{Nsec3Record}
use Rattle.denial_laws.specs.Nsec3Scope.{read_nsec3_sets, AreNsec3OfZone}
use Rattle.denial_laws.proofs.Chains.Nsec3LeftOut.{nsec3_absence_sound}
use Rattle.denial_laws.proofs.Chains.Nsec3Readings.{record_of}
use Rattle.denial_laws.proofs.Chains.Nsec3Shown.{IsCovering, IsShown, enclosing_shown}
use Rattle.zone_response.specs.Denials.{proofs}
use Rattle.zone_response.specs.HashedDenials.{absent_sets, present_sets}
use Rattle.zone_response.specs.Queries.{Zone, Query, inquiry}
use Rattle.zone_response.specs.Responses.{ds_at}
use Rattle.zone_response.specs.Sections.{Sections}
use Rattle.zone_response.specs.Wildcards.{source_of_synthesis}
use Rattle.zone_response.specs.Steps.{End, missing}
use Rattle.response_laws.specs.HashedSayings.{zone_hash, DeniesByNsec3, HashesDistinctly, IsReached, shown_nsec3, HasErrorProof, IsHashedError}
use Rattle.response_laws.specs.Sayings.{name_error, saying}
use Rattle.response_laws.proofs.HashedBridges.{absent_denies}
use Rattle.response_laws.proofs.HashedNames.{plain_under, origin_there, existing_above, encloser_over, encloser_agrees}
use Rattle.response_laws.proofs.HashedParts.{zone_owner, of_missing, of_present_name}
use Rattle.response_laws.proofs.HashedProved.{same_name, no_nsec, records_proved, sound_proved, shown_of, hashed_name, judged_name, IsAsked, asked_wildcard, off}
use Rattle.response_laws.proofs.HashedShown.{IsEncloserShown}
use Rattle.response_laws.proofs.HashedSummed.{sum_of_error}
use Rattle.response_laws.proofs.HashedTold.{IsHashedName, away, below, enclosed, not_handed, opted_out_is, error_proved}
use Rattle.response_laws.proofs.LastNames.{IsMissing, bare, bare_wildcard, unsynthesized, gone}
use Rattle.response_laws.proofs.LentSets.{exists_kept, encloser_kept}
use Rattle.response_laws.proofs.Parts.{path_of, IsMadeOf}
use Rattle.response_laws.proofs.SaidNames.{reached_unturned, IsMissingName, missing_said}
use Rattle.response_laws.proofs.Stepped.{IsUndiverted}

module _ (z : Zone) (parameters : Nsec3Parameters) (q : Query) (r : Sections) (d : DeniesByNsec3 z parameters) (signed : q.signed ≡ true) (h : IsMadeOf z q r) where
  abbrev o : Name
  o = z.origin

  -- the sets that deny
  abbrev m : Sets
  m = z.denials

  abbrev t : ℕ
  t = q.record_type

  abbrev hash : Name → Option (List ℕ)
  hash = zone_hash z parameters

  abbrev names : List Name
  names = d.names

  abbrev on_chain : Name → Bool
  on_chain = is_named d.names

  abbrev zone : IsZone z.sets
  zone = d.zone

  abbrev rs : List Nsec3Record
  rs = shown_nsec3 r

  -- the sets that prove what is said of a name without what is asked for
  given_at : (e : End) → (path_of z q).end ≡ e → proofs z (ds_at z.sets e) (path_of z q).made e ≡ h.proofs
  given_at e end = subst (λ e. proofs z (ds_at z.sets e) (path_of z q).made e ≡ h.proofs) end (h.given signed)

  absent_given : (x e : Name) (there : Bool) → (path_of z q).end ≡ missing x (Some (wildcard_under e)) there → (s : RRset) → In s (absent_sets z.origin z.denials (zone_owner z parameters) x e) → In s h.proofs
  absent_given x e there end = of_missing z d.chain.zone parameters d.flag d.kind (path_of z q).made x e there h.proofs (given_at (missing x (Some (wildcard_under e)) there) end)

  pub present_given : (x : Name) (there : Bool) → (path_of z q).end ≡ missing x None there → (s : RRset) → In s (present_sets z.origin z.denials (zone_owner z parameters) x) → In s h.proofs
  present_given x there end = of_present_name z d.chain.zone parameters d.flag d.kind (path_of z q).made x there h.proofs (given_at (missing x None there) end)

  module _ (x : Name) (u : IsUndiverted (inquiry z q) x) (apart : HashesDistinctly z parameters d.names x) where
    abbrev k : IsReached o z.sets x
    k = reached_unturned z q d.top.no_dname x u

    abbrev j : IsHashedName o z.sets m hash parameters names x
    j = hashed_name z parameters q r d signed h x k apart

    abbrev of_zone : AreNsec3OfZone m rs
    of_zone = records_proved z parameters q r d signed h

    pub unhanded : is_handed_on z.origin (zone_hash z parameters) (shown_nsec3 r) x ≡ false
    unhanded = not_handed j rs of_zone

    shown_there : (own : List RRset) → ((s : RRset) → In s own → In s h.proofs) → (n : Nsec3Record) → In n (read_nsec3_sets own) → In n rs
    shown_there = shown_of z parameters q r d signed h

    pub encloser_shown : (own : List RRset) → ((s : RRset) → In s own → In s h.proofs) → (a c : Name) → IsEncloserShown j.zone j.apart a c (read_nsec3_sets own) → IsEncloserShown j.zone j.apart a c rs
    encloser_shown own among a c s = record {
      encloser = shown_there own among (record_of j.zone j.apart a) s.encloser;
      cover = s.cover;
      is_cover = s.is_cover;
      has_cover = shown_there own among (record_of j.zone j.apart s.cover) s.has_cover;
    }

    -- ---- a name that doesn't exist

    -- its closest encloser proof is there, and what is reported about the wildcard at the encloser, which without
    -- opt-out is the wildcard w that is asked for it
    pub record IsAbsentShown (w : Name) : Type 0 where
      pub off_chain : on_chain x ≡ false
      pub encloser : Name
      pub closer : Name
      pub is : IsEnclosed names x encloser closer
      pub shown : IsEncloserShown j.zone j.apart encloser closer rs
      pub wildcard_on : In (wildcard_under encloser) names → In (record_of j.zone j.apart (wildcard_under encloser)) rs
      pub wildcard_off : (In (wildcard_under encloser) names → ⊥) → (c : Name) × IsCovering j.zone j.apart (wildcard_under encloser) c × In (record_of j.zone j.apart c) rs
      pub agrees : parameters.opt_out ≡ false → wildcard_under encloser ≡ w

    pub absent_shown : (w : Name) (there : Bool) → (path_of z q).end ≡ missing x (Some w) there → exists z.sets x ≡ false → source_of_synthesis z.sets x ≡ Some w → IsAbsentShown w
    absent_shown w there end absent source = record {
      off_chain = away_x;
      encloser = n.0;
      closer = n.1;
      is = n.2;
      shown = encloser_shown (absent_sets o m (zone_owner z parameters) x asked.encloser) among n.0 n.1 (record { encloser = call_concludes.encloser; cover = call_concludes.cover; is_cover = call_concludes.is_cover; has_cover = call_concludes.has_cover });
      wildcard_on = λ i. shown_there (absent_sets o m (zone_owner z parameters) x asked.encloser) among (record_of j.zone j.apart (wildcard_under n.0)) (call_concludes.wildcard_on i);
      wildcard_off = λ out. let c = call_concludes.wildcard_off out in (c.0, c.1, shown_there (absent_sets o m (zone_owner z parameters) x asked.encloser) among (record_of j.zone j.apart c.0) c.2);
      agrees = λ all_in.
          ap wildcard_under
          (encloser_agrees o z.sets m hash parameters names d.chain (no_nsec z parameters q r d signed h) x (below j away_x) n.0 n.2.is_encloser asked.encloser found all_in j.reached.uncut
          (plain_under m x j.reached.no_dname)) ∙ asked.is;
    }
      where
        away_x : on_chain x ≡ false
        away_x = off z parameters q r d signed h x absent

        n : (a : Name) × (c : Name) × IsEnclosed names x a c
        n = enclosed j away_x

        -- the wildcard is that of the closest encloser by names
        asked : IsAsked z parameters q r d signed h x w
        asked = asked_wildcard z parameters q r d signed h x w source

        found : found_encloser m x ≡ Some asked.encloser
        found = encloser_kept z d.denials x ∙ asked.found

        among : (s : RRset) → In s (absent_sets o m (zone_owner z parameters) x asked.encloser) → In s h.proofs
        among = absent_given x asked.encloser there (end ∙ ap (λ w. missing x (Some w) there) (sym asked.is))

        call_concludes : IsShown j.zone j.apart n.0 n.1 (read_nsec3_sets (absent_sets o m (zone_owner z parameters) x asked.encloser))
        call_concludes =
            enclosing_shown j.zone j.apart (away j x away_x) n.0 n.1 n.2 (absent_sets o m (zone_owner z parameters) x asked.encloser)
            (absent_denies j.zone j.apart n.0 n.1 n.2 asked.encloser
            (existing_above o z.sets m hash parameters names d.chain (no_nsec z parameters q r d signed h) x (below j away_x) n.0 n.2.is_encloser asked.encloser found)
            (encloser_over o z.sets m hash parameters names d.chain (no_nsec z parameters q r d signed h) x (below j away_x) n.0 n.2.is_encloser asked.encloser found)
            (away j x away_x))

    -- ---- a name error

    module _ (w : Name) (s : IsAbsentShown w) where
      pub out_is : proves_opted_out z.origin (zone_hash z parameters) (shown_nsec3 r) x ≡ parameters.opt_out
      out_is = opted_out_is j rs of_zone s.off_chain s.encloser s.closer s.is s.shown

      wildcard_name_error : exists z.sets (wildcard_under s.encloser) ≡ false → proves_name_error o hash rs x ≡ true
      wildcard_name_error none =
          let c = s.wildcard_off (away j (wildcard_under s.encloser) (off z parameters q r d signed h (wildcard_under s.encloser) none)) in
          error_proved j rs of_zone s.off_chain s.encloser s.closer s.is s.shown c.0 c.1 c.2

      error_shown : exists z.sets w ≡ false → HasErrorProof z parameters names x → proves_name_error o hash rs x ≡ true
      error_shown none has = by parameters.opt_out refl
        where
          by : (b : Bool) → parameters.opt_out ≡ b → proves_name_error o hash rs x ≡ true
          by true f = wildcard_name_error (has f s.encloser s.is.is_encloser)
          by false f = wildcard_name_error (ap (exists z.sets) (s.agrees f) ∙ none)

      -- what is there is left out
      out_by : (b : Bool) → parameters.opt_out ≡ b → exists z.sets w ≡ false → proves_name_error o hash rs x || proves_opted_out o hash rs x || proves_wildcard_no_data o hash rs x t ≡ true
      out_by b f none =
          or_left (proves_name_error o hash rs x || proves_opted_out o hash rs x) (proves_wildcard_no_data o hash rs x t) (by b f)
        where
          by : (b : Bool) → parameters.opt_out ≡ b → proves_name_error o hash rs x || proves_opted_out o hash rs x ≡ true
          by true f = or_right (proves_name_error o hash rs x) (proves_opted_out o hash rs x) (out_is ∙ f)
          by false f = or_left (proves_name_error o hash rs x) (proves_opted_out o hash rs x) (error_shown none (λ e. absurd (true≢false (sym e ∙ f))))

      error_told : (there : Bool) → (path_of z q).end ≡ missing x (Some w) there → source_of_synthesis z.sets x ≡ Some w → exists z.sets w ≡ false → IsHashedError z parameters names r x
      error_told there end source none = record {
        proved = error_shown none;
        call_concludes = λ has u. sum_of_error o hash rs x u unhanded parameters.opt_out out_is (error_shown none has);
        one_wildcard = λ all_in e is. source ∙ ap Some (sym (s.agrees all_in) ∙ ap wildcard_under (same_name s.encloser e (sym s.is.is_encloser ∙ is)));
        left_out = nsec3_absence_sound o z.sets m hash parameters names rs x t d.chain apart of_zone (out_by parameters.opt_out refl none);
        none = λ all_in unhashed.
            (sound_proved z parameters q r d signed h x (judged_name z parameters q r d signed h x k apart all_in unhashed)).error (error_shown none (λ f. absurd (true≢false (sym f ∙ all_in))));
      }

  -- ---- what is said

  pub error_said : (x : Name) → saying q r ≡ Some (name_error x) → HashesDistinctly z parameters d.names x → IsHashedError z parameters d.names r x
  error_said x e apart = by (missing_said z q r zone signed h false x e)
    where
      -- a name below the origin has a wildcard
      has_wildcard_name : (x : Name) → IsUndiverted (inquiry z q) x → HashesDistinctly z parameters names x → exists z.sets x ≡ false → source_of_synthesis z.sets x ≡ None → ⊥
      has_wildcard_name x u apart absent f =
          let j = hashed_name z parameters q r d signed h x (reached_unturned z q d.top.no_dname x u) apart in
          let there = sym (exists_kept z d.denials o) ∙ origin_there o z.sets m hash parameters names d.chain (no_nsec z parameters q r d signed h) in
          let e = longest_above (exists z.sets) x o (below j (off z parameters q r d signed h x absent)) there in
          let p : None ≡ Some (wildcard_under e.0) = sym f ∙ ap (option_map wildcard_under) e.1.found in
          cc

      at_wildcard : (w : Name) → (path_of z q).end ≡ missing x (Some w) false → exists z.sets x ≡ false → source_of_synthesis z.sets x ≡ Some w → exists z.sets w ≡ false → IsUndiverted (inquiry z q) x → IsHashedError z parameters names r x
      at_wildcard w end absent source none u = error_told x u apart w (absent_shown x u apart w false end absent source) false end source none

      of : (wildcard_name : Option Name) → (path_of z q).end ≡ missing x wildcard_name false → IsUndiverted (inquiry z q) x → IsMissing (inquiry z q) x wildcard_name false → IsHashedError z parameters names r x
      of wildcard_name end u (bare e f g b) = absurd (true≢false (sym e))
      of wildcard_name end u (bare_wildcard w e f absent g there b) = absurd (true≢false (sym e))
      of wildcard_name end u (unsynthesized e absent f) = absurd (has_wildcard_name x u apart absent f)
      of wildcard_name end u (gone w e f absent g none) = at_wildcard w (end ∙ ap (λ s. missing x s false) f) absent g none u

      by : IsMissingName z q r zone signed h x false → IsHashedError z parameters names r x
      by s = of s.wildcard_name s.end s.unturned s.how
