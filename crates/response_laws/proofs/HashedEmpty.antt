-- What the NSEC3 records of a response prove of a name without data
use Rattle.std.proofs.Common.{◌≡◌, ◌≢◌, ℕ, Bool, true, false, not, ◌&&◌, ◌||◌, List, [], ◌∷◌, refl, sym, ap, ◌∙◌, subst, true≢false, ◌⊎◌, inl, inr, eqb-true}
use Rattle.std.specs.Prelude.{Option, Some, ◌==◌}
use Rattle.zone_proto.specs.declared.rdata.denial.NSEC3PARAM.{NSEC3PARAM as Nsec3Parameters}
use Rattle.zone_proto.specs.Names.{Name, name_eq, is_root, IsAbove, asterisk_label, wildcard_under, is_at_or_above, is_wildcard}
use Rattle.zone_proto.specs.Sets.{RRset}
use Rattle.zone_proto.specs.Types.{NS, SOA, DS, RRSIG, NSEC, NSEC3, ANAME}
use Rattle.zone_proto.proofs.Members.{In, In-Contains, Contains-In, or_left, or_right}
use Rattle.zone_proto.proofs.Names.NameTree.{is_at_or_above_complete}
use Rattle.zone_map.specs.Wildcards.{exists}
use Rattle.zone_map.specs.Zones.{Sets, owns, IsZone}
use Rattle.zone_denial.specs.WildcardLaws.{OwnsNone}
use Rattle.zone_denial.proofs.Chain.NsecBelow.{above_through}
use Rattle.zone_denial.proofs.Chains.Nsec3Names.{is_named, named_in, IsEnclosed}
use Rattle.denial_validation.specs.declared.proof.Proof.TheVariants.{UnsignedDelegation}
use Rattle.denial_validation.specs.Judgement.{nsec3_proof}
use Rattle.denial_validation.specs.Nsec3Proofs.{denies_type, is_covered, proves_name_error, proves_no_data, proves_opted_out, proves_wildcard_no_data, proves_empty_answer, shows_unsigned_delegation}
use Rattle.denial_validation.specs.Nsec3Records.{Nsec3Record}
use Rattle.denial_laws.specs.Scope.{is_parents_ds}
use Rattle.denial_laws.specs.Nsec3Chains.{IsLeftOutOn}
use Rattle.denial_laws.specs.Nsec3Scope.{read_nsec3_sets, AreNsec3OfZone}
use Rattle.denial_laws.specs.Soundness.{IsUnflattened, IsWithoutData, IsUnsignedDelegation}
use Rattle.denial_laws.proofs.Chains.Nsec3LeftOut.{nsec3_absence_sound}
use Rattle.denial_laws.proofs.Chains.Nsec3Readings.{record_of}
use Rattle.denial_laws.proofs.Chains.Nsec3Soundness.{nsec3_unsigned_delegation_sound}
use Rattle.zone_response.specs.HashedDenials.{present_sets}
use Rattle.zone_response.specs.Queries.{Zone, Query, inquiry}
use Rattle.zone_response.specs.Sections.{Sections}
use Rattle.zone_response.specs.Wildcards.{source_of_synthesis}
use Rattle.zone_response.specs.Steps.{missing}
use Rattle.response_laws.specs.HashedSayings.{zone_hash, DeniesByNsec3, HashesDistinctly, IsReached, shown_nsec3, HasHashedProvableAbsence, HasNoHashedStandIn, HasNoHashedSet, IsInsecure, IsHashedEmpty}
use Rattle.response_laws.specs.ProvedSayings.{IsEmptyProof}
use Rattle.response_laws.specs.Sayings.{no_data, saying}
use Rattle.response_laws.proofs.BareNames.{bare_unowned, lent_not_any, lent_unowned, lent_alias, lent_beside_soa}
use Rattle.response_laws.proofs.HashedDenied.{present_given, encloser_shown, unhanded, IsAbsentShown, absent_shown, out_is}
use Rattle.response_laws.proofs.HashedNames.{uncut_wildcard, plain_under, plain_wildcard, encloser_in, encloser_above}
use Rattle.response_laws.proofs.HashedParts.{zone_owner}
use Rattle.response_laws.proofs.HashedProved.{no_nsec, records_proved, sound_proved, shown_of, hashed_name, judged_name, there_on}
use Rattle.response_laws.proofs.HashedShown.{IsEncloserShown, own_matched, encloser_matched}
use Rattle.response_laws.proofs.HashedSummed.{sum_of_own, sum_of_wildcard, sum_of_left_out, sum_of_digest}
use Rattle.response_laws.proofs.HashedTold.{IsHashedName, away, below, enclosed, no_encloser, own_denied, no_own_data, no_own_delegation, opted_out_is, no_error, wildcard_denied}
use Rattle.response_laws.proofs.HashedTypes.{own_denies}
use Rattle.response_laws.proofs.LastNames.{IsBare, IsMissing, bare, bare_wildcard, unsynthesized, gone}
use Rattle.response_laws.proofs.LentSets.{owns_kept}
use Rattle.response_laws.proofs.Parts.{path_of, IsMadeOf}
use Rattle.response_laws.proofs.SaidNames.{reached_unturned, missing_said}
use Rattle.response_laws.proofs.Stepped.{IsUndiverted}

module _ (z : Zone) (parameters : Nsec3Parameters) (q : Query) (r : Sections) (d : DeniesByNsec3 z parameters) (signed : q.signed ≡ true) (h : IsMadeOf z q r) where
  abbrev o : Name
  o = z.origin

  -- the sets that deny
  abbrev m : Sets
  m = z.denials

  abbrev t : ℕ
  t = q.record_type

  abbrev hash : Name → Option (List ℕ)
  hash = zone_hash z parameters

  abbrev names : List Name
  names = d.names

  abbrev on_chain : Name → Bool
  on_chain = is_named d.names

  abbrev zone : IsZone z.sets
  zone = d.zone

  abbrev rs : List Nsec3Record
  rs = shown_nsec3 r

  module _ (x : Name) (u : IsUndiverted (inquiry z q) x) (apart : HashesDistinctly z parameters d.names x) where
    abbrev k : IsReached o z.sets x
    k = reached_unturned z q d.top.no_dname x u

    abbrev j : IsHashedName o z.sets m hash parameters names x
    j = hashed_name z parameters q r d signed h x k apart

    abbrev of_zone : AreNsec3OfZone m rs
    of_zone = records_proved z parameters q r d signed h

    shown_there : (own : List RRset) → ((s : RRset) → In s own → In s h.proofs) → (n : Nsec3Record) → In n (read_nsec3_sets own) → In n rs
    shown_there = shown_of z parameters q r d signed h

    -- ---- how a name is without data

    lacks_nsec : OwnsNone m NSEC
    lacks_nsec = no_nsec z parameters q r d signed h

    data IsBareBy : Type 0 where
      -- its own record is there
      by_own : In x names → In (record_of j.zone j.apart x) rs → IsBare z.sets x t → IsBareBy
      -- or without opt-out that of the wildcard at its closest encloser
      by_wildcard : parameters.opt_out ≡ false → exists z.sets x ≡ false → (a c : Name) → on_chain x ≡ false → IsEnclosed names x a c → IsEncloserShown j.zone j.apart a c rs → source_of_synthesis z.sets x ≡ Some (wildcard_under a)
          → In (wildcard_under a) names → In (record_of j.zone j.apart (wildcard_under a)) rs → IsBare z.sets (wildcard_under a) t → IsBareBy
      -- or opt-out leaves it out
      by_opt_out : parameters.opt_out ≡ true → on_chain x ≡ false → proves_opted_out o hash rs x ≡ true → IsBareBy

    bare_by : (wildcard_name : Option Name) (there : Bool) → (path_of z q).end ≡ missing x wildcard_name there → there ≡ true → IsMissing (inquiry z q) x wildcard_name there → IsBareBy
    bare_by wildcard_name there end so (unsynthesized e absent f) = absurd (true≢false (sym so ∙ e))
    bare_by wildcard_name there end so (gone w e f absent g i) = absurd (true≢false (sym so ∙ e))
    bare_by wildcard_name there end so (bare e f exists_there b) = by (on_chain x) refl
      where
        among : (s : RRset) → In s (present_sets o m (zone_owner z parameters) x) → In s h.proofs
        among = present_given z parameters q r d signed h x there (end ∙ ap (λ s. missing x s there) f)

        by : (b : Bool) → on_chain x ≡ b → IsBareBy
        by true on =
            let i = named_in names x on in
            by_own i (shown_there (present_sets o m (zone_owner z parameters) x) among (record_of j.zone j.apart x) (own_matched j.zone j.apart i)) b
        by false away_x = out parameters.opt_out refl
          where
            out : (c : Bool) → parameters.opt_out ≡ c → IsBareBy
            out false all_in = absurd (true≢false (sym (there_on z parameters q r d signed h x k.inside j.reached.uncut (plain_under m x j.reached.no_dname) all_in exists_there) ∙ away_x))
            out true opts =
                let n = enclosed j away_x in
                by_opt_out opts away_x
                (opted_out_is j rs of_zone away_x n.0 n.1 n.2 (encloser_shown z parameters q r d signed h x u apart (present_sets o m (zone_owner z parameters) x) among n.0 n.1 (encloser_matched j.zone j.apart (away j x away_x) n.0 n.1 n.2)) ∙ opts)
    bare_by wildcard_name there end so (bare_wildcard w e f absent g exists_there b) = by parameters.opt_out refl
      where
        s : IsAbsentShown z parameters q r d signed h x u apart w
        s = absent_shown z parameters q r d signed h x u apart w there (end ∙ ap (λ s. missing x s there) f) absent g

        by : (b : Bool) → parameters.opt_out ≡ b → IsBareBy
        by true opts = by_opt_out opts s.off_chain (out_is z parameters q r d signed h x u apart w s ∙ opts)
        by false all_in = by_wildcard all_in absent s.encloser s.closer s.off_chain s.is s.shown (g ∙ ap Some (sym same)) on (s.wildcard_on on) (subst (λ n. IsBare z.sets n t) (sym same) b)
          where
            same : wildcard_under s.encloser ≡ w
            same = s.agrees all_in

            over : IsAbove o x
            over = below j s.off_chain

            up : IsAbove s.encloser x
            up = encloser_above o z.sets m hash parameters names d.chain lacks_nsec x over s.encloser s.is.is_encloser

            inside_wildcard : is_at_or_above o (wildcard_under s.encloser) ≡ true
            inside_wildcard =
                is_at_or_above_complete o (wildcard_under s.encloser)
                (above_through o s.encloser (wildcard_under s.encloser) (encloser_in o z.sets m hash parameters names d.chain lacks_nsec x over s.encloser s.is.is_encloser) (asterisk_label ∷ [], refl))

            on : In (wildcard_under s.encloser) names
            on =
                named_in names (wildcard_under s.encloser)
                (there_on z parameters q r d signed h (wildcard_under s.encloser) inside_wildcard (uncut_wildcard o m x s.encloser j.reached.uncut up) (plain_wildcard m x s.encloser j.reached.no_dname up) all_in (ap (exists z.sets) same ∙ exists_there))

    -- ---- what that proves

    denied_at : (y : Name) → In y names → IsBare z.sets y t → t ≢ RRSIG → (t ≡ DS → is_parents_ds o z.sets y ≡ false) → ((t == DS) ≡ false → owns m y NS ≡ true → owns m y SOA ≡ true) → denies_type o (record_of j.zone j.apart y) y t ≡ true
    denied_at y on b unsigned child beside =
        own_denies j.zone j.apart y on t (lent_not_any z d.denials zone y t b) (lent_unowned z d.denials zone y t b unsigned)
        (λ one q. ap (owns z.sets y) (sym q) ∙ bare_unowned z.sets y t b unsigned one (ap (λ u. u == NSEC3) q)) (lent_alias z d.denials zone y t b) unsigned
        (λ digest. ap (λ b. (b || name_eq y o) && not (is_root y)) (owns_kept z d.denials y SOA refl) ∙ child digest) beside

    flat_kept : (y : Name) → IsUnflattened z.sets y t → IsUnflattened m y t
    flat_kept y flat address = owns_kept z d.denials y ANAME refl ∙ flat address

    no_own : HasNoHashedSet parameters names x → In x names → ⊥
    no_own (opts, none) i = none (In-Contains x names i)

    -- a zone cut without DS has data of no other type, and refers
    is_digest : shows_unsigned_delegation o hash rs x ≡ true → t ≡ DS
    is_digest p = by (t == DS) refl
      where
        cut : IsUnsignedDelegation o m x
        cut = nsec3_unsigned_delegation_sound o z.sets m hash parameters names rs x d.chain apart of_zone p

        by : (b : Bool) → (t == DS) ≡ b → t ≡ DS
        by true e = eqb-true t DS e
        by false e = absurd (true≢false (sym (lent_beside_soa z d.denials q x u d.top.unreferred e cut.delegated) ∙ cut.no_apex))

    no_data_by : HasHashedProvableAbsence o z.sets x t → In x names → In (record_of j.zone j.apart x) rs → IsBare z.sets x t → proves_no_data o hash rs x t ≡ true
    no_data_by s on own b = own_denied j rs of_zone on own t (denied_at x on b s.no_signature s.no_apex (lent_beside_soa z d.denials q x u d.top.unreferred))

    wildcard_data_by : HasHashedProvableAbsence o z.sets x t → exists z.sets x ≡ false → (a c : Name) (out : on_chain x ≡ false) (e : IsEnclosed names x a c) (has : IsEncloserShown j.zone j.apart a c rs) → source_of_synthesis z.sets x ≡ Some (wildcard_under a)
        → In (wildcard_under a) names → In (record_of j.zone j.apart (wildcard_under a)) rs → IsBare z.sets (wildcard_under a) t → proves_wildcard_no_data o hash rs x t ≡ true
    wildcard_data_by s absent a c out e has source on own b =
        wildcard_denied j rs of_zone out a c e has t on own
        (denied_at (wildcard_under a) on b s.no_signature (λ digest. s.no_wildcard_apex absent digest (wildcard_under a) source)
        (λ other ns. absurd (true≢false (sym ns ∙ owns_kept z d.denials (wildcard_under a) NS refl ∙ s.no_wildcard_cut absent (wildcard_under a) source))))

    proved_by : HasHashedProvableAbsence o z.sets x t → IsBareBy → proves_empty_answer o hash rs x t ≡ true
    proved_by s (by_own on own b) =
        or_left (proves_no_data o hash rs x t || proves_opted_out o hash rs x) (proves_wildcard_no_data o hash rs x t) (or_left (proves_no_data o hash rs x t) (proves_opted_out o hash rs x) (no_data_by s on own b))
    proved_by s (by_wildcard all_in absent a c out e has source on own b) =
        or_right (proves_no_data o hash rs x t || proves_opted_out o hash rs x) (proves_wildcard_no_data o hash rs x t) (wildcard_data_by s absent a c out e has source on own b)
    proved_by s (by_opt_out opts out p) = or_left (proves_no_data o hash rs x t || proves_opted_out o hash rs x) (proves_wildcard_no_data o hash rs x t) (or_right (proves_no_data o hash rs x t) (proves_opted_out o hash rs x) p)

    concluded_by : HasHashedProvableAbsence o z.sets x t → IsBareBy → IsEmptyProof t (nsec3_proof o hash rs x t) ⊎ HasNoHashedSet parameters names x
    concluded_by s (by_own on own b) =
        inl
        (sum_of_own o hash rs x t (unhanded z parameters q r d signed h x u apart) (no_encloser j rs of_zone on own (λ r. r.opt_out) (λ e. true)) (no_encloser j rs of_zone on own (λ r. true) (λ e. is_covered o hash rs (wildcard_under e))) is_digest (no_data_by s on own b))
    concluded_by s (by_wildcard all_in absent a c out e has source on own b) =
        inl
        (subst (IsEmptyProof t)
        (sym
        (sum_of_wildcard o hash rs x t (unhanded z parameters q r d signed h x u apart) (opted_out_is j rs of_zone out a c e has ∙ all_in) (no_error j rs of_zone out a c e has on) (no_own_delegation j rs of_zone out) (no_own_data j rs of_zone out t)
        (wildcard_data_by s absent a c out e has source on own b))) refl)
    concluded_by s (by_opt_out opts out p) = inr (opts, λ i. away j x out (Contains-In x names i))

    unsigned_by : IsBareBy → HasNoHashedSet parameters names x → t ≡ DS → nsec3_proof o hash rs x t ≡ Some UnsignedDelegation
    unsigned_by (by_own on shown b) none e = absurd (no_own none on)
    unsigned_by (by_wildcard all_in absent a c out i has source on shown b) (opts, none) e = absurd (true≢false (sym opts ∙ all_in))
    unsigned_by (by_opt_out opts out p) none e = ap (nsec3_proof o hash rs x) e ∙ sum_of_digest o hash rs x (unhanded z parameters q r d signed h x u apart) p

    insecure_by : IsBareBy → HasNoHashedSet parameters names x → IsInsecure (nsec3_proof o hash rs x t) × IsLeftOutOn o m parameters.opt_out names x
    insecure_by (by_own on shown b) none = absurd (no_own none on)
    insecure_by (by_wildcard all_in absent a c out e has source on shown b) (opts, none) = absurd (true≢false (sym opts ∙ all_in))
    insecure_by (by_opt_out opts out p) none = (
      sum_of_left_out o hash rs x t (unhanded z parameters q r d signed h x u apart) p (no_own_data j rs of_zone out t),
      nsec3_absence_sound o z.sets m hash parameters names rs x t d.chain apart of_zone
          (or_left (proves_name_error o hash rs x || proves_opted_out o hash rs x) (proves_wildcard_no_data o hash rs x t) (or_right (proves_name_error o hash rs x) (proves_opted_out o hash rs x) p)),
    )

    none_by : HasHashedProvableAbsence o z.sets x t → IsBareBy → parameters.opt_out ≡ false → is_wildcard x ≡ false → owns m x NSEC3 ≡ false → HasNoHashedStandIn z.sets x t → IsWithoutData o m x t
    none_by s (by_own on own b) all_in plain unhashed flat =
        (sound_proved z parameters q r d signed h x (judged_name z parameters q r d signed h x k apart all_in unhashed)).data' t (flat_kept x flat.own) (no_data_by s on own b)
    none_by s (by_wildcard opts absent a c out e has source on own b) all_in plain unhashed flat =
        ((sound_proved z parameters q r d signed h x (judged_name z parameters q r d signed h x k apart all_in unhashed)).wildcard_data t plain
        (λ n is. subst (λ a. IsUnflattened m (wildcard_under a) t) (same_name a n (sym e.is_encloser ∙ is)) (flat_kept (wildcard_under a) (flat.wildcard_name absent (wildcard_under a) source)))
        (wildcard_data_by s absent a c out e has source on own b)).none
      where
        same_name : (a b : Name) → Some a ≡ Some b → a ≡ b
        same_name a b e = cc
    none_by s (by_opt_out opts out p) all_in plain unhashed flat = absurd (true≢false (sym opts ∙ all_in))

  -- ---- what is said

  pub empty_said : (x : Name) → saying q r ≡ Some (no_data x) → HashesDistinctly z parameters d.names x → IsHashedEmpty z parameters d.names r x q.record_type
  empty_said x e apart =
      let s = missing_said z q r zone signed h true x e in
      let b = bare_by x s.unturned apart s.wildcard_name true s.end refl s.how in
      record {
        proved = λ can. proved_by x s.unturned apart can b;
        call_concludes = λ can. concluded_by x s.unturned apart can b;
        unsigned = unsigned_by x s.unturned apart b;
        insecure = insecure_by x s.unturned apart b;
        none = λ can. none_by x s.unturned apart can b;
      }
