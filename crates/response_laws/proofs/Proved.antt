-- What a response says is proved, case by case
use Rattle.std.proofs.Common.{◌≡◌, ℕ, Bool, true, false, cond, ◌||◌, refl, sym, ap, ◌∙◌, subst, true≢false, ◌⊎◌, inl, inr, eqb-true, IsFalse}
use Rattle.std.specs.Prelude.{Option, Some, None, is_some, ◌==◌}
use Rattle.std.specs.List.{Contains}
use Rattle.std.specs.Option.{option_map_or}
use Rattle.zone_proto.specs.Names.{Name, lower, wildcard_under, is_wildcard}
use Rattle.zone_proto.specs.Sets.{RRset}
use Rattle.zone_proto.specs.Types.{NS, SOA, DS, RRSIG, NSEC}
use Rattle.zone_proto.proofs.Members.{or_left, or_right, In, Contains-In, In-append_left, In-append_right}
use Rattle.zone_map.specs.Wildcards.{exists, renamed, closest_encloser, asked_wildcard_exists}
use Rattle.zone_map.specs.Zones.{Sets, set_at, owns, owns_at_or_below, IsZone}
use Rattle.zone_map.proofs.ExistingNames.{owned_where_existing}
use Rattle.zone_denial.specs.NsecDenial.{nsec_encloser}
use Rattle.zone_denial.proofs.Chains.NsecAskedWildcard.{exists_is}
use Rattle.zone_lookup.specs.Replies.{name_exists, nx_domain}
use Rattle.denial_validation.specs.NsecProofs.{proves_name_error, proves_no_data, proves_empty_non_terminal, proves_wildcard_no_data, proves_empty_answer, proves_unsigned_delegation}
use Rattle.denial_laws.specs.Chains.{IsInScopeOfChain}
use Rattle.denial_laws.specs.Scope.{AreOfZone}
use Rattle.denial_laws.specs.Soundness.{IsWithoutData, IsUnsignedDelegation, IsSound}
use Rattle.denial_laws.proofs.Chains.ShownEnclosers.{judged_wildcard}
use Rattle.denial_laws.proofs.Chains.Soundness.{empty_without_data, records_sound}
use Rattle.denial_laws.proofs.Soundness.{there_from, present}
use Rattle.zone_response.specs.declared.response.Part.TheVariants as part
use Rattle.zone_response.specs.Queries.{Zone, Query, inquiry}
use Rattle.zone_response.specs.Responses.{child_ds, ds_at}
use Rattle.zone_response.specs.Sections.{Sections}
use Rattle.zone_response.specs.Wildcards.{source_of_synthesis}
use Rattle.zone_response.specs.Steps.{End, referred, missing}
use Rattle.response_laws.specs.Contents.{Origin}
use Rattle.response_laws.specs.ProvedSayings.{DeniesByNsec, shown, IsFoundByWildcard, IsAliasData, HasAuthority, HasNoStandIn, HasProvableAbsence, IsProvedError, IsProvedEmpty, IsProvedUnsigned, IsProvedReferral}
use Rattle.response_laws.specs.Sayings.{Saying, data_of, name_error, no_data, referral, saying, name_of}
use Rattle.response_laws.proofs.Answers.{IsMadeFound, ByWildcardOf, path_answers}
use Rattle.response_laws.proofs.BareNames.{lent_not_any, type_unowned, lent_alias, lent_beside_soa}
use Rattle.response_laws.proofs.AgreementNames.{wildcard_asked}
use Rattle.response_laws.proofs.LastNames.{IsBare, IsMissing, bare, bare_wildcard, unsynthesized, gone}
use Rattle.response_laws.proofs.LentSets.{owns_kept, exists_kept, wildcard_kept, delegation_kept}
use Rattle.response_laws.proofs.Origins.{origin_by}
use Rattle.response_laws.proofs.Parts.{path_of, told_at, IsMadeOf}
use Rattle.response_laws.proofs.Said.{Said, says_nothing, says_data, says_referral, says_missing, said}
use Rattle.response_laws.proofs.SaidNames.{same_saying, missing_said, alias_said, IsReferralTo, referral_of}
use Rattle.response_laws.proofs.SentSets.{IsSentSet, authority_part}
use Rattle.response_laws.proofs.Stepped.{IsUndiverted}
use Rattle.response_laws.proofs.Summed.{sum_of_error, sum_of_delegation, sum_of_empty}
use Rattle.response_laws.proofs.Told.{IsReported, over, error_proved, answer_proved, bare as told_bare, bare_by, wildcard_bare_by, delegation_proved}
use Rattle.response_laws.proofs.ToldNames.{no_nsec3, judged_unturned, judged_cut, unowned, wildcard_name_is, is_stated, authority_is, shown_of_zone}

same_name : (a b : Name) → Some a ≡ Some b → a ≡ b
same_name a b e = cc

module _ (z : Zone) (q : Query) (r : Sections) (d : DeniesByNsec z) (signed : q.signed ≡ true) (h : IsMadeOf z q r) where
  abbrev o : Name
  o = z.origin

  -- the sets that deny
  abbrev m : Sets
  m = z.denials

  abbrev t : ℕ
  t = q.record_type

  abbrev zone : IsZone z.sets
  zone = d.zone

  abbrev ends : End
  ends = (path_of z q).end

  -- ---- the sets

  pub authorities_proved : (s : RRset) → Contains r.authorities s → IsSentSet z.denials (authority_part s) s
  authorities_proved s c = authority_is z q r d signed h s (Contains-In s r.authorities c)

  pub records_proved : AreOfZone z.denials (shown r)
  records_proved = shown_of_zone z q r d signed h

  pub sound_proved : (x : Name) → IsInScopeOfChain z.origin z.denials x → IsSound z.origin z.denials x (shown r)
  sound_proved x j = records_sound o m (shown r) x j records_proved

  -- of a wildcard's set under a name for which the wildcard answered
  wildcard_proved : (y : Name) → In y (path_of z q).made → (u : ℕ) (found : RRset) → IsMadeFound (inquiry z q) y u found → IsFoundByWildcard z.origin z.sets (shown r) y u found
  wildcard_proved y i u found k = record {
    encloser = nsec_encloser o m y;
    stored = k.stored;
    stands = ap (λ n. set_at z.sets n u) (sym wildcard_name) ∙ k.stands;
    made = k.is ∙ (λ i. renamed (signed i || (t == RRSIG)) (wildcard_name i) y k.stored);
    proved =
        answer_proved o m y j (shown r) (is_stated z q r d signed h y j (In-append_left y (path_of z q).made (told_at (ds_at z.sets ends) ends) i)) (unowned z d y k.made.absent) (nsec_encloser o m y) e.0;
  }
    where
      j : IsInScopeOfChain o m y
      j = judged_unturned z q d y k.made.unturned

      e : (closest_encloser m y ≡ Some (nsec_encloser o m y)) × (source_of_synthesis z.sets y ≡ Some (wildcard_under (nsec_encloser o m y)))
      e = wildcard_name_is z d y j k.made.absent

      wildcard_name : k.wildcard_name ≡ wildcard_under (nsec_encloser o m y)
      wildcard_name = same_name k.wildcard_name (wildcard_under (nsec_encloser o m y)) (sym k.made.wildcard_name ∙ e.1)

  pub answers_proved : (s : RRset) → Contains r.answers s → Origin (inquiry z q) r.answers (IsFoundByWildcard z.origin z.sets (shown r)) s
  answers_proved s c =
      origin_by (inquiry z q) r.answers s (ByWildcardOf (inquiry z q) (path_of z q).made) (IsFoundByWildcard o z.sets (shown r)) (λ y u found k. wildcard_proved y k.0 u found k.1)
      (subst (λ all. Origin (inquiry z q) all (ByWildcardOf (inquiry z q) (path_of z q).made) s) (sym h.answers)
      (path_answers (inquiry z q) zone q.name s (subst (In s) h.answers (Contains-In s r.answers c))))

  -- ---- of whom something is said

  pub judged_proved : (w : Saying) → saying q r ≡ Some w → IsInScopeOfChain z.origin z.denials (name_of w) ⊎ IsAliasData z q r w
  judged_proved w e = by (said z d.zone q r h)
    where
      of : (v : Saying) → saying q r ≡ Some v → IsInScopeOfChain o m (name_of v) → IsInScopeOfChain z.origin z.denials (name_of w) ⊎ IsAliasData z q r w
      of v f j = inl (subst (λ u. IsInScopeOfChain o m (name_of u)) (same_saying v w (saying q r) f e) j)

      either : (there : Bool) (y : Name) → IsInScopeOfChain o m y → IsInScopeOfChain o m (name_of (cond there (no_data y) (name_error y)))
      either true y j = j
      either false y j = j

      by : Said z q r → IsInScopeOfChain z.origin z.denials (name_of w) ⊎ IsAliasData z q r w
      by (says_nothing f) = let p : None ≡ Some w = sym f ∙ e in absurd cc
      by (says_data y sets f g (inl u)) = of (data_of y) f (judged_unturned z q d y u)
      by (says_data y sets f g (inr a)) = inr (alias_said z q r zone signed h y sets w (same_saying w (data_of y) (saying q r) e f) g a)
      by (says_referral y c f g u) = of (referral (lower c.owner)) f (judged_cut z q d y c u).1
      by (says_missing y wildcard_name there f g u k) = of (cond there (no_data y) (name_error y)) f (either there y (judged_unturned z q d y u))

  -- ---- a name without data

  module _ (x : Name) (wildcard_name : Option Name) (there : Bool) (end : (path_of z q).end ≡ missing x wildcard_name there) (u : IsUndiverted (inquiry z q) x) where
    abbrev j : IsInScopeOfChain o m x
    j = judged_unturned z q d x u

    -- it is told of, and so is the wildcard at its closest encloser
    told_itself : IsReported o m j.zone (shown r) x
    told_itself = is_stated z q r d signed h x j (In-append_right x (path_of z q).made (told_at (ds_at z.sets ends) ends) (subst (λ e. In x (told_at (ds_at z.sets e) e)) (sym end) (inl refl)))

    told_wildcard : (w : Name) → wildcard_name ≡ Some w → (k : IsInScopeOfChain o m w) → IsReported o m k.zone (shown r) w
    told_wildcard w e k =
        is_stated z q r d signed h w k
        (In-append_right w (path_of z q).made (told_at (ds_at z.sets ends) ends)
        (subst (λ e. In w (told_at (ds_at z.sets e) e)) (sym (end ∙ ap (λ s. missing x s there) e)) (inr (inl refl))))

    -- the wildcard is that of the chain's encloser
    wildcard_of_chain : (w : Name) → exists z.sets x ≡ false → source_of_synthesis z.sets x ≡ Some w → w ≡ wildcard_under (nsec_encloser o m x)
    wildcard_of_chain w absent e = same_name w (wildcard_under (nsec_encloser o m x)) (sym e ∙ (wildcard_name_is z d x j absent).1)

    pub error_shown : there ≡ false → IsMissing (inquiry z q) x wildcard_name there → proves_name_error z.origin (shown r) x ≡ true
    error_shown gone' (bare e f g b) = absurd (true≢false (sym e ∙ gone'))
    error_shown gone' (bare_wildcard w e f absent g k b) = absurd (true≢false (sym e ∙ gone'))
    error_shown gone' (unsynthesized e absent f) = let p : None ≡ Some (wildcard_under (nsec_encloser o m x)) = sym f ∙ (wildcard_name_is z d x j absent).1 in absurd cc
    error_shown gone' (gone w e f absent g k) =
        let none = unowned z d x absent in
        let up = over o m x j (shown r) told_itself none in
        let same = wildcard_of_chain w absent g in
        let k' = judged_wildcard o m x j up in
        error_proved o m x j (shown r) told_itself none k'.zone (told_wildcard (wildcard_under (nsec_encloser o m x)) (f ∙ ap Some same) k')
        (unowned z d (wildcard_under (nsec_encloser o m x)) (ap (exists z.sets) (sym same) ∙ k))

    there_below : (y : Name) → exists z.sets y ≡ true → owns_at_or_below m y ≡ true
    there_below y k = sym (exists_is o m d.chain (no_nsec3 z d) y) ∙ exists_kept z d.denials y ∙ k

    beside : (t == DS) ≡ false → owns m x NS ≡ true → owns m x SOA ≡ true
    beside = lent_beside_soa z d.denials q x u d.top.unreferred

    -- it is there without data, as its own record or the one before it shows, or the wildcard's
    data BareBy : Type 0 where
      by_own : proves_no_data o (shown r) x t ≡ true → BareBy
      by_empty : proves_empty_non_terminal o (shown r) x ≡ true → BareBy
      by_wildcard : exists z.sets x ≡ false → proves_wildcard_no_data o (shown r) x t ≡ true → BareBy

    bare_shown : there ≡ true → HasProvableAbsence o m x t → IsMissing (inquiry z q) x wildcard_name there → BareBy
    bare_shown so s (bare e f there' b) =
        by
        (bare_by o m x j (shown r) told_itself (there_below x there') t s.no_signature (lent_not_any z d.denials zone x t b NSEC) (type_unowned z d.denials zone x t b (no_nsec3 z d) s.no_signature) (lent_alias z d.denials zone x t b)
        beside s.no_apex)
      where
        by : (proves_no_data o (shown r) x t ≡ true) ⊎ (proves_empty_non_terminal o (shown r) x ≡ true) → BareBy
        by (inl p) = by_own p
        by (inr p) = by_empty p
    bare_shown so s (bare_wildcard w e f absent g there' b) =
        let none = unowned z d x absent in
        let same = wildcard_of_chain w absent g in
        let k = judged_wildcard o m x j (over o m x j (shown r) told_itself none) in
        let c : IsBare z.sets wildcard_name' t = subst (λ n. IsBare z.sets n t) same b in
        let gone' = exists_kept z d.denials x ∙ absent in
        by_wildcard absent
        (wildcard_bare_by o m x j (shown r) told_itself none t
        (told_bare o m wildcard_name' k (shown r) (told_wildcard wildcard_name' (f ∙ ap Some same) k) (there_below wildcard_name' (ap (exists z.sets) (sym same) ∙ there')) t s.no_signature (lent_not_any z d.denials zone wildcard_name' t c NSEC)
        (type_unowned z d.denials zone wildcard_name' t c (no_nsec3 z d) s.no_signature) (lent_alias z d.denials zone wildcard_name' t c) (λ other ns. absurd (true≢false (sym ns ∙ s.no_wildcard_cut gone'))) (s.no_wildcard_apex gone')))
      where
        wildcard_name' : Name
        wildcard_name' = wildcard_under (nsec_encloser o m x)
    bare_shown so s (unsynthesized e absent f) = absurd (true≢false (sym so ∙ e))
    bare_shown so s (gone w e f absent g k) = absurd (true≢false (sym so ∙ e))

    empty_from : BareBy → proves_empty_answer z.origin (shown r) x t ≡ true
    empty_from (by_own p) = or_left (proves_no_data o (shown r) x t || proves_empty_non_terminal o (shown r) x) (proves_wildcard_no_data o (shown r) x t) (or_left (proves_no_data o (shown r) x t) (proves_empty_non_terminal o (shown r) x) p)
    empty_from (by_empty p) = or_left (proves_no_data o (shown r) x t || proves_empty_non_terminal o (shown r) x) (proves_wildcard_no_data o (shown r) x t) (or_right (proves_no_data o (shown r) x t) (proves_empty_non_terminal o (shown r) x) p)
    empty_from (by_wildcard absent p) = or_right (proves_no_data o (shown r) x t || proves_empty_non_terminal o (shown r) x) (proves_wildcard_no_data o (shown r) x t) p

    none_from : IsFalse (is_wildcard x) → HasNoStandIn o m x t → BareBy → IsWithoutData z.origin z.denials x t
    none_from plain flat (by_own p) = (sound_proved x j).data' t flat.own p
    none_from plain flat (by_empty p) = empty_without_data o m x j ((sound_proved x j).empty p) t
    none_from plain flat (by_wildcard absent p) = ((sound_proved x j).wildcard_data t plain (flat.wildcard_name (exists_kept z d.denials x ∙ absent)) p).none

    -- it is no name error
    no_error : there ≡ true → IsFalse (is_wildcard x) → IsMissing (inquiry z q) x wildcard_name there → proves_name_error o (shown r) x ≡ false
    no_error so plain k = by (proves_name_error o (shown r) x) refl
      where
        is_present : IsMissing (inquiry z q) x wildcard_name there → owns_at_or_below m x || asked_wildcard_exists m x ≡ true
        is_present (bare e f there' b) = or_left (owns_at_or_below m x) (asked_wildcard_exists m x) (owned_where_existing x m (exists_kept z d.denials x ∙ there'))
        is_present (bare_wildcard w e f absent g there' b) = or_right (owns_at_or_below m x) (asked_wildcard_exists m x) (ap (λ o. option_map_or (exists m) o false) (wildcard_asked m x (exists_kept z d.denials x ∙ absent) plain ∙ wildcard_kept z d.denials x ∙ g) ∙ exists_kept z d.denials w ∙ there')
        is_present (unsynthesized e absent f) = absurd (true≢false (sym so ∙ e))
        is_present (gone w e f absent g i) = absurd (true≢false (sym so ∙ e))

        by : (b : Bool) → proves_name_error o (shown r) x ≡ b → b ≡ false
        by false p = refl
        by true p = let e : nx_domain ≡ name_exists = sym ((sound_proved x j).error p).denied ∙ present o m x (is_present k) in absurd cc

    -- a zone cut without DS has data of no other type, and refers
    is_digest : proves_unsigned_delegation o (shown r) x ≡ true → t ≡ DS
    is_digest p = by (t == DS) refl
      where
        cut : IsUnsignedDelegation o m x
        cut = (sound_proved x j).delegation p

        by : (b : Bool) → (t == DS) ≡ b → t ≡ DS
        by true e = eqb-true t DS e
        by false e = absurd (true≢false (sym (beside e cut.delegated) ∙ cut.no_apex))

    pub empty_shown : there ≡ true → IsMissing (inquiry z q) x wildcard_name there → IsProvedEmpty z r x t
    empty_shown so k = record {
      proved = λ s. empty_from (bare_shown so s k);
      call_concludes = λ s plain. sum_of_empty o (shown r) x t (no_error so plain k) is_digest (empty_from (bare_shown so s k));
      none = λ s plain flat. none_from plain flat (bare_shown so s k);
    }

  -- ---- what is said

  pub error_said : (x : Name) → saying q r ≡ Some (name_error x) → IsProvedError z r x
  error_said x e =
      let k = missing_said z q r zone signed h false x e in
      let p = error_shown x k.wildcard_name false k.end k.unturned refl k.how in
      record {
        proved = p;
        call_concludes = λ u. sum_of_error o (shown r) x u p;
        none = (sound_proved x (judged_unturned z q d x k.unturned)).error p;
      }

  pub empty_said : (x : Name) → saying q r ≡ Some (no_data x) → IsProvedEmpty z r x q.record_type
  empty_said x e = let k = missing_said z q r zone signed h true x e in empty_shown x k.wildcard_name true k.end k.unturned refl k.how

  -- a zone cut is no name error
  unsigned_child : (c : Name) → IsInScopeOfChain o m c → owns m c NS ≡ true → proves_unsigned_delegation z.origin (shown r) c ≡ true → IsProvedUnsigned z r c
  unsigned_child c k ns p = record {
    proved = p;
    call_concludes = λ u. sum_of_delegation o (shown r) c u (by (proves_name_error o (shown r) c) refl) p;
    none = delegation_kept z d.denials c ((sound_proved c k).delegation p);
  }
    where
      by : (b : Bool) → proves_name_error o (shown r) c ≡ b → b ≡ false
      by false e = refl
      by true e =
          let w : nx_domain ≡ name_exists = sym ((sound_proved c k).error e).denied ∙ present o m c (or_left (owns_at_or_below m c) (asked_wildcard_exists m c) (there_from m c NS ns)) in
          absurd cc

  pub referral_said : (c : Name) → saying q r ≡ Some (referral c) → IsProvedReferral z r (IsProvedUnsigned z r) c
  referral_said c e = subst (IsProvedReferral z r (IsProvedUnsigned z r)) k.child (record { servers = k.servers cut.0; keys = λ no_apex. keys no_apex k.keys })
    where
      k : IsReferralTo z q r zone signed h c
      k = referral_of z q r zone signed h c e

      own : Name
      own = lower k.set.owner

      cut : (set_at z.sets (lower k.set.owner) NS ≡ Some k.set) × IsInScopeOfChain o m (lower k.set.owner)
      cut = judged_cut z q d k.last k.set k.refers

      ns : owns m own NS ≡ true
      ns = owns_kept z d.denials own NS refl ∙ ap is_some cut.0

      proved : child_ds z.sets k.set ≡ None → owns z.sets own SOA ≡ false → proves_unsigned_delegation o (shown r) own ≡ true
      proved f no_apex =
          delegation_proved o m own cut.1 (shown r)
          (is_stated z q r d signed h own cut.1
          (In-append_right own (path_of z q).made (told_at (ds_at z.sets ends) ends)
          (subst (λ e. In own (told_at (ds_at z.sets e) e)) (sym k.end) (subst (λ d. In own (told_at d (referred k.set))) (sym f) (inl refl)))))
          ns (owns_kept z d.denials own DS refl ∙ ap is_some f) (owns_kept z d.denials own SOA refl ∙ no_apex)

      keys : owns z.sets own SOA ≡ false → HasAuthority z r part.Signed own DS ⊎ (child_ds z.sets k.set ≡ None) → HasAuthority z r part.Signed own DS ⊎ IsProvedUnsigned z r own
      keys no_apex (inl ds) = inl ds
      keys no_apex (inr f) = inr (unsigned_child own cut.1 ns (proved f no_apex))
