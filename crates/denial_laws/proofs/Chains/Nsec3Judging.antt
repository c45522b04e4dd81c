-- Which judged names of a zone that NSEC3 denies are there, and what proves the closest encloser of one that isn't
use Rattle.std.proofs.Common.{◌≡◌, ℕ, Bool, true, false, not, ◌&&◌, ◌||◌, List, [], ◌∷◌, drop, refl, sym, ap, ◌∙◌, subst, true≢false, ◌⊎◌, inl, inr, arith, eqb-true, eq-eqb, IsFalse}
use Rattle.std.specs.Prelude.{Option, Some, None, find, ◌==◌, ◌≢◌}
use Rattle.std.specs.Cmp.{both_ways}
use Rattle.std.specs.List.{list_any, Contains}
use Rattle.std.specs.Option.{option_map_or}
use Rattle.zone_proto.specs.declared.rdata.denial.NSEC3PARAM.{NSEC3PARAM as Nsec3Parameters}
use Rattle.zone_proto.specs.HashedOwners.{hashed_owner}
use Rattle.zone_proto.specs.Names.{Name, asterisk_label, is_above, is_at_or_above, IsAtOrAbove, IsAbove, proper_ancestors, wildcard_under, is_wildcard}
use Rattle.zone_proto.specs.Types.{NS, SOA, RRSIG, NSEC, NSEC3, DNAME}
use Rattle.zone_proto.proofs.Members.{In, In-Contains, Contains-In, In-from_any, any_from_In, none_passes, and_left, and_right, or_right}
use Rattle.zone_proto.proofs.Names.NameTree.{above_test, is_at_or_above_sound, is_at_or_above_complete}
use Rattle.zone_proto.proofs.Names.Tree.{above_cases}
use Rattle.zone_map.specs.SearchLaws.{WildcardIsOfClosestEncloser}
use Rattle.zone_map.specs.Wildcards.{exists, asked_wildcard, asked_wildcard_exists}
use Rattle.zone_map.specs.Zones.{Sets, owns, owners, names_of, owns_at_or_below}
use Rattle.zone_map.proofs.Owned.{name_owned, owner_in, owner_owned}
use Rattle.zone_map.proofs.Wildcards.{wildcard_is_of_closest_encloser}
use Rattle.zone_denial.specs.Authority.{is_below_cut, owns_besides}
use Rattle.zone_denial.specs.Nsec3Denial.{encloser_on}
use Rattle.zone_denial.specs.Chains.{is_delegation, is_insecure_delegation, is_below_dname, is_stated_at_delegation, is_stated, IsRightList, may_be_left_out, IsNsec3Chain}
use Rattle.zone_denial.specs.Nsec3Zones.{IsHashedOn, HasDistinctDigests}
use Rattle.zone_denial.proofs.Names.AuthoritativeNames.{authoritative_from, besides_from}
use Rattle.zone_denial.proofs.Names.ExistingAncestors.{exists_from, unowned_absent}
use Rattle.zone_denial.proofs.Names.LongestAncestors.{above_above, above_shorter, IsLongestAbove, longest_is, longest_above, others_above}
use Rattle.zone_denial.proofs.Chains.NsecBelow.{open_itself}
use Rattle.zone_denial.proofs.Chains.NsecLists.{list_right, list_signed, delegation_below, delegation_owns, not_delegation}
use Rattle.zone_denial.proofs.Chains.Nsec3AskedWildcard.{named_exists, exists_named, proved_wildcard_is_asked}
use Rattle.zone_denial.proofs.Chains.Nsec3Owners.{set_of_named}
use Rattle.zone_denial.proofs.Chains.Nsec3Names.{is_named, named_in, in_named, origin_in, IsEnclosed}
use Rattle.zone_denial.proofs.Chain.NsecAskedWildcard.{other_type}
use Rattle.zone_denial.proofs.Chain.NsecBelow.{above_at, above_through}
use Rattle.denial_validation.specs.Encloser.{next_closer}
use Rattle.denial_validation.specs.Nsec3Proofs.{lists, is_of_encloser, matches, covers, is_matched, shown_encloser, encloser_and}
use Rattle.denial_validation.specs.Nsec3Records.{Nsec3Record}
use Rattle.denial_laws.specs.Nsec3Chains.{IsInNsec3ScopeOfChain}
use Rattle.denial_laws.proofs.Chains.Nsec3Matches.{covers_is, unmatched, matches_itself, matched_by}
use Rattle.denial_laws.proofs.Chains.Nsec3Readings.{record_of, listed_types, types_are}
use Rattle.denial_laws.proofs.Chains.Nsec3Shown.{IsShown}
use Rattle.denial_laws.proofs.ShownEnclosers.{same_name, above_wildcard}
use Rattle.denial_laws.proofs.Tests.{refuted}

-- ---- what a record lists

module _ {origin : Name} {beside m : Sets} {hash : Name → Option (List ℕ)} {parameters : Nsec3Parameters} {names : List Name} {x : Name} (zone : IsNsec3Chain origin beside m hash parameters names) (apart : HasDistinctDigests (IsHashedOn names x) hash)
    (n : Name) (i : In n names) where
  abbrev r : Nsec3Record
  r = record_of zone apart n

  right : IsRightList origin m n (listed_types zone apart n)
  right = let s = set_of_named zone apart n i in subst (IsRightList origin m n) (types_are zone apart n i) s.2.right

  pub no_hashed : lists r NSEC3 ≡ false
  no_hashed = by (lists r NSEC3) refl
    where
      by : (b : Bool) → lists r NSEC3 ≡ b → b ≡ false
      by false e = refl
      by true e =
          let s = set_of_named zone apart n i in
          let u = In-from_any (λ u. u == NSEC3) (listed_types zone apart n) e in
          absurd (s.2.no_hashed (subst (λ ts. Contains ts NSEC3) (sym (types_are zone apart n i)) (In-Contains NSEC3 (listed_types zone apart n) (subst (λ u. In u (listed_types zone apart n)) (eqb-true u.0 NSEC3 u.2) u.1))))

  has_type : (t : ℕ) → Contains (listed_types zone apart n) t → lists r t ≡ true
  has_type t c = any_from_In (λ u. u == t) t (listed_types zone apart n) (Contains-In t (listed_types zone apart n) c) (eq-eqb t t refl)

  type_in : (t : ℕ) → lists r t ≡ true → Contains (listed_types zone apart n) t
  type_in t e =
      let u = In-from_any (λ u. u == t) (listed_types zone apart n) e in
      In-Contains t (listed_types zone apart n) (subst (λ u. In u (listed_types zone apart n)) (eqb-true u.0 t u.2) u.1)

  -- of NSEC
  told_nsec : is_stated origin m n NSEC ≡ true → is_delegation origin m n ≡ false
  told_nsec k = by (is_delegation origin m n) refl
    where
      by : (d : Bool) → is_delegation origin m n ≡ d → d ≡ false
      by false e = refl
      by true e = absurd (true≢false (sym k ∙ ap (λ d. not d || is_stated_at_delegation NSEC) e))

  nsec_listed : is_stated origin m n NSEC ≡ true → (owns m n NSEC ≡ true → Contains (listed_types zone apart n) NSEC) × (Contains (listed_types zone apart n) NSEC → (owns m n NSEC ≡ true) ⊎ (owns beside n NSEC ≡ true))
  nsec_listed k =
      let s = set_of_named zone apart n i in
      subst (λ ts. (owns m n NSEC ≡ true → Contains ts NSEC) × (Contains ts NSEC → (owns m n NSEC ≡ true) ⊎ (owns beside n NSEC ≡ true))) (types_are zone apart n i) (s.2.nsec (told_nsec k))

  pub owned_listed : (t : ℕ) → owns m n t ≡ true → t ≢ RRSIG → t ≢ NSEC3 → is_stated origin m n t ≡ true → lists r t ≡ true
  owned_listed t k a b call_concludes = by (t == NSEC) refl
    where
      by : (c : Bool) → (t == NSEC) ≡ c → lists r t ≡ true
      by true q =
          let same = eqb-true t NSEC q in
          ap (lists r) same ∙ has_type NSEC ((nsec_listed (ap (is_stated origin m n) (sym same) ∙ call_concludes)).0 (ap (owns m n) (sym same) ∙ k))
      by false q = has_type t ((list_right origin m n (listed_types zone apart n) right t a (λ g. true≢false (sym (eq-eqb t NSEC g) ∙ q)) b call_concludes).1 k)

  -- RRSIG, if it is owned, too
  pub signature_listed : owns m n RRSIG ≡ true → is_delegation origin m n ≡ false → lists r RRSIG ≡ true
  signature_listed k d = any_from_In (λ u. u == RRSIG) RRSIG (listed_types zone apart n) (Contains-In RRSIG (listed_types zone apart n) (list_signed origin m n (listed_types zone apart n) right k d)) refl

  -- what is listed is owned, but for NSEC that stands beside the chain
  pub listed_owned : (t : ℕ) → t ≢ RRSIG → (t ≡ NSEC → owns beside n NSEC ≡ false) → is_stated origin m n t ≡ true → lists r t ≡ true → owns m n t ≡ true
  listed_owned t a none call_concludes e = by (t == NSEC3) refl (t == NSEC) refl
    where
      of : t ≡ NSEC → (owns m n NSEC ≡ true) ⊎ (owns beside n NSEC ≡ true) → owns m n t ≡ true
      of same (inl k) = ap (owns m n) same ∙ k
      of same (inr k) = absurd (true≢false (sym k ∙ none same))

      by : (b : Bool) → (t == NSEC3) ≡ b → (c : Bool) → (t == NSEC) ≡ c → owns m n t ≡ true
      by true q c w = absurd (true≢false (sym (ap (lists r) (sym (eqb-true t NSEC3 q)) ∙ e) ∙ no_hashed))
      by false q true w =
          let same = eqb-true t NSEC w in
          of same ((nsec_listed (ap (is_stated origin m n) (sym same) ∙ call_concludes)).1 (type_in NSEC (ap (lists r) (sym same) ∙ e)))
      by false q false w =
          (list_right origin m n (listed_types zone apart n) right t a (λ g. true≢false (sym (eq-eqb t NSEC g) ∙ w)) (λ g. true≢false (sym (eq-eqb t NSEC3 g) ∙ q)) call_concludes).0 (type_in t e)

  pub unlisted : (t : ℕ) → t ≢ RRSIG → (t ≡ NSEC → owns beside n NSEC ≡ false) → is_stated origin m n t ≡ true → owns m n t ≡ false → lists r t ≡ false
  unlisted t a none call_concludes k = by (lists r t) refl
    where
      by : (c : Bool) → lists r t ≡ c → c ≡ false
      by true e = absurd (true≢false (sym (listed_owned t a none call_concludes e) ∙ k))
      by false e = refl

  -- of the four types of which each list tells

  not_signature : (t : ℕ) → is_stated_at_delegation t ≡ true → t ≢ RRSIG
  not_signature t k e = true≢false (sym k ∙ ap is_stated_at_delegation e)

  not_named : (t : ℕ) → is_stated_at_delegation t ≡ true → t ≡ NSEC → owns beside n NSEC ≡ false
  not_named t k e = absurd (true≢false (sym k ∙ ap is_stated_at_delegation e))

  not_hashed : (t : ℕ) → is_stated_at_delegation t ≡ true → t ≢ NSEC3
  not_hashed t k e = true≢false (sym k ∙ ap is_stated_at_delegation e)

  pub call_concludes : (t : ℕ) → is_stated_at_delegation t ≡ true → is_stated origin m n t ≡ true
  call_concludes t k = or_right (not (is_delegation origin m n)) (is_stated_at_delegation t) k

  pub told_listed : (t : ℕ) → is_stated_at_delegation t ≡ true → owns m n t ≡ true → lists r t ≡ true
  told_listed t k o = owned_listed t o (not_signature t k) (not_hashed t k) (call_concludes t k)

  pub told_owned : (t : ℕ) → is_stated_at_delegation t ≡ true → lists r t ≡ true → owns m n t ≡ true
  told_owned t k = listed_owned t (not_signature t k) (not_named t k) (call_concludes t k)

  pub told_unlisted : (t : ℕ) → is_stated_at_delegation t ≡ true → owns m n t ≡ false → lists r t ≡ false
  told_unlisted t k = unlisted t (not_signature t k) (not_named t k) (call_concludes t k)

module _ {origin : Name} {beside m : Sets} {hash : Name → Option (List ℕ)} {parameters : Nsec3Parameters} {names : List Name} {x : Name} (j : IsInNsec3ScopeOfChain origin beside m hash parameters names x) where
  abbrev on_chain : Name → Bool
  on_chain = is_named names

  -- ---- which names are there

  -- what is above x is no DNAME
  pub undnamed : (n : Name) → ((a : Name) → IsAbove a n → IsAbove a x) → is_below_dname m n ≡ false
  undnamed n up = by (is_below_dname m n) refl
    where
      by : (b : Bool) → is_below_dname m n ≡ b → b ≡ false
      by false e = refl
      by true e =
          let r = In-from_any (λ a. is_above a n) (owners m DNAME) e in
          absurd (true≢false (sym (owner_owned m r.0 DNAME r.1) ∙ j.no_dname r.0 (up r.0 ((above_test r.0 n).0 r.2))))

  -- below no zone cut and no DNAME a name is there exactly where it is one of the chain
  pub exists_is : (n : Name) → IsAtOrAbove origin n → is_below_cut origin m n ≡ false → is_below_dname m n ≡ false → exists m n ≡ on_chain n
  exists_is n u uncut plain = both_ways (exists m n) (on_chain n) (λ k. to k (owns_besides m NSEC3 n) refl) (λ k. named_exists origin beside m hash parameters names j.zone j.one_kind n (In-Contains n names (named_in names n k)))
    where
      left_in : Contains names n ⊎ (may_be_left_out origin m parameters.opt_out n ≡ true) → on_chain n ≡ true
      left_in (inl c) = in_named names n (Contains-In n names c)
      left_in (inr e) = absurd (true≢false (sym e ∙ (λ i. plain i || (j.all_in i && is_insecure_delegation origin m n))))

      to : exists m n ≡ true → (b : Bool) → owns_besides m NSEC3 n ≡ b → on_chain n ≡ true
      to k true e = left_in (j.zone.complete n (authoritative_from origin m NSEC3 n (is_at_or_above_complete origin n u) e uncut))
      to k false e =
          in_named names n
          (Contains-In n names (exists_named origin beside m hash parameters names j.zone j.one_kind j.all_in n u (open_itself origin m n uncut plain (unowned NS refl) (unowned DNAME refl)) k))
        where
          unowned : (t : ℕ) → not (t == NSEC3) ≡ true → owns m n t ≡ false
          unowned t o = refuted (owns m n t) (λ q. true≢false (sym (besides_from m NSEC3 n t o q) ∙ e))

  pub plain_x : is_below_dname m x ≡ false
  plain_x = undnamed x (λ a u. u)

  in_zone : IsAtOrAbove origin x
  in_zone = is_at_or_above_sound origin x j.inside

  -- the name in scope is there exactly where it is in the chain
  pub there_is : owns_at_or_below m x ≡ on_chain x
  there_is = both_ways (owns_at_or_below m x) (on_chain x) to from
    where
      from : on_chain x ≡ true → owns_at_or_below m x ≡ true
      from e = by (owns_at_or_below m x) refl
        where
          by : (b : Bool) → owns_at_or_below m x ≡ b → b ≡ true
          by true q = refl
          by false q = absurd (true≢false (sym (exists_is x in_zone j.uncut plain_x ∙ e) ∙ unowned_absent m x q))

      -- a hashed owner at or below the name is the name itself, or the name is the origin
      hashed : (d : Name) → owns m d NSEC3 ≡ true → IsAtOrAbove x d → on_chain x ≡ true
      hashed d k u = by (above_cases x d u)
        where
          above : IsAbove x d → (n : Name) × (e : List ℕ) × Contains names n × (hash n ≡ Some e) × (d ≡ hashed_owner origin e) → on_chain x ≡ true
          above (l, f, q) (n, e, i, h, p) = ap on_chain (same_name x origin (f, ap (drop 1) (sym p ∙ q)) in_zone) ∙ in_named names origin (origin_in names origin j.zone.begins)

          by : (x ≡ d) ⊎ IsAbove x d → on_chain x ≡ true
          by (inl e) = absurd (true≢false (sym k ∙ ap (λ n. owns m n NSEC3) (sym e) ∙ j.no_hashed_owner))
          by (inr a) = above a (j.zone.no_other d k)

      to : owns_at_or_below m x ≡ true → on_chain x ≡ true
      to e =
          let r = In-from_any (is_at_or_above x) (names_of m) e in
          let t = name_owned m r.0 r.1 in
          by r.0 t.0 t.1 (is_at_or_above_sound x r.0 r.2) (t.0 == NSEC3) refl
        where
          by : (d : Name) (t : ℕ) → owns m d t ≡ true → IsAtOrAbove x d → (b : Bool) → (t == NSEC3) ≡ b → on_chain x ≡ true
          by d t k u true q = hashed d (ap (owns m d) (sym (eqb-true t NSEC3 q)) ∙ k) u
          by d t k u false q = sym (exists_is x in_zone j.uncut plain_x) ∙ exists_from m x d t k (λ i. other_type m d t NSEC j.one_kind k i || q i) u

  module _ (a : Name) (is : encloser_on names x ≡ Some a) where
    longest : IsLongestAbove on_chain x a
    longest = longest_is on_chain x a is

    pub encloser_above : IsAbove a x
    encloser_above = longest.above

    module _ (over : IsAbove origin x) where
      pub encloser_in : IsAtOrAbove origin a
      encloser_in = others_above on_chain x a origin longest over (in_named names origin (origin_in names origin j.zone.begins))

      pub wildcard_in : IsAtOrAbove origin (wildcard_under a)
      wildcard_in = above_through origin a (wildcard_under a) encloser_in (asterisk_label ∷ [], refl)

      pub wildcard_uncut : is_below_cut origin m (wildcard_under a) ≡ false
      wildcard_uncut = by (is_below_cut origin m (wildcard_under a)) refl
        where
          by : (b : Bool) → is_below_cut origin m (wildcard_under a) ≡ b → b ≡ false
          by false q = refl
          by true q =
              let r = In-from_any (λ c. is_above origin c && is_above c (wildcard_under a)) (owners m NS) q in
              let u = above_above r.0 a x (above_wildcard r.0 a ((above_test r.0 (wildcard_under a)).0 (and_right (is_above origin r.0) (is_above r.0 (wildcard_under a)) r.2))) encloser_above in
              absurd (none_passes (λ c. is_above origin c && is_above c x) r.0 (owners m NS) j.uncut r.1 (λ i. and_left (is_above origin r.0) (is_above r.0 (wildcard_under a)) r.2 i && (above_test r.0 x).1 u i))

      pub wildcard_plain : is_below_dname m (wildcard_under a) ≡ false
      wildcard_plain = undnamed (wildcard_under a) (λ b u. above_above b a x (above_wildcard b a u) encloser_above)

      -- whatever wildcard is asked is the one under the encloser, and the name doesn't exist
      pub asked_only : (w : Name) → asked_wildcard m x ≡ Some w → (w ≡ wildcard_under a) × (exists m x ≡ false)
      asked_only w e =
          let law : WildcardIsOfClosestEncloser = wildcard_is_of_closest_encloser in
          let absent = law.absent m x w e in
          (same_value w (wildcard_under a) (sym e ∙ proved_wildcard_is_asked origin beside m hash parameters names j.zone j.all_in j.one_kind x ((above_test origin x).1 over) j.uncut plain_x (law.plain m x w e) absent a is), absent)
        where
          same_value : (a b : Name) → Some a ≡ Some b → a ≡ b
          same_value a b e = cc

      -- so a wildcard at the closest encloser exists exactly where that one is in the chain
      pub no_wildcard_name : on_chain (wildcard_under a) ≡ false → asked_wildcard_exists m x ≡ false
      no_wildcard_name none = by (asked_wildcard m x) refl
        where
          by : (o : Option Name) → asked_wildcard m x ≡ o → option_map_or (exists m) o false ≡ false
          by None e = refl
          by (Some w) e = ap (exists m) (asked_only w e).0 ∙ exists_is (wildcard_under a) wildcard_in wildcard_uncut wildcard_plain ∙ none

      pub wildcard_there : asked_wildcard_exists m x ≡ true → (asked_wildcard m x ≡ Some (wildcard_under a)) × (on_chain (wildcard_under a) ≡ true)
      wildcard_there s = by (asked_wildcard m x) refl s
        where
          by : (o : Option Name) → asked_wildcard m x ≡ o → option_map_or (exists m) o false ≡ true → (asked_wildcard m x ≡ Some (wildcard_under a)) × (on_chain (wildcard_under a) ≡ true)
          by None e p = absurd (true≢false (sym p))
          by (Some w) e p = let q = (asked_only w e).0 in (e ∙ ap Some q, sym (exists_is (wildcard_under a) wildcard_in wildcard_uncut wildcard_plain) ∙ ap (exists m) (sym q) ∙ p)

      pub wildcard_gone : IsFalse (is_wildcard x) → owns_at_or_below m x ≡ false → asked_wildcard_exists m x ≡ false → on_chain (wildcard_under a) ≡ false
      wildcard_gone plain none gone =
          sym (exists_is (wildcard_under a) wildcard_in wildcard_uncut wildcard_plain)
          ∙ sym (ap (λ p. option_map_or (exists m) p false) (proved_wildcard_is_asked origin beside m hash parameters names j.zone j.all_in j.one_kind x ((above_test origin x).1 over) j.uncut plain_x plain (unowned_absent m x none) a is))
          ∙ gone

  -- ---- the record of an encloser is of no name that hands on what is below it

  pub of_encloser : (a : Name) → In a names → IsAtOrAbove origin a → IsAbove a x → is_of_encloser (record_of j.zone j.apart a) ≡ true
  of_encloser a on u v = λ i. not (unlisted j.zone j.apart a on DNAME (λ e. omega (arith, e)) (λ e. absurd (omega (arith, e))) (ap (λ b. not b || is_stated_at_delegation DNAME) (not_delegation origin m a undelegated)) (j.no_dname a v) i) && delegates (lists r NS) refl i
    where
      r : Nsec3Record
      r = record_of j.zone j.apart a

      no_cut : owns m a NS ≡ true → is_above origin a ≡ true → ⊥
      no_cut k w = none_passes (λ c. is_above origin c && is_above c x) a (owners m NS) j.uncut (owner_in m a NS k) (λ i. w i && (above_test a x).1 v i)

      undelegated : is_delegation origin m a ≡ true → ⊥
      undelegated d = no_cut (delegation_owns origin m a d).0 (delegation_below origin m a d)

      apex : owns m a NS ≡ true → (origin ≡ a) ⊎ IsAbove origin a → owns m a SOA ≡ true
      apex k (inl e) = j.unreferred a ([], e) k
      apex k (inr w) = absurd (no_cut k ((above_test origin a).1 w))

      delegates : (b : Bool) → lists r NS ≡ b → not b || lists r SOA ≡ true
      delegates false e = refl
      delegates true e = told_listed j.zone j.apart a on SOA refl (apex (told_owned j.zone j.apart a on NS refl e) (above_cases origin a u))

  -- ---- the closest encloser proof

  module _ (a c : Name) (e : IsEnclosed names x a c) (rs : List Nsec3Record) (of_names : (r : Nsec3Record) → In r rs → (n : Name) × In n names × (r ≡ record_of j.zone j.apart n))
      (over : IsAbove origin x)
    where
      hashed_between : (n : Name) → IsAtOrAbove n x → IsAtOrAbove a n → IsHashedOn names x n
      hashed_between n u v = inr (a, e.is_encloser, inl (u, v))

      abbrev shows : Name → Bool
      shows n = is_at_or_above origin n && is_matched origin hash rs n

      -- no longer ancestor is matched
      pub none_longer : (n : Name) → IsAtOrAbove n x → IsAtOrAbove a n → on_chain n ≡ false → is_matched origin hash rs n ≡ false
      none_longer n u v off = unmatched j.zone j.apart rs of_names n (hashed_between n u v) (λ i. true≢false (sym (in_named names n i) ∙ off))

      module _ (off : on_chain x ≡ false) (has : IsShown j.zone j.apart a c rs) where
        shown_is : shown_encloser origin hash rs x ≡ Some a
        shown_is = found (above_cases a b.0 (others_above shows x b.0 a b.1 above a_shown))
          where
            above : IsAbove a x
            above = encloser_above a e.is_encloser

            a_shown : shows a ≡ true
            a_shown = λ i. is_at_or_above_complete origin a (encloser_in a e.is_encloser over) i && matched_by j.zone j.apart rs a e.on has.encloser i

            b : (b : Name) × IsLongestAbove shows x b
            b = longest_above shows x a above a_shown

            found : (a ≡ b.0) ⊎ IsAbove a b.0 → find shows (proper_ancestors x) ≡ Some a
            found (inl q) = b.1.found ∙ ap Some (sym q)
            found (inr u) =
                let gone = (longest a e.is_encloser).longest b.0 b.1.above (above_shorter a b.0 u) in
                absurd (true≢false (sym (and_right (is_at_or_above origin b.0) (is_matched origin hash rs b.0) b.1.passes) ∙ none_longer b.0 (above_at b.0 x b.1.above) (above_at a b.0 u) gone))

        -- with what the encloser passes
        pub encloser_proved : (test : Name → Bool) → test a ≡ true → encloser_and origin hash rs (λ r. true) x test ≡ true
        encloser_proved test t =
            λ i. (above_test origin x).1 over i && not (none_longer x ([], refl) e.above off i) && (ap (λ p. option_map_or enclosed p false) shown_is ∙ whole) i
          where
            enclosed : Name → Bool
            enclosed b =
                list_any (λ r. matches origin hash r b && is_of_encloser r) rs && option_map_or (λ c. list_any (λ r. covers origin hash r c && true) rs) (next_closer x b) false && test b

            matched : list_any (λ r. matches origin hash r a && is_of_encloser r) rs ≡ true
            matched =
                any_from_In (λ r. matches origin hash r a && is_of_encloser r) (record_of j.zone j.apart a) rs has.encloser
                (λ i. matches_itself j.zone j.apart a e.on i && of_encloser a e.on (encloser_in a e.is_encloser over) (encloser_above a e.is_encloser) i)

            covered : list_any (λ r. covers origin hash r c && true) rs ≡ true
            covered =
                any_from_In (λ r. covers origin hash r c && true) (record_of j.zone j.apart has.cover) rs has.has_cover
                (λ i. (covers_is j.zone j.apart has.cover c has.is_cover.on (hashed_between c e.closer_at e.closer_below) ∙ has.is_cover.covered) i && true)

            whole : enclosed a ≡ true
            whole = λ i. matched i && (ap (λ o. option_map_or (λ c. list_any (λ r. covers origin hash r c && true) rs) o false) e.is_closer ∙ covered) i && t i
