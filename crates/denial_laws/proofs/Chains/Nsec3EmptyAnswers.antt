-- What proves by NSEC3 an answer without data, an answer of a wildcard and an unsigned delegation
use Rattle.std.proofs.Common.{◌≡◌, ◌≢◌, ℕ, Bool, true, false, cond, not, ◌&&◌, ◌||◌, List, [], ◌∷◌, ◌++◌, drop, refl, sym, ap, ◌∙◌, true≢false, ◌⊎◌, inl, inr, eqb-true}
use Rattle.std.specs.Prelude.{Option, Some, None, option_map, option_and_then, ◌==◌}
use Rattle.std.specs.Cmp.{both_ways}
use Rattle.std.specs.List.{list_any, Contains}
use Rattle.std.specs.Option.{option_map_or}
use Rattle.zone_proto.specs.declared.rdata.denial.NSEC3PARAM.{NSEC3PARAM as Nsec3Parameters}
use Rattle.zone_proto.specs.Names.{Name, name_eq, is_root, is_above, is_at_or_above, IsAtOrAbove, IsAbove, wildcard_under, is_wildcard}
use Rattle.zone_proto.specs.Sets.{RRset}
use Rattle.zone_proto.specs.Types.{NS, CNAME, SOA, DS, RRSIG, NSEC, ANY}
use Rattle.zone_proto.proofs.Members.{In, any_from_In, or_left, or_right}
use Rattle.zone_proto.proofs.Names.NameTree.{above_test, is_at_or_above_sound, is_at_or_above_complete}
use Rattle.zone_proto.proofs.Names.Tree.{above_cases}
use Rattle.zone_map.specs.AnyTypes.{searched_type}
use Rattle.zone_map.specs.Direct.{direct}
use Rattle.zone_map.specs.SearchLaws.{WildcardIsOfClosestEncloser}
use Rattle.zone_map.specs.Wildcards.{found, renamed, wildcard, asked_wildcard}
use Rattle.zone_map.specs.Zones.{Sets, owns, owns_at_or_below}
use Rattle.zone_map.proofs.Wildcards.{wildcard_is_of_closest_encloser}
use Rattle.zone_denial.specs.Nsec3Laws.{CoversCloser, Denies}
use Rattle.zone_denial.specs.Chains.{is_delegation, is_stated_at_delegation, is_stated, IsNsec3Chain}
use Rattle.zone_denial.specs.Nsec3Zones.{IsHashedOn, HasDistinctDigests}
use Rattle.zone_denial.proofs.Names.ExistingAncestors.{exists_from, unowned_absent}
use Rattle.zone_denial.proofs.Chains.NsecLists.{delegation_owns}
use Rattle.zone_denial.proofs.Chains.Nsec3Names.{is_named, named_in, in_named, IsEnclosed}
use Rattle.zone_lookup.specs.Replies.{name_exists, nx_domain, negative_answer}
use Rattle.denial_validation.specs.Encloser.{next_closer}
use Rattle.denial_validation.specs.Nsec3Proofs.{lists, lists_none, is_wrong_side, denies_type, is_of_unsigned, matches, covers, is_covered, is_denied, proves_name_error, proves_no_data, proves_opted_out, proves_wildcard_no_data, proves_empty_answer, proves_wildcard_answer, shows_unsigned_delegation, proves_unsigned_delegation}
use Rattle.denial_validation.specs.Nsec3Records.{Nsec3Record}
use Rattle.denial_laws.specs.Nsec3Scope.{read_nsec3_sets, AreNsec3OfZone, IsTypeInNsec3ScopeOn}
use Rattle.denial_laws.specs.Nsec3Chains.{IsInNsec3ScopeOfChain, Nsec3ChainWildcardErrorAccepted}
use Rattle.denial_laws.specs.Scope.{Unreferred, is_parents_ds}
use Rattle.denial_laws.proofs.EmptyAnswers.{searched_itself, exists_means}
use Rattle.denial_laws.proofs.NameErrors.{error_means}
use Rattle.denial_laws.proofs.Chains.Nsec3Judging.{unlisted, told_listed, told_owned, told_unlisted, exists_is, there_is, plain_x, encloser_above, encloser_in, wildcard_in, wildcard_uncut, wildcard_plain, asked_only, wildcard_there, wildcard_gone, encloser_proved}
use Rattle.denial_laws.proofs.Chains.Nsec3Matches.{covers_is, matches_itself}
use Rattle.denial_laws.proofs.Chains.Nsec3NameErrors.{enclosed, over, of_names, enclosing, error_proved}
use Rattle.denial_laws.proofs.Chains.Nsec3Readings.{record_of}
use Rattle.denial_laws.proofs.Chains.Nsec3Shown.{IsCovering, own_shown, closer_shown}
use Rattle.denial_laws.proofs.OwnTypes.{neither, differs, own_type, own_alias, own_delegation}

-- ---- where nothing is found at a name of the chain, its record denies the type

module _ {origin : Name} {beside m : Sets} {hash : Name → Option (List ℕ)} {parameters : Nsec3Parameters} {names : List Name} {x : Name} (zone : IsNsec3Chain origin beside m hash parameters names) (apart : HasDistinctDigests (IsHashedOn names x) hash)
    (y : Name) (on : In y names) (inside : IsAtOrAbove origin y) (unreferred : Unreferred origin m) (t : ℕ) (nothing : direct m y t ≡ None) (signed : t ≢ RRSIG) (any : t ≢ ANY)
    (none_beside : t ≡ NSEC → owns beside y NSEC ≡ false) (child : t ≡ DS → is_parents_ds origin m y ≡ false)
  where
    abbrev r : Nsec3Record
    r = record_of zone apart y

    alias_not : lists r CNAME ≡ false
    alias_not = told_unlisted zone apart y on CNAME refl (own_alias m y t nothing)

    -- it is no delegation, unless DS is asked for: the root isn't, where it is the origin
    apex : (t == DS) ≡ false → owns m y NS ≡ true → owns m y SOA ≡ true
    apex d k = by (is_root y) refl
      where
        root_is : (n : Name) → is_root n ≡ true → n ≡ []
        root_is [] e = refl
        root_is (l ∷ ls) e = absurd (true≢false (sym e))

        origin_is : IsAtOrAbove origin y → y ≡ [] → origin ≡ y
        origin_is ([], q) e = sym q
        origin_is (l ∷ f, q) e = let p : [] ≡ l ∷ (f ++ origin) = sym e ∙ q in absurd cc

        by : (b : Bool) → is_root y ≡ b → owns m y SOA ≡ true
        by true e = unreferred y ([], origin_is inside (root_is y e)) k
        by false e = own_delegation m y t nothing (λ q. true≢false (ap is_root (sym q) ∙ e)) d k

    soa_is : lists r SOA ≡ owns m y SOA
    soa_is = both_ways (lists r SOA) (owns m y SOA) (told_owned zone apart y on SOA refl) (told_listed zone apart y on SOA refl)

    -- a delegation, of which no list tells all, is asked for DS alone
    tells_it : is_stated origin m y t ≡ true
    tells_it = by (is_delegation origin m y) refl (t == DS) refl
      where
        by : (d : Bool) → is_delegation origin m y ≡ d → (b : Bool) → (t == DS) ≡ b → not d || is_stated_at_delegation t ≡ true
        by false e b q = refl
        by true e true q = ap is_stated_at_delegation (eqb-true t DS q)
        by true e false q = let o = delegation_owns origin m y e in absurd (true≢false (sym (apex q o.0) ∙ o.1))

    type_not : lists r t ≡ false
    type_not = unlisted zone apart y on t signed none_beside tells_it (own_type m y t nothing)

    wrong_not : is_wrong_side origin r y t ≡ false
    wrong_not = by (t == DS) refl
      where
        delegation : (t == DS) ≡ false → (b : Bool) → lists r NS ≡ b → b && not (lists r SOA) ≡ false
        delegation d false e = refl
        delegation d true e =
            ap not (told_listed zone apart y on SOA refl (apex d (told_owned zone apart y on NS refl e)))

        by : (b : Bool) → (t == DS) ≡ b → cond b ((lists r SOA || name_eq y origin) && not (is_root y)) (lists r NS && not (lists r SOA)) ≡ false
        by true d = ap (λ b. (b || name_eq y origin) && not (is_root y)) soa_is ∙ child (eqb-true t DS d)
        by false d = delegation d (lists r NS) refl

    type_denied : denies_type origin (record_of zone apart y) y t ≡ true
    type_denied =
        λ i. not (wrong_not i) && or_right (lists_none r) (not (t == ANY) && not (lists r t) && not (lists r CNAME)) (λ i. not (differs t ANY any i) && not (type_not i) && not (alias_not i)) i

-- ---- an answer of a wildcard

module _ {origin : Name} {beside m : Sets} {hash : Name → Option (List ℕ)} {parameters : Nsec3Parameters} {names : List Name} {x : Name} (j : IsInNsec3ScopeOfChain origin beside m hash parameters names x) (e : Name) (asked : asked_wildcard m x ≡ Some (wildcard_under e)) where
  -- a name for which a wildcard is asked isn't in the chain
  asked_off : is_named names x ≡ false
  asked_off = sym (exists_is j x (is_at_or_above_sound origin x j.inside) j.uncut (plain_x j)) ∙ law.absent m x (wildcard_under e) asked
    where
      law : WildcardIsOfClosestEncloser
      law = wildcard_is_of_closest_encloser

  abbrev n : (a : Name) × (c : Name) × IsEnclosed names x a c
  n = enclosed j asked_off

  -- what covers its next closer name proves the wildcard
  wildcard_proved : (rs : List Nsec3Record) → (k : Name) × IsCovering j.zone j.apart n.1 k × In (record_of j.zone j.apart k) rs → proves_wildcard_answer origin hash rs x e ≡ true
  wildcard_proved rs k =
      ap (λ a. is_at_or_above origin a && is_above a x && option_map_or (is_covered origin hash rs) (next_closer x a) false) same
      ∙ (λ i. is_at_or_above_complete origin n.0 (encloser_in j n.0 n.2.is_encloser (over j asked_off)) i && (above_test n.0 x).1 (encloser_above j n.0 n.2.is_encloser) i && (ap (λ o. option_map_or (is_covered origin hash rs) o false) n.2.is_closer ∙ covered) i)
    where
      same : e ≡ n.0
      same = ap (drop 1) (asked_only j n.0 n.2.is_encloser (over j asked_off) (wildcard_under e) asked).0

      covered : is_covered origin hash rs n.1 ≡ true
      covered =
          any_from_In (λ r. covers origin hash r n.1) (record_of j.zone j.apart k.0) rs k.2
          (covers_is j.zone j.apart k.0 n.1 k.1.on (inr (n.0, n.2.is_encloser, inl (n.2.closer_at, n.2.closer_below))) ∙ k.1.covered)

-- so do the fewer records of a denial to which a wildcard answered
pub asked_wildcard_proved : {origin : Name} {beside m : Sets} {hash : Name → Option (List ℕ)} {parameters : Nsec3Parameters} {names : List Name} {x : Name} → IsInNsec3ScopeOfChain origin beside m hash parameters names x
    → (answer : List RRset) → ((Contains names x → ⊥) → CoversCloser origin m hash names x answer) → (e : Name) → asked_wildcard m x ≡ Some (wildcard_under e) → proves_wildcard_answer origin hash (read_nsec3_sets answer) x e ≡ true
asked_wildcard_proved j answer given e asked = wildcard_proved j e asked (read_nsec3_sets answer) (closer_shown j.zone j.apart (λ i. true≢false (sym (in_named _ _ i) ∙ asked_off j e asked)) (n j e asked).0 (n j e asked).1 (n j e asked).2 answer given)

-- ---- the parts

module _ {origin : Name} {beside m : Sets} {hash : Name → Option (List ℕ)} {parameters : Nsec3Parameters} {names : List Name} {x : Name} (j : IsInNsec3ScopeOfChain origin beside m hash parameters names x) (answer : List RRset)
    (of_zone : AreNsec3OfZone m (read_nsec3_sets answer)) (given : Denies origin m hash names x answer) where
  abbrev on_chain : Name → Bool
  on_chain = is_named names

  abbrev rs : List Nsec3Record
  rs = read_nsec3_sets answer

  -- a name in scope that isn't there is off the chain
  off_from : owns_at_or_below m x ≡ false → on_chain x ≡ false
  off_from none = sym (there_is j) ∙ none

  in_names : on_chain x ≡ true → In x names
  in_names e = named_in names x e

  pub error_accepted : is_wildcard x ≡ false → negative_answer origin m x ≡ nx_domain → proves_name_error origin hash rs x ≡ true
  error_accepted plain e =
      let r = error_means origin m x e in
      let off = off_from r.0 in
      let n = enclosed j off in
      error_proved j off answer of_zone given (wildcard_gone j n.0 n.2.is_encloser (over j off) plain r.0 r.1)

  pub no_data : (signed : Bool) (t : ℕ) → IsTypeInNsec3ScopeOn origin beside m names x t → found m signed x (searched_type m x t) ≡ None → on_chain x ≡ true → proves_no_data origin hash rs x t ≡ true
  no_data signed t deniable nothing on =
      λ i. j.inside i && any_from_In (λ r. matches origin hash r x && denies_type origin r x t) (record_of j.zone j.apart x) rs (own_shown j.zone j.apart (in_names on) answer given)
      (λ i. matches_itself j.zone j.apart x (in_names on) i
      && type_denied j.zone j.apart x (in_names on) (is_at_or_above_sound origin x j.inside) j.unreferred t
      (ap (direct m x) (sym (searched_itself m x t deniable.one_type)) ∙ (neither (direct m x (searched_type m x t)) (wildcard m signed x (searched_type m x t)) nothing).0) deniable.no_signature
      deniable.one_type deniable.none_beside deniable.no_apex i) i

  pub wildcard_no_data : (signed : Bool) (t : ℕ) → IsTypeInNsec3ScopeOn origin beside m names x t → found m signed x (searched_type m x t) ≡ None → negative_answer origin m x ≡ name_exists → owns_at_or_below m x ≡ false
      → proves_wildcard_no_data origin hash rs x t ≡ true
  wildcard_no_data signed t deniable nothing e none =
      encloser_proved j n.0 n.1 n.2 rs (of_names j off answer of_zone given) up off (enclosing j off answer of_zone given) (λ a. is_denied origin hash rs (wildcard_under a) t)
      (any_from_In (λ r. matches origin hash r wildcard_name && denies_type origin r wildcard_name t) (record_of j.zone j.apart wildcard_name) rs ((enclosing j off answer of_zone given).wildcard_on on)
      (λ i. matches_itself j.zone j.apart wildcard_name on i
      && type_denied j.zone j.apart wildcard_name on (wildcard_in j n.0 n.2.is_encloser up) j.unreferred t at_wildcard deniable.no_signature deniable.one_type
      (λ q. deniable.no_wildcard_beside q n.0 n.2.is_encloser) (λ d. deniable.no_wildcard_apex d n.0 n.2.is_encloser) i))
    where
      off : on_chain x ≡ false
      off = off_from none

      n : (a : Name) × (c : Name) × IsEnclosed names x a c
      n = enclosed j off

      up : IsAbove origin x
      up = over j off

      wildcard_name : Name
      wildcard_name = wildcard_under n.0

      there : (asked_wildcard m x ≡ Some wildcard_name) × (on_chain wildcard_name ≡ true)
      there = wildcard_there j n.0 n.2.is_encloser up (exists_means origin m x none e)

      on : In wildcard_name names
      on = named_in names wildcard_name there.1

      lost : (o : Option RRset) → option_map (renamed signed wildcard_name x) o ≡ None → o ≡ None
      lost None e = refl
      lost (Some s) e = absurd cc

      at_wildcard : direct m wildcard_name t ≡ None
      at_wildcard =
          lost (direct m wildcard_name t)
          (sym (ap (option_and_then (λ s. option_map (renamed signed s x) (direct m s t))) there.0)
          ∙ (neither (direct m x t) (wildcard m signed x t) (ap (found m signed x) (sym (searched_itself m x t deniable.one_type)) ∙ nothing)).1)

  -- any of them
  pub empty_accepted : (signed : Bool) (t : ℕ) → IsTypeInNsec3ScopeOn origin beside m names x t → found m signed x (searched_type m x t) ≡ None → negative_answer origin m x ≡ name_exists
      → proves_empty_answer origin hash rs x t ≡ true
  empty_accepted signed t deniable nothing e = by (on_chain x) refl
    where
      first : Bool
      first = proves_no_data origin hash rs x t

      second : Bool
      second = proves_opted_out origin hash rs x

      by : (b : Bool) → on_chain x ≡ b → first || second || proves_wildcard_no_data origin hash rs x t ≡ true
      by true on = or_left (first || second) (proves_wildcard_no_data origin hash rs x t) (or_left first second (no_data signed t deniable nothing on))
      by false off = or_right (first || second) (proves_wildcard_no_data origin hash rs x t) (wildcard_no_data signed t deniable nothing e (there_is j ∙ off))

  pub wildcard_accepted : (e : Name) → asked_wildcard m x ≡ Some (wildcard_under e) → proves_wildcard_answer origin hash rs x e ≡ true
  wildcard_accepted e asked =
      let off = asked_off j e asked in
      let s = enclosing j off answer of_zone given in
      wildcard_proved j e asked rs (s.cover, s.is_cover, s.has_cover)

  pub delegation_accepted : owns m x NS ≡ true → owns m x DS ≡ false → owns m x SOA ≡ false → proves_unsigned_delegation origin hash rs x ≡ true
  delegation_accepted ns ds soa = or_left (shows_unsigned_delegation origin hash rs x) (proves_opted_out origin hash rs x) (λ i. below (above_cases origin x (is_at_or_above_sound origin x j.inside)) i && own i)
    where
      on : on_chain x ≡ true
      on = sym (exists_is j x (is_at_or_above_sound origin x j.inside) j.uncut (plain_x j)) ∙ exists_from m x x NS ns refl ([], refl)

      below : (origin ≡ x) ⊎ IsAbove origin x → is_above origin x ≡ true
      below (inl e) = absurd (true≢false (sym (j.unreferred x ([], e) ns) ∙ soa))
      below (inr u) = (above_test origin x).1 u

      own : list_any (λ r. matches origin hash r x && is_of_unsigned r) rs ≡ true
      own =
          any_from_In (λ r. matches origin hash r x && is_of_unsigned r) (record_of j.zone j.apart x) rs (own_shown j.zone j.apart (in_names on) answer given)
          (λ i. matches_itself j.zone j.apart x (in_names on) i
          && (told_listed j.zone j.apart x (in_names on) NS refl ns i && not (told_unlisted j.zone j.apart x (in_names on) DS refl ds i)
          && not (told_unlisted j.zone j.apart x (in_names on) SOA refl soa i)))

-- ---- a name that begins with `*`

pub nsec3_wildcard_error_accepted : Nsec3ChainWildcardErrorAccepted
nsec3_wildcard_error_accepted origin beside m hash parameters names x e j is none denied answer of_zone given =
    error_proved j off answer of_zone given (sym (exists_is j (wildcard_under n.0) (wildcard_in j n.0 n.2.is_encloser up) (wildcard_uncut j n.0 n.2.is_encloser up) (wildcard_plain j n.0 n.2.is_encloser up)) ∙ unowned_absent m (wildcard_under n.0) gone)
  where
    off : is_named names x ≡ false
    off = sym (there_is j) ∙ (error_means origin m x denied).0

    n : (a : Name) × (c : Name) × IsEnclosed names x a c
    n = enclosed j off

    up : IsAbove origin x
    up = over j off

    gone : owns_at_or_below m (wildcard_under n.0) ≡ false
    gone = ap (λ a. owns_at_or_below m (wildcard_under a)) (same_value n.0 e (sym n.2.is_encloser ∙ is)) ∙ none
      where
        same_value : (a b : Name) → Some a ≡ Some b → a ≡ b
        same_value a b q = cc
