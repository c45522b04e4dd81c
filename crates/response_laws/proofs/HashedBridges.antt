-- What the NSEC3 sets of a denial are in a zone whose NSEC3 sets are a chain: those that are found with the closest encloser that the chain has
use Rattle.std.proofs.Common.{◌≡◌, ℕ, Bool, true, false, List, [], ◌∷◌, ◌++◌, refl, sym, ap, ◌∙◌, subst, true≢false, inl, inr, arith}
use Rattle.std.specs.Prelude.{Option, Some, None, Result, filter_map, is_some, option_and_then, option_to_list}
use Rattle.std.specs.List.{cons_option}
use Rattle.std.specs.Option.{option_map_or, option_or}
use Rattle.std.proofs.lemmas.List.{length-append, append_assoc}
use Rattle.zone_proto.specs.declared.error.ProtoError.{ProtoError}
use Rattle.zone_proto.specs.declared.rdata.denial.NSEC3PARAM.{NSEC3PARAM as Nsec3Parameters}
use Rattle.zone_proto.specs.HashedOwners.{owner_or_refusal}
use Rattle.zone_proto.specs.Names.{Name, name_cmp, is_at_or_above, suffixes, proper_ancestors, wildcard_under, IsAtOrAbove, IsAbove}
use Rattle.zone_proto.specs.Sets.{RRset}
use Rattle.zone_proto.specs.Types.{NSEC3}
use Rattle.zone_proto.proofs.Members.{In, In-Contains, Contains-In, In-filter_map}
use Rattle.zone_proto.proofs.Names.NameTree.{is_at_or_above_complete}
use Rattle.zone_proto.proofs.Names.Tree.{name_order}
use Rattle.zone_map.specs.Zones.{Sets, set_at, owns}
use Rattle.zone_denial.specs.Chains.{IsNsec3Chain}
use Rattle.zone_denial.specs.Nsec3Denial.{encloser_on, cover_owner}
use Rattle.zone_denial.specs.Nsec3Laws.{Denies}
use Rattle.zone_denial.specs.Nsec3Lent.{owner_cmp}
use Rattle.zone_denial.specs.Nsec3Zones.{IsHashedOn, HasDistinctDigests}
use Rattle.zone_denial.specs.TypeLists.{in_order}
use Rattle.zone_denial.proofs.InOrder.{In-in_order}
use Rattle.zone_denial.proofs.Chains.Nsec3Covers.{IsCover, has_cover}
use Rattle.zone_denial.proofs.Chains.Nsec3Denies.{has_set, has_cover_of}
use Rattle.zone_denial.proofs.Chains.Nsec3Encloses.{Has, wildcard_hashed}
use Rattle.zone_denial.proofs.Chains.Nsec3Names.{is_named, named_in, in_named, unnamed, IsEnclosed}
use Rattle.zone_denial.proofs.Chains.Nsec3Owners.{owner, named_hashed, named_owns, set_of_named, is_owner, owns_as_named}
use Rattle.zone_denial.proofs.Names.LongestAncestors.{IsLongestAbove, longest_is, above_above}
use Rattle.zone_denial.proofs.Sets.SetsInOrder.{sets_in_order}
use Rattle.zone_response.specs.HashedDenials.{owner_given, hashed_by, matching, covering, provable, wildcard_set, absent_below, absent_sets, left_out_sets, present_sets, wildcard_sets}
use Rattle.zone_response.proofs.ProvableWalk.{found_there, found_above}

abbrev look : Sets → Name → Option RRset
look m o = set_at m o NSEC3

module _ {origin : Name} {beside m : Sets} {hash : Name → Option (List ℕ)} {parameters : Nsec3Parameters} {names : List Name} {x : Name} (zone : IsNsec3Chain origin beside m hash parameters names) (apart : HasDistinctDigests (IsHashedOn names x) hash) where
  -- the hashed owner of a name, or its refusal; and as a name
  abbrev pub owner_of : Name → Result Name ProtoError
  owner_of n = owner_or_refusal origin (hash n)

  abbrev pub named_owner : Name → Name
  named_owner = hashed_by owner_of

  given_is : (n : Name) → IsHashedOn names x n → named_owner n ≡ owner zone apart n
  given_is n h = ap owner_given (is_owner zone apart n h)

  -- the set of a name of the chain, and none of another name that is hashed
  matched : (n : Name) (i : In n names) → matching origin m named_owner n ≡ Some (set_of_named zone apart n i).0
  matched n i = ap (λ o. set_at m o NSEC3) (given_is n (named_hashed zone apart n i)) ∙ (set_of_named zone apart n i).1

  unmatched : (n : Name) → IsHashedOn names x n → is_named names n ≡ false → None ≡ set_at m (owner zone apart n) NSEC3
  unmatched n h off = by (set_at m (owner zone apart n) NSEC3) refl
    where
      by : (s : Option RRset) → set_at m (owner zone apart n) NSEC3 ≡ s → None ≡ s
      by None e = refl
      by (Some s) e = absurd (true≢false (sym (ap is_some e) ∙ owns_as_named zone apart n h ∙ off))

  none_matches : (n : Name) → IsHashedOn names x n → is_named names n ≡ false → matching origin m named_owner n ≡ None
  none_matches n h off = ap (λ o. set_at m o NSEC3) (given_is n h) ∙ sym (unmatched n h off)

  -- ---- the closest provable encloser is the closest encloser that the chain has

  module _ (a : Name) (is : encloser_on names x ≡ Some a) where
    longest : IsLongestAbove (is_named names) x a
    longest = longest_is (is_named names) x a is

    on : In a names
    on = named_in names a longest.passes

    hashed_at : (n : Name) → IsAtOrAbove n x → IsAtOrAbove a n → IsHashedOn names x n
    hashed_at n above below = inr (a, is, inl (above, below))

    inside : (n : Name) → IsAtOrAbove a n → is_at_or_above origin n ≡ true
    inside n (f, e) =
        let u = (zone.authoritative a (In-Contains a names on)).0 in
        is_at_or_above_complete origin n (f ++ u.0, e ∙ ap (λ w. f ++ w) u.1 ∙ sym (append_assoc f u.0 origin))

    walk : (f : Name) → IsAbove (f ++ a) x → provable origin m named_owner (suffixes (f ++ a)) ≡ Some a
    walk [] above =
        let s = set_of_named zone apart a on in
        sym (found_there origin m owner_of a (owner zone apart a) (inside a ([], refl)) (is_owner zone apart a (named_hashed zone apart a on)) s.0 (sym s.1))
    walk (l ∷ f) above =
        let n : Name = l ∷ f ++ a in
        let h : IsHashedOn names x n = hashed_at n (l_above above) (l ∷ f, refl) in
        sym
        (found_above origin m owner_of n (owner zone apart n) (inside n (l ∷ f, refl)) (is_owner zone apart n h)
        (unmatched n h (longest.longest n above (omega (arith, length-append (l ∷ f) a)))) (f ++ a) (λ e. cc) refl)
        ∙ walk f (above_above (f ++ a) n x (l ∷ [], refl) above)
      where
        l_above : IsAbove (l ∷ f ++ a) x → IsAtOrAbove (l ∷ f ++ a) x
        l_above (k, g, e) = (k ∷ g, e)

  -- from any proper ancestor e of x at or below it
  pub provable_from : (a e : Name) → encloser_on names x ≡ Some a → IsAbove e x → IsAtOrAbove a e → provable origin m named_owner (suffixes e) ≡ Some a
  provable_from a e is above (f, q) = ap (λ n. provable origin m named_owner (suffixes n)) q ∙ walk a is f (subst (λ n. IsAbove n x) q above)

  pub provable_over : (a : Name) → encloser_on names x ≡ Some a → provable origin m named_owner (proper_ancestors x) ≡ Some a
  provable_over a is = by (longest a is).above
    where
      by : IsAbove a x → provable origin m named_owner (proper_ancestors x) ≡ Some a
      by (l, f, q) = ap (λ n. provable origin m named_owner (proper_ancestors n)) q ∙ walk a is f (l, [], q)

  -- ---- what covers a name

  covering_is : (n k : Name) → IsHashedOn names x n → (cover : IsCover zone apart n k) → covering origin m named_owner n ≡ Some (set_of_named zone apart k cover.on).0
  covering_is n k h cover =
      ap (λ o. option_and_then (look m) (cover_owner m o)) (given_is n h) ∙ ap (option_and_then (look m)) cover.is_cover ∙ (set_of_named zone apart k cover.on).1

  -- ---- x is off the chain, a is its closest encloser there, and c the next closer name

  module _ (a c : Name) (enclosed_by : IsEnclosed names x a c) where
    itself : IsHashedOn names x x
    itself = hashed_at a enclosed_by.is_encloser x ([], refl) enclosed_by.above

    closer_hashed : IsHashedOn names x c
    closer_hashed = hashed_at a enclosed_by.is_encloser c enclosed_by.closer_at enclosed_by.closer_below

    abbrev wildcard_name : Name
    wildcard_name = wildcard_under a

    -- the set of w tells of the wildcard
    record TellsOfWildcard (w : Name) : Type 0 where
      pub on : In w names
      pub found : wildcard_set origin m named_owner a ≡ Some (set_of_named zone apart w on).0
      pub at_wildcard : In wildcard_name names → w ≡ wildcard_name
      pub off_wildcard : (In wildcard_name names → ⊥) → IsCover zone apart wildcard_name w

    told_wildcard : (w : Name) × TellsOfWildcard w
    told_wildcard = by (is_named names wildcard_name) refl
      where
        h : IsHashedOn names x wildcard_name
        h = wildcard_hashed zone apart a c enclosed_by

        by : (b : Bool) → is_named names wildcard_name ≡ b → (w : Name) × TellsOfWildcard w
        by true e =
            let i = named_in names wildcard_name e in
            (wildcard_name, record { on = i; found = ap (λ s. option_or s (covering origin m named_owner wildcard_name)) (matched wildcard_name i); at_wildcard = λ j. refl; off_wildcard = λ off. absurd (off i) })
        by false e =
            let off = λ (i : In wildcard_name names). true≢false (sym (in_named names wildcard_name i) ∙ e) in
            let k = has_cover zone apart wildcard_name h off in
            (k.0, record { on = k.1.on; found = ap (λ s. option_or s (covering origin m named_owner wildcard_name)) (none_matches wildcard_name h e) ∙ covering_is wildcard_name k.0 h k.1; at_wildcard = λ i. absurd (off i); off_wildcard = λ away. k.1 })

    -- what is found for x with e, its closest encloser by names, as the search knows it
    module _ (e : Name) (above : IsAbove e x) (below : IsAtOrAbove a e) where
      k : (k : Name) × IsCover zone apart c k
      k = has_cover zone apart c closer_hashed enclosed_by.off

      abbrev answer : List RRset
      answer = absent_sets origin m named_owner x e

      abbrev owners : List Name
      owners = owner zone apart a ∷ owner zone apart k.0 ∷ owner zone apart told_wildcard.0 ∷ []

      sets_are : filter_map (look m) owners ≡ (set_of_named zone apart a enclosed_by.on).0 ∷ (set_of_named zone apart k.0 k.1.on).0 ∷ (set_of_named zone apart told_wildcard.0 told_wildcard.1.on).0 ∷ []
      sets_are =
          λ i. cons_option ((set_of_named zone apart a enclosed_by.on).1 i)
          (cons_option ((set_of_named zone apart k.0 k.1.on).1 i) (cons_option ((set_of_named zone apart told_wildcard.0 told_wildcard.1.on).1 i) []))

      own : (o : Name) → In o owners → owns m o NSEC3 ≡ true
      own o (inl q) = ap (λ n. owns m n NSEC3) (sym q) ∙ named_owns zone apart a enclosed_by.on
      own o (inr (inl q)) = ap (λ n. owns m n NSEC3) (sym q) ∙ named_owns zone apart k.0 k.1.on
      own o (inr (inr (inl q))) = ap (λ n. owns m n NSEC3) (sym q) ∙ named_owns zone apart told_wildcard.0 told_wildcard.1.on
      own o (inr (inr (inr i))) = absurd i

      answer_is : absent_sets origin m named_owner x e ≡ filter_map (look m) (in_order name_cmp owners)
      answer_is =
          ap (λ o. option_map_or (absent_below origin m named_owner x) o []) (provable_from a e enclosed_by.is_encloser above below)
          ∙ (λ i. in_order owner_cmp
          (option_to_list (matched a enclosed_by.on i) ++ option_to_list ((ap (option_and_then (covering origin m named_owner)) enclosed_by.is_closer ∙ covering_is c k.0 closer_hashed k.1) i) ++ option_to_list (told_wildcard.1.found i)))
          ∙ ap (in_order owner_cmp) (sym sets_are) ∙ sym (sets_in_order m zone.zone owners own)

      has : (o : Name) → In o owners → Has zone apart answer o
      has o i s q = In-Contains s answer (subst (In s) (sym answer_is) (In-filter_map (look m) o s (in_order name_cmp owners) (In-in_order name_order o owners i) q))

      pub absent_denies : (In x names → ⊥) → Denies origin m hash names x (absent_sets origin m named_owner x e)
      absent_denies off = record {
        on = λ on. absurd (off (Contains-In x names on));
        off = λ away.
            record {
              covers = record {
                encloser = a;
                is_encloser = enclosed_by.is_encloser;
                closer = c;
                is_closer = enclosed_by.is_closer;
                cover = has_cover_of zone apart c k.0 closer_hashed k.1 answer (has (owner zone apart k.0) (inr (inl refl)));
              };
              matches = has_set zone apart a enclosed_by.on answer (has (owner zone apart a) (inl refl));
              wildcard_on = λ on.
                  let i = Contains-In wildcard_name names on in
                  has_set zone apart wildcard_name i answer (subst (λ n. Has zone apart answer (owner zone apart n)) (told_wildcard.1.at_wildcard i) (has (owner zone apart told_wildcard.0) (inr (inr (inl refl)))));
              wildcard_off = λ away.
                  has_cover_of zone apart wildcard_name told_wildcard.0 (wildcard_hashed zone apart a c enclosed_by) (told_wildcard.1.off_wildcard (λ i. away (In-Contains wildcard_name names i))) answer
                  (has (owner zone apart told_wildcard.0) (inr (inr (inl refl))));
            };
      }

    -- what covers the next closer name, and what matches a
    pub left_out_is : (In x names → ⊥) → present_sets origin m named_owner x ≡ wildcard_sets origin m named_owner x a ++ (set_of_named zone apart a enclosed_by.on).0 ∷ []
    left_out_is off =
        ap (λ s. option_map_or (λ s. s ∷ []) s (option_map_or (left_out_sets origin m named_owner x) (provable origin m named_owner (proper_ancestors x)) [])) (none_matches x itself (unnamed names x off))
        ∙ ap (λ o. option_map_or (left_out_sets origin m named_owner x) o []) (provable_over a enclosed_by.is_encloser)
        ∙ ap (λ s. wildcard_sets origin m named_owner x a ++ option_to_list s) (matched a enclosed_by.on)

  -- ---- x is in the chain: its own set

  pub present_is : (i : In x names) → present_sets origin m named_owner x ≡ (set_of_named zone apart x i).0 ∷ []
  present_is i = ap (λ s. option_map_or (λ s. s ∷ []) s (option_map_or (left_out_sets origin m named_owner x) (provable origin m named_owner (proper_ancestors x)) [])) (matched x i)
