-- The denial by a chain of NSEC3 sets of a name of the zone is the name's own set, or has the set of its closest encloser and one that covers
-- the next closer name
use Rattle.std.proofs.Common.{◌≡◌, ℕ, Bool, true, false, cond, ◌&&◌, List, [], ◌∷◌, ◌++◌, refl, sym, ap, ◌∙◌, true≢false, inl, inr}
use Rattle.std.specs.Prelude.{◌≢◌, Option, Some, None, Result, Ok, filter_map, option_map, option_to_list}
use Rattle.std.specs.List.{Contains, cons_option}
use Rattle.std.specs.Option.{option_map_or, option_or}
use Rattle.zone_proto.specs.declared.error.ProtoError.{ProtoError}
use Rattle.zone_proto.specs.declared.rdata.denial.NSEC3PARAM.{NSEC3PARAM as Nsec3Parameters}
use Rattle.zone_proto.specs.HashedOwners.{owner_or_refusal}
use Rattle.zone_proto.specs.Names.{Name, name_cmp, is_at_or_above, IsAtOrAbove, wildcard_under}
use Rattle.zone_proto.specs.Sets.{RRset}
use Rattle.zone_proto.specs.Types.{NSEC3}
use Rattle.zone_proto.proofs.Members.{In, In-Contains, Contains-In, In-filter_map}
use Rattle.zone_proto.proofs.Names.Tree.{name_order}
use Rattle.zone_map.specs.Zones.{Sets, set_at, owns}
use Rattle.zone_denial.specs.ChainLaws.{Nsec3ChainFindsOrEncloses}
use Rattle.zone_denial.specs.Chains.{IsNsec3Chain}
use Rattle.zone_denial.specs.Nsec3Circle.{digests, next_digest}
use Rattle.zone_denial.specs.Nsec3Denial.{match_owner, cover_owner, result_and_then, has_match, match_of, cover_of, encloser_of, wildcard_part, enclosed, next_closer}
use Rattle.zone_denial.specs.Nsec3Laws.{IsSetOf, ProvesEncloserOn, FindsOrEnclosesOn}
use Rattle.zone_denial.specs.Nsec3Zones.{IsHashedOn, HasDistinctDigests}
use Rattle.zone_denial.specs.TypeLists.{in_order}
use Rattle.zone_denial.proofs.Hashed.Nsec3Enclosers.{walked}
use Rattle.zone_denial.proofs.InOrder.{In-in_order}
use Rattle.zone_denial.proofs.Chains.Nsec3Covers.{IsCover, has_cover}
use Rattle.zone_denial.proofs.Chains.Nsec3Names.{is_named, named_in, in_named, root_off, IsEnclosed, enclosed_off}
use Rattle.zone_denial.proofs.Chains.Nsec3Owners.{owner, named_hashed, set_of_named, named_owns, is_owner, owns_as_named}

module _ {origin : Name} {beside m : Sets} {hash : Name → Option (List ℕ)} {parameters : Nsec3Parameters} {names : List Name} {x : Name} (zone : IsNsec3Chain origin beside m hash parameters names) (apart : HasDistinctDigests (IsHashedOn names x) hash) where
  abbrev hashed : Name → Result Name ProtoError
  hashed n = owner_or_refusal origin (hash n)

  abbrev on_chain : Name → Bool
  on_chain = is_named names

  abbrev Hashed : Name → Type 0
  Hashed n = IsHashedOn names x n

  -- ---- what matches and what covers

  match_is : (n : Name) → In n names → match_of m hashed n ≡ Ok (owner zone apart n ∷ [])
  match_is n i =
      ap (result_and_then (λ h. Ok (option_to_list (match_owner m h)))) (is_owner zone apart n (named_hashed zone apart n i))
      ∙ ap (λ b. Ok (option_to_list (cond b (Some (owner zone apart n)) None))) (named_owns zone apart n i)

  pub cover_is : (c n : Name) → Hashed c → IsCover zone apart c n → cover_of m hashed c ≡ Ok (owner zone apart n ∷ [])
  cover_is c n h cover =
      ap (result_and_then (λ h. Ok (option_to_list (cover_owner m h)))) (is_owner zone apart c h)
      ∙ ap (λ o. Ok (option_to_list o)) cover.is_cover

  match_test : (n : Name) → Hashed n → has_match m hashed n ≡ Ok (on_chain n)
  match_test n h = ap (result_and_then (λ h. Ok (owns m h NSEC3))) (is_owner zone apart n h) ∙ ap Ok (owns_as_named zone apart n h)

  -- ---- the names that are hashed for x off the chain

  module _ (a c : Name) (e : IsEnclosed names x a c) where
    hashed_above : (n : Name) → IsAtOrAbove n x → IsAtOrAbove a n → Hashed n
    hashed_above n above below = inr (a, e.is_encloser, inl (above, below))

    itself_hashed : Hashed x
    itself_hashed = hashed_above x ([], refl) e.above

    closer_hashed : Hashed c
    closer_hashed = hashed_above c e.closer_at e.closer_below

    pub wildcard_hashed : Hashed (wildcard_under a)
    wildcard_hashed = inr (a, e.is_encloser, inr refl)

    -- the port asks no set of the root
    pub encloser_is : origin ≢ [] → encloser_of m hashed x ≡ Ok (Some a)
    encloser_is below_root = walked (has_match m hashed) on_chain (root_off names origin zone.begins below_root (λ n i. (zone.authoritative n i).0)) x a e.is_encloser (λ n above below. match_test n (hashed_above n above below))

  -- ---- an answer that has these sets proves the encloser

  abbrev pub Has : List RRset → Name → Type 0
  Has answer o = (s : RRset) → set_at m o NSEC3 ≡ Some s → Contains answer s

  proves : (a c n : Name) (answer : List RRset) → IsEnclosed names x a c → IsCover zone apart c n → Has answer (owner zone apart a) → Has answer (owner zone apart n)
      → ProvesEncloserOn origin m hash names x answer
  proves a c n answer e cover has_match has_cover =
      let match = set_of_named zone apart a e.on in
      let s = set_of_named zone apart n cover.on in
      record {
        encloser = a;
        is_encloser = e.is_encloser;
        closer = c;
        is_closer = e.is_closer;
        match = match.0;
        matches = (apart.digest a, apart.answers a (named_hashed zone apart a e.on), match.1);
        has_match = has_match match.0 match.1;
        cover = s.0;
        covers = record {
          owner = apart.digest n;
          octets = apart.octets n (named_hashed zone apart n cover.on);
          next = next_digest (digests hash names) (apart.digest n);
          digest = apart.digest c;
          stands = s.1;
          said = ap (option_map (λ a. a.next_hashed_owner_name)) s.2.says;
          hashed = apart.answers c (closer_hashed a c e);
          covered = cover.covered;
        };
        has_cover = has_cover s.0 s.1;
      }

  -- ---- the answer, whatever is said of the wildcard

  -- with the encloser a: what matches it, what covers the next closer name, and the wildcard's part
  abbrev enclosed_with : (Name → Result (List Name) ProtoError) → Name → Result (List Name) ProtoError
  enclosed_with part a =
      result_and_then (λ closer. result_and_then (λ encloser. result_and_then (λ wildcard_name. Ok (encloser ++ closer ++ wildcard_name)) (part a)) (match_of m hashed a))
      (option_map_or (cover_of m hashed) (next_closer x a) (Ok []))

  module _ (with_encloser : Option Name → Result (List Name) ProtoError) (part : Name → Result (List Name) ProtoError) (with_some : (a : Name) → with_encloser (Some a) ≡ enclosed_with part a) where
    abbrev of_encloser : Result (List Name) ProtoError
    of_encloser = result_and_then (λ encloser. result_and_then (λ owners. Ok (in_order name_cmp owners)) (with_encloser encloser)) (encloser_of m hashed x)

    abbrev denying_owners : Result (List Name) ProtoError
    denying_owners = result_and_then (λ own. cond (owns m own NSEC3 && true) (Ok (own ∷ [])) of_encloser) (hashed x)

    abbrev denial : Result (List RRset) ProtoError
    denial = result_and_then (λ owners. Ok (filter_map (λ o. set_at m o NSEC3) owners)) denying_owners

    own_owner : (b : Bool) → Hashed x → on_chain x ≡ b → denying_owners ≡ cond b (Ok (owner zone apart x ∷ [])) of_encloser
    own_owner b h e =
        ap (result_and_then (λ own. cond (owns m own NSEC3 && true) (Ok (own ∷ [])) of_encloser)) (is_owner zone apart x h)
        ∙ ap (λ c. cond (c && true) (Ok (owner zone apart x ∷ [])) of_encloser) (owns_as_named zone apart x h ∙ e)
        ∙ by b
      where
        by : (b : Bool) → cond (b && true) (Ok (owner zone apart x ∷ [])) of_encloser ≡ cond b (Ok (owner zone apart x ∷ [])) of_encloser
        by true = refl
        by false = refl

    -- on the chain
    pub answer_on : In x names → (s : RRset) × IsSetOf origin m hash x s × (denial ≡ Ok (s ∷ []))
    answer_on i =
        let s = set_of_named zone apart x i in
        let h = named_hashed zone apart x i in (
          s.0,
          (apart.digest x, apart.answers x h, s.1),
          ap (result_and_then (λ owners. Ok (filter_map (λ o. set_at m o NSEC3) owners))) (own_owner true h (in_named names x i))
              ∙ ap (λ o. Ok (cons_option o [])) s.1,
        )

    -- off it: the sets of these owners
    pub record IsEnclosing (a c : Name) (wildcard_name : List Name) (answer : List RRset) : Type 0 where
      pub given : denial ≡ Ok answer
      pub cover : Name
      pub is_cover : IsCover zone apart c cover
      pub has : (o : Name) → In o (owner zone apart a ∷ owner zone apart cover ∷ wildcard_name) → Has answer o

    pub answer_off : origin ≢ [] → (In x names → ⊥) → (a c : Name) → IsEnclosed names x a c → (wildcard_name : List Name) → part a ≡ Ok wildcard_name → (answer : List RRset) × IsEnclosing a c wildcard_name answer
    answer_off below_root off a c e wildcard_name wildcard_name_is =
        let cover = has_cover zone apart c (closer_hashed a c e) e.off in
        let owners : List Name = owner zone apart a ∷ owner zone apart cover.0 ∷ wildcard_name in
        let closer_is : option_map_or (cover_of m hashed) (next_closer x a) (Ok []) ≡ Ok (owner zone apart cover.0 ∷ []) =
        ap (λ o. option_map_or (cover_of m hashed) o (Ok [])) e.is_closer ∙ cover_is c cover.0 (closer_hashed a c e) cover.1 in
        let made : with_encloser (Some a) ≡ Ok owners =
        with_some a
        ∙ (λ i. result_and_then (λ closer. result_and_then (λ encloser. result_and_then (λ wildcard_name. Ok (encloser ++ closer ++ wildcard_name)) (wildcard_name_is i)) (match_is a e.on i)) (closer_is i)) in
        let rest : of_encloser ≡ Ok (in_order name_cmp owners) =
        ap (result_and_then (λ encloser. result_and_then (λ owners. Ok (in_order name_cmp owners)) (with_encloser encloser))) (encloser_is a c e below_root)
        ∙ ap (result_and_then (λ owners. Ok (in_order name_cmp owners))) made in
        let answer : List RRset = filter_map (λ o. set_at m o NSEC3) (in_order name_cmp owners) in (
          answer,
          record {
            given = ap (result_and_then (λ owners. Ok (filter_map (λ o. set_at m o NSEC3) owners))) (own_owner false (itself_hashed a c e) (unnamed (on_chain x) refl) ∙ rest);
            cover = cover.0;
            is_cover = cover.1;
            has = λ o i s found. In-Contains s answer (In-filter_map (λ o. set_at m o NSEC3) o s (in_order name_cmp owners) (In-in_order name_order o owners i) found);
          },
        )
      where
        unnamed : (b : Bool) → on_chain x ≡ b → on_chain x ≡ false
        unnamed true h = absurd (off (named_in names x h))
        unnamed false h = h

    -- both, where the wildcard's part is no refusal
    pub answer_is : origin ≢ [] → is_at_or_above origin x ≡ true → ((a : Name) → Hashed (wildcard_under a) → (wildcard_name : List Name) × (part a ≡ Ok wildcard_name))
        → (answer : List RRset) × (denial ≡ Ok answer) × FindsOrEnclosesOn origin m hash names x answer
    answer_is below_root inside wildcard_name_is = by (on_chain x) refl
      where
        by : (b : Bool) → on_chain x ≡ b → (answer : List RRset) × (denial ≡ Ok answer) × FindsOrEnclosesOn origin m hash names x answer
        by true e =
            let i = named_in names x e in
            let r = answer_on i in
            (r.0 ∷ [], r.2, record { on = λ c. (r.0, r.1, refl); off = λ off. absurd (off (In-Contains x names i)) })
        by false e =
            let off = λ (i : In x names). true≢false (sym (in_named names x i) ∙ e) in
            let n = enclosed_off names origin zone.begins x inside off in
            let wildcard_name = wildcard_name_is n.0 (wildcard_hashed n.0 n.1 n.2) in
            let r = answer_off below_root off n.0 n.1 n.2 wildcard_name.0 wildcard_name.1 in (
              r.0,
              r.1.given,
              record {
                on = λ c. absurd (off (Contains-In x names c));
                off = λ o. proves n.0 n.1 r.1.cover r.0 n.2 r.1.is_cover (r.1.has (owner zone apart n.0) (inl refl)) (r.1.has (owner zone apart r.1.cover) (inr (inl refl)));
              },
            )

  -- the owners of the wildcard's part: of what matches the wildcard, or else of what covers it
  abbrev pub wildcard_owners : Name → List Name
  wildcard_owners a = option_to_list (option_or (match_owner m (owner zone apart (wildcard_under a))) (cover_owner m (owner zone apart (wildcard_under a))))

  -- it is no refusal where the wildcard is hashed
  pub wildcard_answered : (a : Name) → Hashed (wildcard_under a) → wildcard_part m hashed a ≡ Ok (wildcard_owners a)
  wildcard_answered a h = ap (result_and_then (λ h. Ok (option_to_list (option_or (match_owner m h) (cover_owner m h))))) (is_owner zone apart (wildcard_under a) h)

pub finds_or_encloses : Nsec3ChainFindsOrEncloses
finds_or_encloses origin beside m hash parameters names zone below_root x inside apart =
    let hashed : Name → Result Name ProtoError = λ n. owner_or_refusal origin (hash n) in
    answer_is zone apart (enclosed m hashed false x) (wildcard_part m hashed) (λ a. refl) below_root inside (λ a h. (wildcard_owners zone apart a, wildcard_answered zone apart a h))
