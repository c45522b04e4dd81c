-- Where the origin isn't the root, what denies a name is among the sets of its denial by a chain of NSEC3 sets
use Rattle.std.proofs.Common.{◌≡◌, Bool, true, false, cond, ◌&&◌, List, [], ◌∷◌, ◌++◌, refl, sym, ap, ◌∙◌, subst, inl, inr}
use Rattle.std.specs.Prelude.{◌≢◌, ℕ, Option, Some, None, Result, Ok, filter_map, option_map, option_to_list}
use Rattle.std.specs.List.{Contains}
use Rattle.std.specs.Option.{option_map_or, option_or}
use Rattle.zone_proto.specs.declared.error.ProtoError.{ProtoError}
use Rattle.zone_proto.specs.declared.rdata.denial.NSEC3PARAM.{NSEC3PARAM as Nsec3Parameters}
use Rattle.zone_proto.specs.HashedOwners.{owner_or_refusal}
use Rattle.zone_proto.specs.Names.{Name, name_cmp, is_at_or_above, wildcard_under}
use Rattle.zone_proto.specs.Sets.{RRset}
use Rattle.zone_proto.specs.Types.{NSEC3}
use Rattle.zone_proto.proofs.Members.{In, In-Contains, Contains-In, In-filter_map}
use Rattle.zone_map.specs.Zones.{Sets, set_at, owns}
use Rattle.zone_denial.specs.ChainLaws.{Nsec3ChainDenies, Nsec3ChainCoversCloser}
use Rattle.zone_denial.specs.Chains.{IsNsec3Chain}
use Rattle.zone_denial.specs.Nsec3Circle.{digests, next_digest}
use Rattle.zone_denial.specs.Nsec3Denial.{match_of, cover_of, cover_owner, encloser_of, enclosed, wildcard_part, nsec3_denying_owners, nsec3_denial, result_and_then}
use Rattle.zone_denial.specs.Nsec3Laws.{HasSetOf, HasCoverOf, CoversCloser, DeniesAway}
use Rattle.zone_denial.specs.Nsec3Zones.{IsHashedOn, HasDistinctDigests}
use Rattle.zone_denial.specs.TypeLists.{in_order}
use Rattle.zone_denial.proofs.Chains.Nsec3Covers.{IsCover, has_cover}
use Rattle.zone_denial.proofs.Chains.Nsec3Encloses.{Has, encloser_is, cover_is, wildcard_hashed, wildcard_owners, wildcard_answered, answer_on, IsEnclosing, answer_off}
use Rattle.zone_denial.proofs.Chains.Nsec3Names.{is_named, named_in, IsEnclosed, enclosed_off}
use Rattle.zone_denial.proofs.Chains.Nsec3Owners.{owner, named_hashed, set_of_named, is_owner, named_owns, owns_as_named}

same_answer : (a b : List RRset) → ◌≡◌ {A = Result (List RRset) ProtoError} (Ok a) (Ok b) → a ≡ b
same_answer a b e = cc

module _ {origin : Name} {beside m : Sets} {hash : Name → Option (List ℕ)} {parameters : Nsec3Parameters} {names : List Name} {x : Name} (zone : IsNsec3Chain origin beside m hash parameters names) (apart : HasDistinctDigests (IsHashedOn names x) hash) where
  abbrev hashed : Name → Result Name ProtoError
  hashed n = owner_or_refusal origin (hash n)

  -- the set of a name of the chain, and of one that covers another, where it is among those of an answer
  pub has_set : (n : Name) → In n names → (answer : List RRset) → Has zone apart answer (owner zone apart n) → HasSetOf origin m hash n answer
  has_set n i answer has =
      let s = set_of_named zone apart n i in
      (s.0, (apart.digest n, apart.answers n (named_hashed zone apart n i), s.1), has s.0 s.1)

  pub has_cover_of : (c n : Name) → IsHashedOn names x c → IsCover zone apart c n → (answer : List RRset) → Has zone apart answer (owner zone apart n) → HasCoverOf origin m hash names c answer
  has_cover_of c n h cover answer has =
      let s = set_of_named zone apart n cover.on in
      record {
        name = n;
        on = In-Contains n names cover.on;
        set = s.0;
        covers = record {
          owner = apart.digest n;
          octets = apart.octets n (named_hashed zone apart n cover.on);
          next = next_digest (digests hash names) (apart.digest n);
          digest = apart.digest c;
          stands = s.1;
          said = ap (option_map (λ a. a.next_hashed_owner_name)) s.2.says;
          hashed = apart.answers c h;
          covered = cover.covered;
        };
        own = apart.answers n (named_hashed zone apart n cover.on);
        among = has s.0 s.1;
      }

  closer_hashed : (a c : Name) → IsEnclosed names x a c → IsHashedOn names x c
  closer_hashed a c e = inr (a, e.is_encloser, inl (e.closer_at, e.closer_below))

  -- ---- no wildcard answered

  own_set : In x names → (answer : List RRset) → nsec3_denial m hashed false x ≡ Ok answer → HasSetOf origin m hash x answer
  own_set i answer e =
      let r = answer_on zone apart (enclosed m hashed false x) (wildcard_part m hashed) (λ a. refl) i in
      let same : r.0 ∷ [] ≡ answer = same_answer (r.0 ∷ []) answer (sym r.2 ∙ e) in
      (r.0, r.1, subst (λ sets. Contains sets r.0) same (In-Contains r.0 (r.0 ∷ []) (inl refl)))

  denied_away : origin ≢ [] → (In x names → ⊥) → (a c : Name) → IsEnclosed names x a c → (answer : List RRset) → nsec3_denial m hashed false x ≡ Ok answer → DeniesAway origin m hash names x answer
  denied_away below_root off a c e answer given = record {
    covers = record {
      encloser = a;
      is_encloser = e.is_encloser;
      closer = c;
      is_closer = e.is_closer;
      cover = has_cover_of c r.1.cover (closer_hashed a c e) r.1.is_cover answer (there r.1.cover (inr (inl refl)));
    };
    matches = has_set a e.on answer (there a (inl refl));
    wildcard_on = λ on.
        let i = Contains-In wildcard_name names on in
        has_set wildcard_name i answer (there wildcard_name (inr (inr (subst (In (owner zone apart wildcard_name)) (sym (owners_are true (named_owns zone apart wildcard_name i))) (inl refl)))));
    wildcard_off = λ away.
        let k = has_cover zone apart wildcard_name h (λ i. away (In-Contains wildcard_name names i)) in
        has_cover_of wildcard_name k.0 h k.1 answer
        (there k.0 (inr (inr (subst (In (owner zone apart k.0)) (sym (owners_are false (owns_as_named zone apart wildcard_name h ∙ unnamed away (is_named names wildcard_name) refl) ∙ ap option_to_list k.1.is_cover)) (inl refl)))));
  }
    where
      wildcard_name : Name
      wildcard_name = wildcard_under a

      h : IsHashedOn names x (wildcard_under a)
      h = wildcard_hashed zone apart a c e

      r : (answer : List RRset) × IsEnclosing zone apart (enclosed m hashed false x) (wildcard_part m hashed) (λ a. refl) a c (wildcard_owners zone apart a) answer
      r = answer_off zone apart (enclosed m hashed false x) (wildcard_part m hashed) (λ a. refl) below_root off a c e (wildcard_owners zone apart a) (wildcard_answered zone apart a (wildcard_hashed zone apart a c e))

      same : r.0 ≡ answer
      same = same_answer r.0 answer (sym r.1.given ∙ given)

      there : (n : Name) → In (owner zone apart n) (owner zone apart a ∷ owner zone apart r.1.cover ∷ wildcard_owners zone apart a) → Has zone apart answer (owner zone apart n)
      there n j s q = subst (λ sets. Contains sets s) same (r.1.has (owner zone apart n) j s q)

      owners_are : (b : Bool) → owns m (owner zone apart wildcard_name) NSEC3 ≡ b
          → wildcard_owners zone apart a ≡ option_to_list (option_or (cond b (Some (owner zone apart wildcard_name)) None) (cover_owner m (owner zone apart wildcard_name)))
      owners_are b q = ap (λ b. option_to_list (option_or (cond b (Some (owner zone apart wildcard_name)) None) (cover_owner m (owner zone apart wildcard_name)))) q

      unnamed : (Contains names wildcard_name → ⊥) → (b : Bool) → is_named names wildcard_name ≡ b → is_named names wildcard_name ≡ false
      unnamed away true q = absurd (away (In-Contains wildcard_name names (named_in names wildcard_name q)))
      unnamed away false q = q

  -- ---- a wildcard answered

  covered_closer : origin ≢ [] → (a c : Name) → IsEnclosed names x a c → (answer : List RRset) → nsec3_denial m hashed true x ≡ Ok answer → CoversCloser origin m hash names x answer
  covered_closer below_root a c e answer given = record {
    encloser = a;
    is_encloser = e.is_encloser;
    closer = c;
    is_closer = e.is_closer;
    cover = has_cover_of c cover.0 (closer_hashed a c e) cover.1 answer
        (λ s q.
        subst (λ sets. Contains sets s) (same_answer (filter_map (λ o. set_at m o NSEC3) owners) answer (sym (ap with_sets owners_are) ∙ given))
        (In-Contains s (filter_map (λ o. set_at m o NSEC3) owners) (In-filter_map (λ o. set_at m o NSEC3) (owner zone apart cover.0) s owners (inl refl) q)));
  }
    where
      cover : (k : Name) × IsCover zone apart c k
      cover = has_cover zone apart c (closer_hashed a c e) e.off

      owners : List Name
      owners = owner zone apart cover.0 ∷ []

      with_sets : Result (List Name) ProtoError → Result (List RRset) ProtoError
      with_sets = result_and_then (λ owners. Ok (filter_map (λ o. set_at m o NSEC3) owners))

      of_encloser : Result (List Name) ProtoError
      of_encloser = result_and_then (λ encloser. result_and_then (λ owners. Ok (in_order name_cmp owners)) (enclosed m hashed true x encloser)) (encloser_of m hashed x)

      passed : (b : Bool) (own : Name) → cond (b && false) (Ok (own ∷ [])) of_encloser ≡ of_encloser
      passed true own = refl
      passed false own = refl

      owners_are : nsec3_denying_owners m hashed true x ≡ Ok (owner zone apart cover.0 ∷ [])
      owners_are =
          ap (result_and_then (λ own. cond (owns m own NSEC3 && false) (Ok (own ∷ [])) of_encloser)) (is_owner zone apart x (inr (a, e.is_encloser, inl (([], refl), e.above))))
          ∙ passed (owns m (owner zone apart x) NSEC3) (owner zone apart x)
          ∙ ap (result_and_then (λ encloser. result_and_then (λ owners. Ok (in_order name_cmp owners)) (enclosed m hashed true x encloser))) (encloser_is zone apart a c e below_root)
          ∙ ap
          (λ o. result_and_then (λ owners. Ok (in_order name_cmp owners))
          (result_and_then (λ closer. cond true (Ok closer) (result_and_then (λ encloser. result_and_then (λ wildcard_name. Ok (encloser ++ closer ++ wildcard_name)) (wildcard_part m hashed a)) (match_of m hashed a))) (option_map_or (cover_of m hashed) o (Ok [])))) e.is_closer
          ∙ ap (λ r. result_and_then (λ owners. Ok (in_order name_cmp owners)) (result_and_then (λ closer. cond true (Ok closer) (result_and_then (λ encloser. result_and_then (λ wildcard_name. Ok (encloser ++ closer ++ wildcard_name)) (wildcard_part m hashed a)) (match_of m hashed a))) r))
          (cover_is zone apart c cover.0 (closer_hashed a c e) cover.1)

pub denies : Nsec3ChainDenies
denies origin beside m hash parameters names zone below_root x inside apart answer given = record {
  on = λ on. own_set zone apart (Contains-In x names on) answer given;
  off = λ off.
      let away = λ (i : In x names). off (In-Contains x names i) in
      let n = enclosed_off names origin zone.begins x inside away in
      denied_away zone apart below_root away n.0 n.1 n.2 answer given;
}

pub covers_closer : Nsec3ChainCoversCloser
covers_closer origin beside m hash parameters names zone below_root x inside apart off answer given =
    let n = enclosed_off names origin zone.begins x inside (λ i. off (In-Contains x names i)) in
    covered_closer zone apart below_root n.0 n.1 n.2 answer given
