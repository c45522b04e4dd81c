-- On a circle of NSEC3 sets, the denial of a name off it has the set of the wildcard at the closest encloser, or covers
-- the wildcard
use Rattle.std.proofs.Common.{◌≡◌, ℕ, Bool, true, false, cond, List, [], ◌∷◌, refl, sym, ap, ◌∙◌, subst, inl, inr}
use Rattle.std.specs.Prelude.{Option, Some, None, Result, Ok, option_map, option_to_list}
use Rattle.std.specs.List.{Contains}
use Rattle.std.specs.Option.{option_or}
use Rattle.zone_proto.specs.declared.error.ProtoError.{ProtoError}
use Rattle.zone_proto.specs.declared.rdata.denial.NSEC3PARAM.{NSEC3PARAM as Nsec3Parameters}
use Rattle.zone_proto.specs.HashedOwners.{owner_or_refusal}
use Rattle.zone_proto.specs.Names.{Name, is_at_or_above, wildcard_under}
use Rattle.zone_proto.specs.Sets.{RRset}
use Rattle.zone_proto.specs.Types.{NSEC3}
use Rattle.zone_proto.proofs.Members.{In, In-Contains, Contains-In}
use Rattle.zone_map.specs.Zones.{Sets, owns}
use Rattle.zone_denial.specs.Nsec3Circle.{digests, next_digest}
use Rattle.zone_denial.specs.Nsec3Denial.{cover_owner, enclosed, wildcard_part, nsec3_denial}
use Rattle.zone_denial.specs.Nsec3Laws.{HasSetOrCover, ProvesWildcard, Nsec3DenialProvesWildcard}
use Rattle.zone_denial.specs.Nsec3Names.{nsec3_names}
use Rattle.zone_denial.specs.Nsec3Zones.{IsNsec3Zone, IsHashed, HasDistinctDigests}
use Rattle.zone_denial.proofs.Hashed.Nsec3Covers.{has_cover}
use Rattle.zone_denial.proofs.Hashed.Nsec3Enclosers.{is_named, named_in, IsEnclosed, enclosed_off}
use Rattle.zone_denial.proofs.Hashed.Nsec3Encloses.{Has, wildcard_hashed, wildcard_owners, wildcard_answered, answer_off}
use Rattle.zone_denial.proofs.Hashed.Nsec3Owners.{named_hashed, owner, set_of_named, named_owns, owns_as_named}

module _ {origin : Name} {m : Sets} {hash : Name → Option (List ℕ)} {parameters : Nsec3Parameters} {x : Name} (zone : IsNsec3Zone origin m hash parameters) (apart : HasDistinctDigests (IsHashed origin m parameters.opt_out x) hash) where
  abbrev names : List Name
  names = nsec3_names origin m parameters.opt_out

  abbrev hashed : Name → Result Name ProtoError
  hashed n = owner_or_refusal origin (hash n)

  module _ (a c : Name) (e : IsEnclosed origin m parameters.opt_out x a c) (answer : List RRset)
      (has : (o : Name) → In o (wildcard_owners zone apart a) → Has zone apart answer o)
    where
      abbrev wildcard_name : Name
      wildcard_name = wildcard_under a

      -- the owners of the wildcard's part, by whether its hashed owner owns NSEC3
      owners_are : (b : Bool) → owns m (owner zone apart wildcard_name) NSEC3 ≡ b
          → wildcard_owners zone apart a ≡ option_to_list (option_or (cond b (Some (owner zone apart wildcard_name)) None) (cover_owner m (owner zone apart wildcard_name)))
      owners_are b h = ap (λ b. option_to_list (option_or (cond b (Some (owner zone apart wildcard_name)) None) (cover_owner m (owner zone apart wildcard_name)))) h

      wildcard_proved : HasSetOrCover origin m hash parameters.opt_out wildcard_name answer
      wildcard_proved = record {
        on = λ on.
            let i = Contains-In wildcard_name names on in
            let s = set_of_named zone apart wildcard_name i in
            (s.0, (apart.digest wildcard_name, apart.answers wildcard_name (wildcard_hashed zone apart a c e), s.1), has (owner zone apart wildcard_name) (subst (In (owner zone apart wildcard_name)) (sym (owners_are true (named_owns zone apart wildcard_name i))) (inl refl)) s.0 s.1);
        off = λ off.
            let h = wildcard_hashed zone apart a c e in
            let cover = has_cover zone apart wildcard_name h (λ i. off (In-Contains wildcard_name names i)) in
            let s = set_of_named zone apart cover.0 cover.1.on in
            let is : wildcard_owners zone apart a ≡ owner zone apart cover.0 ∷ [] = owners_are false (owns_as_named zone apart wildcard_name h ∙ unnamed off (is_named origin m parameters.opt_out wildcard_name) refl) ∙ ap option_to_list cover.1.is_cover in (
              s.0,
              record {
                owner = apart.digest cover.0;
                octets = apart.octets cover.0 (named_hashed zone apart cover.0 cover.1.on);
                next = next_digest (digests hash names) (apart.digest cover.0);
                digest = apart.digest wildcard_name;
                stands = s.1;
                said = ap (option_map (λ a. a.next_hashed_owner_name)) s.2.says;
                hashed = apart.answers wildcard_name h;
                covered = cover.1.covered;
              },
              has (owner zone apart cover.0) (subst (In (owner zone apart cover.0)) (sym is) (inl refl)) s.0 s.1,
            );
      }
        where
          unnamed : (Contains names wildcard_name → ⊥) → (b : Bool) → is_named origin m parameters.opt_out wildcard_name ≡ b → is_named origin m parameters.opt_out wildcard_name ≡ false
          unnamed off true h = absurd (off (In-Contains wildcard_name names (named_in origin m parameters.opt_out wildcard_name h)))
          unnamed off false h = h

  wildcard_of_denial : is_at_or_above origin x ≡ true → (Contains names x → ⊥)
      → (answer : List RRset) × (nsec3_denial m hashed false x ≡ Ok answer) × ProvesWildcard origin m hash parameters.opt_out x answer
  wildcard_of_denial inside off =
      let away = λ (i : In x names). off (In-Contains x names i) in
      let n = enclosed_off origin m parameters.opt_out x inside away in
      let r = answer_off zone apart (enclosed m hashed false x) (wildcard_part m hashed) (λ a. refl) away n.0 n.1 n.2 (wildcard_owners zone apart n.0) (wildcard_answered zone apart n.0 (wildcard_hashed zone apart n.0 n.1 n.2)) in (
        r.0,
        r.1.given,
        record {
          encloser = n.0;
          is_encloser = n.2.is_encloser;
          wildcard_name = wildcard_proved n.0 n.1 n.2 r.0 (λ o i. r.1.has o (inr (inr i)));
        },
      )

pub proves_wildcard : Nsec3DenialProvesWildcard
proves_wildcard origin m hash parameters zone x inside apart off = wildcard_of_denial zone apart inside off
