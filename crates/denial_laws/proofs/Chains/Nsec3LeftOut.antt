-- What a proof by NSEC3 records that a name isn't there says under opt-out: what is there is left out, or is below a
-- cut
use Rattle.std.proofs.Common.{◌≡◌, ◌≢◌, ℕ, Bool, true, false, not, ◌||◌, List, refl, sym, ◌∙◌, ◌⊎◌, inl, inr, eqb-true}
use Rattle.std.specs.Prelude.{Option, ◌==◌}
use Rattle.std.specs.List.{Contains}
use Rattle.zone_proto.specs.declared.rdata.denial.NSEC3PARAM.{NSEC3PARAM as Nsec3Parameters}
use Rattle.zone_proto.specs.Names.{Name, IsAtOrAbove, IsAbove, wildcard_under}
use Rattle.zone_proto.specs.Types.{NSEC3}
use Rattle.zone_proto.proofs.Members.{In, Contains-In}
use Rattle.zone_proto.proofs.Names.NameTree.{is_at_or_above_complete}
use Rattle.zone_map.specs.Zones.{Sets, owns}
use Rattle.zone_denial.specs.Authority.{is_below_cut}
use Rattle.zone_denial.specs.Chains.{may_be_left_out, IsNsec3Chain}
use Rattle.zone_denial.specs.Nsec3Zones.{IsHashedOn, HasDistinctDigests}
use Rattle.zone_denial.proofs.Names.AuthoritativeNames.{authoritative_from, besides_from}
use Rattle.zone_denial.proofs.Chain.NsecBelow.{above_at, above_through}
use Rattle.denial_validation.specs.Nsec3Proofs.{is_covered, is_denied, proves_name_error, proves_opted_out, proves_wildcard_no_data}
use Rattle.denial_validation.specs.Nsec3Records.{Nsec3Record}
use Rattle.denial_laws.specs.Nsec3Scope.{AreNsec3OfZone}
use Rattle.denial_laws.specs.Nsec3Chains.{IsLeftOutOn, Nsec3ChainOptOutSound}
use Rattle.denial_laws.specs.Nsec3Soundness.{proves_absence}
use Rattle.denial_laws.proofs.Chains.Nsec3Proved.{ancestor_named, uncovered, closer_covered, closer_below, proved_off}
use Rattle.denial_laws.proofs.Nsec3Proved.{IsProved, parts}
use Rattle.denial_laws.proofs.Chains.Nsec3Readings.{record_of, of_name}
use Rattle.denial_laws.proofs.Chains.Nsec3Soundness.{nsec3_unsigned_delegation_sound}

module _ {origin : Name} {beside m : Sets} {hash : Name → Option (List ℕ)} {parameters : Nsec3Parameters} {names : List Name} {x : Name} (zone : IsNsec3Chain origin beside m hash parameters names) (apart : HasDistinctDigests (IsHashedOn names x) hash)
    (rs : List Nsec3Record) (of_zone : AreNsec3OfZone m rs) (cover : Nsec3Record → Bool) (rest : Name → Bool) (p : IsProved origin hash rs cover x rest)
  where
    of_names : (r : Nsec3Record) → In r rs → (n : Name) × In n names × (r ≡ record_of zone apart n)
    of_names = of_name zone apart rs of_zone

    below : IsAbove origin p.closer
    below = closer_below zone apart rs of_names cover rest p

    -- a name of the chain at or below the next closer name would make that one too
    unnamed : (n : Name) → IsAtOrAbove p.closer n → Contains names n → ⊥
    unnamed n u c =
        uncovered zone apart rs of_names p.closer (closer_covered zone apart rs of_names cover rest p)
        (ancestor_named zone p.closer n (Contains-In n names c) u below)

    left : (n : Name) (t : ℕ) → IsAtOrAbove x n → owns m n t ≡ true → t ≢ NSEC3 → (is_below_cut origin m n ≡ true) ⊎ (may_be_left_out origin m parameters.opt_out n ≡ true)
    left n t u k ne = by (is_below_cut origin m n) refl
      where
        at : IsAtOrAbove p.closer n
        at = above_through p.closer x n p.at u

        besides : not (t == NSEC3) ≡ true
        besides = of (t == NSEC3) refl
          where
            of : (b : Bool) → (t == NSEC3) ≡ b → not b ≡ true
            of true e = absurd (ne (eqb-true t NSEC3 e))
            of false e = refl

        out : Contains names n ⊎ (may_be_left_out origin m parameters.opt_out n ≡ true) → may_be_left_out origin m parameters.opt_out n ≡ true
        out (inl c) = absurd (unnamed n at c)
        out (inr e) = e

        by : (b : Bool) → is_below_cut origin m n ≡ b → (is_below_cut origin m n ≡ true) ⊎ (may_be_left_out origin m parameters.opt_out n ≡ true)
        by true e = inl e
        by false e =
            inr (out (zone.complete n (authoritative_from origin m NSEC3 n (is_at_or_above_complete origin n (above_through origin p.closer n (above_at origin p.closer below) at)) (besides_from m NSEC3 n t besides k) e)))

    is_left_out : IsLeftOutOn origin m parameters.opt_out names x
    is_left_out = record { off = λ i. proved_off zone apart rs of_names cover rest p (Contains-In x names i); left_out = left }

pub nsec3_absence_sound : (origin : Name) (beside m : Sets) (hash : Name → Option (List ℕ)) (parameters : Nsec3Parameters) (names : List Name) (rs : List Nsec3Record) (x : Name) (t : ℕ) → IsNsec3Chain origin beside m hash parameters names
    → HasDistinctDigests (IsHashedOn names x) hash → AreNsec3OfZone m rs → proves_absence origin hash rs x t ≡ true → IsLeftOutOn origin m parameters.opt_out names x
nsec3_absence_sound origin beside m hash parameters names rs x t zone apart of_zone p = by (proves_name_error origin hash rs x) refl (proves_opted_out origin hash rs x) refl
  where
    by : (a : Bool) → proves_name_error origin hash rs x ≡ a → (b : Bool) → proves_opted_out origin hash rs x ≡ b → IsLeftOutOn origin m parameters.opt_out names x
    by true e b f =
        is_left_out zone apart rs of_zone (λ r. true) (λ e. is_covered origin hash rs (wildcard_under e)) (parts origin hash rs (λ r. true) x (λ e. is_covered origin hash rs (wildcard_under e)) e)
    by false e true f = is_left_out zone apart rs of_zone (λ r. r.opt_out) (λ e. true) (parts origin hash rs (λ r. r.opt_out) x (λ e. true) f)
    by false e false f =
        is_left_out zone apart rs of_zone (λ r. true) (λ e. is_denied origin hash rs (wildcard_under e) t)
        (parts origin hash rs (λ r. true) x (λ e. is_denied origin hash rs (wildcard_under e) t) ((λ i. sym e i || sym f i || proves_wildcard_no_data origin hash rs x t) ∙ p))

pub nsec3_opt_out_sound : Nsec3ChainOptOutSound
nsec3_opt_out_sound origin beside m hash parameters names rs x zone apart of_zone = record {
  absence = λ t. nsec3_absence_sound origin beside m hash parameters names rs x t zone apart of_zone;
  delegation = nsec3_unsigned_delegation_sound origin beside m hash parameters names rs x zone apart of_zone;
}
