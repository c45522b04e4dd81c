-- What a closest encloser proof says, by whichever NSEC3 records of a zone, with opt-out or without
use Rattle.std.proofs.Common.{◌≡◌, ℕ, Bool, true, List, [], refl, sym, ap, ◌∙◌, subst, ◌⊎◌, inl, inr}
use Rattle.std.specs.Prelude.{Option}
use Rattle.std.specs.List.{Contains}
use Rattle.zone_proto.specs.declared.rdata.denial.NSEC3PARAM.{NSEC3PARAM as Nsec3Parameters}
use Rattle.zone_proto.specs.Names.{Name, is_at_or_above, IsAtOrAbove, IsAbove}
use Rattle.zone_proto.proofs.Members.{In, In-Contains, Contains-In, any_from_In, and_left}
use Rattle.zone_proto.proofs.Names.NameTree.{is_at_or_above_sound, name_eq-Decides}
use Rattle.zone_proto.proofs.Names.Tree.{above_cases}
use Rattle.zone_map.specs.Zones.{Sets}
use Rattle.zone_denial.specs.Chains.{IsNsec3Chain}
use Rattle.zone_denial.specs.Nsec3Zones.{IsHashedOn, HasDistinctDigests}
use Rattle.zone_denial.proofs.Names.LongestAncestors.{longest_above}
use Rattle.zone_denial.proofs.Chains.Nsec3Names.{is_named, in_named, origin_in}
use Rattle.zone_denial.proofs.Chain.NsecBelow.{above_at}
use Rattle.denial_validation.specs.Nsec3Proofs.{matches, covers, is_matched, is_covered}
use Rattle.denial_validation.specs.Nsec3Records.{Nsec3Record}
use Rattle.denial_laws.proofs.Chains.Nsec3Matches.{matches_is, off_where_covered}
use Rattle.denial_laws.proofs.Chains.Nsec3Readings.{record_of}
use Rattle.denial_laws.proofs.Nsec3Proved.{closer_inside, IsProved}

-- ---- names of the chain

-- a name below the origin that is at or above one of the chain is one
pub ancestor_named : {origin : Name} {beside m : Sets} {hash : Name → Option (List ℕ)} {parameters : Nsec3Parameters} {names : List Name} → IsNsec3Chain origin beside m hash parameters names
    → (y b : Name) → In b names → IsAtOrAbove y b → IsAbove origin y → In y names
ancestor_named {origin} {names = names} zone y b i u w = Contains-In y names (zone.between b y (In-Contains b names i) (above_at origin y w) u)

-- a name of the zone is hashed for its own denial
pub self_hashed : (names : List Name) (origin : Name) → Contains names origin → (x : Name) → IsAtOrAbove origin x → IsHashedOn names x x
self_hashed names origin begins x u = by (above_cases origin x u)
  where
    by : (origin ≡ x) ⊎ IsAbove origin x → IsHashedOn names x x
    by (inl e) = inl (subst (Contains names) e begins)
    by (inr w) =
        let a = longest_above (is_named names) x origin w (in_named names origin (origin_in names origin begins)) in
        inr (a.0, a.1.found, inl (([], refl), above_at a.0 x a.1.above))

module _ {origin : Name} {beside m : Sets} {hash : Name → Option (List ℕ)} {parameters : Nsec3Parameters} {names : List Name} {x : Name} (zone : IsNsec3Chain origin beside m hash parameters names) (apart : HasDistinctDigests (IsHashedOn names x) hash)
    (rs : List Nsec3Record) (of_names : (r : Nsec3Record) → In r rs → (n : Name) × In n (names) × (r ≡ record_of zone apart n)) where
  -- what is covered isn't in the chain
  pub uncovered : (c : Name) → is_covered origin hash rs c ≡ true → In c names → ⊥
  uncovered c e i = off_where_covered zone apart rs of_names c (inl (In-Contains c names i)) e i

  -- nor is a name at or below it
  pub none_below_covered : (y c : Name) → IsAtOrAbove c y → IsAbove origin c → is_covered origin hash rs c ≡ true → In y names → ⊥
  none_below_covered y c at below e i = uncovered c e (ancestor_named zone c y i at below)

  -- a record that matches a hashed name is that of this name, which is in the chain
  pub matching : (y : Name) → IsHashedOn names x y → (r : Nsec3Record) → In r rs → matches origin hash r y ≡ true → In y names × (r ≡ record_of zone apart y)
  matching y h r i e =
      let n = of_names r i in
      let same : n.0 ≡ y = (name_eq-Decides n.0 y).0 (sym (matches_is zone apart n.0 y n.1 h) ∙ ap (λ r. matches origin hash r y) (sym n.2) ∙ e) in
      (subst (λ w. In w names) same n.1, n.2 ∙ ap (record_of zone apart) same)

  module _ (cover : Nsec3Record → Bool) (rest : Name → Bool) (p : IsProved origin hash rs cover x rest) where
    pub closer_covered : is_covered origin hash rs p.closer ≡ true
    closer_covered = any_from_In (λ r. covers origin hash r p.closer) p.covering.0 rs p.covering.1 (and_left (covers origin hash p.covering.0 p.closer) (cover p.covering.0) p.covering.2)

    pub encloser_inside : IsAtOrAbove origin p.encloser
    encloser_inside = is_at_or_above_sound origin p.encloser (and_left (is_at_or_above origin p.encloser) (is_matched origin hash rs p.encloser) p.shown.passes)

    pub closer_below : IsAbove origin p.closer
    closer_below = closer_inside origin x p.encloser p.closer encloser_inside (above_at p.encloser x p.shown.above) p.at p.longer

    -- the name isn't in the chain
    pub proved_off : In x names → ⊥
    proved_off = none_below_covered x p.closer p.at closer_below closer_covered
