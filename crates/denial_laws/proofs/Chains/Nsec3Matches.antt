-- Which records of a chain of NSEC3 sets match and cover a name that is hashed
use Rattle.std.proofs.Common.{◌≡◌, ℕ, Bool, true, false, ◌&&◌, ◌||◌, List, refl, sym, ap, ◌∙◌, subst, is_lt, is_le}
use Rattle.std.specs.Prelude.{Option, Some, option_map}
use Rattle.std.specs.Cmp.{both_ways}
use Rattle.std.specs.Option.{option_map_or}
use Rattle.zone_proto.specs.declared.rdata.denial.NSEC3PARAM.{NSEC3PARAM as Nsec3Parameters}
use Rattle.zone_proto.specs.HashedOwners.{hashed_owner}
use Rattle.zone_proto.specs.Names.{Name, name_eq, name_cmp, octets_cmp}
use Rattle.zone_proto.proofs.Members.{In, In-from_any, any_from_In}
use Rattle.zone_proto.proofs.Names.NameTree.{name_eq-Decides}
use Rattle.zone_proto.proofs.Names.Tree.{name_eq_itself}
use Rattle.zone_map.specs.Zones.{Sets}
use Rattle.zone_denial.specs.Covering.{covers as goes_around}
use Rattle.zone_denial.specs.Nsec3Circle.{digests, next_digest}
use Rattle.zone_denial.specs.Chains.{IsNsec3Chain}
use Rattle.zone_denial.specs.Nsec3Zones.{IsHashedOn, HasDistinctDigests}
use Rattle.zone_denial.proofs.Chains.Nsec3Owners.{owner, named_hashed, owners_as_digests, digest_in, name_of_digest}
use Rattle.zone_denial.proofs.Hashed.Nsec3Owners.{octets_order, same_by_owner}
use Rattle.denial_validation.specs.Nsec3Proofs.{owner_of, matches, covers, goes_over, is_matched, is_covered}
use Rattle.denial_validation.specs.Nsec3Records.{Nsec3Record}
use Rattle.denial_laws.proofs.Circles.{next_among, never_covered}
use Rattle.denial_laws.proofs.Chains.Nsec3Readings.{record_of}

module _ {origin : Name} {beside m : Sets} {hash : Name → Option (List ℕ)} {parameters : Nsec3Parameters} {names : List Name} {x : Name} (zone : IsNsec3Chain origin beside m hash parameters names) (apart : HasDistinctDigests (IsHashedOn names x) hash) where
  abbrev Hashed : Name → Type 0
  Hashed n = IsHashedOn names x n

  owner_is : (c : Name) → Hashed c → owner_of origin hash c ≡ Some (owner zone apart c)
  owner_is c h = ap (option_map (hashed_owner origin)) (apart.answers c h)

  -- a record matches its own name alone
  pub matches_is : (n c : Name) → In n names → Hashed c → matches origin hash (record_of zone apart n) c ≡ name_eq n c
  matches_is n c i h =
      ap (λ o. option_map_or (name_eq (owner zone apart n)) o false) (owner_is c h)
      ∙ both_ways (name_eq (owner zone apart n) (owner zone apart c)) (name_eq n c)
      (λ e. (name_eq-Decides n c).1 (same_by_owner apart origin n c (named_hashed zone apart n i) h ((name_eq-Decides (owner zone apart n) (owner zone apart c)).0 e)))
      (λ e. (name_eq-Decides (owner zone apart n) (owner zone apart c)).1 (ap (owner zone apart) ((name_eq-Decides n c).0 e)))

  -- it covers what its digest and the next one cover
  pub covers_is : (n c : Name) → In n names → Hashed c
      → covers origin hash (record_of zone apart n) c ≡ goes_around octets_cmp (apart.digest n) (next_digest (digests hash names) (apart.digest n)) (apart.digest c)
  covers_is n c i h =
      ap (λ o. option_map_or (goes_over (owner zone apart n) (hashed_owner origin next)) o false) (owner_is c h)
      ∙ (λ i. (is_lt (first i) && is_lt (second i)) || (is_le (third i) && (is_lt (first i) || is_lt (second i))))
    where
      next : List ℕ
      next = next_digest (digests hash names) (apart.digest n)

      k : (k : Name) × In k names × (next ≡ apart.digest k)
      k = name_of_digest zone apart next (next_among octets_order (digests hash names) (apart.digest n) (digest_in zone apart n i))

      next_owner : hashed_owner origin next ≡ owner zone apart k.0
      next_owner = ap (hashed_owner origin) k.2

      own : Hashed n
      own = named_hashed zone apart n i

      next_hashed : Hashed k.0
      next_hashed = named_hashed zone apart k.0 k.1

      first : name_cmp (owner zone apart n) (owner zone apart c) ≡ octets_cmp (apart.digest n) (apart.digest c)
      first = owners_as_digests zone apart n c own h

      second : name_cmp (owner zone apart c) (hashed_owner origin next) ≡ octets_cmp (apart.digest c) next
      second = ap (name_cmp (owner zone apart c)) next_owner ∙ owners_as_digests zone apart c k.0 h next_hashed ∙ ap (octets_cmp (apart.digest c)) (sym k.2)

      third : name_cmp (hashed_owner origin next) (owner zone apart n) ≡ octets_cmp next (apart.digest n)
      third = ap (λ o. name_cmp o (owner zone apart n)) next_owner ∙ owners_as_digests zone apart k.0 n next_hashed own ∙ ap (λ d. octets_cmp d (apart.digest n)) (sym k.2)

  -- so it covers no name of the chain
  pub covered_off : (n c : Name) → In n names → Hashed c → covers origin hash (record_of zone apart n) c ≡ true → In c names → ⊥
  covered_off n c i h e on = never_covered octets_order (digests hash names) (apart.digest n) (digest_in zone apart n i) (apart.digest c) (digest_in zone apart c on) (sym (covers_is n c i h) ∙ e)

  -- ---- records of names in the chain

  module _ (rs : List Nsec3Record) (of_names : (r : Nsec3Record) → In r rs → (n : Name) × In n names × (r ≡ record_of zone apart n)) where
    -- off the chain nothing matches
    pub unmatched : (c : Name) → Hashed c → (In c names → ⊥) → is_matched origin hash rs c ≡ false
    unmatched c h off = by (is_matched origin hash rs c) refl
      where
        by : (b : Bool) → is_matched origin hash rs c ≡ b → b ≡ false
        by false e = refl
        by true e =
            let r = In-from_any (λ r. matches origin hash r c) rs e in
            let n = of_names r.0 r.1 in
            let same : n.0 ≡ c = (name_eq-Decides n.0 c).0 (sym (matches_is n.0 c n.1 h) ∙ ap (λ r. matches origin hash r c) (sym n.2) ∙ r.2) in
            absurd (off (subst (λ w. In w names) same n.1))

    -- what is covered isn't in the chain
    pub off_where_covered : (c : Name) → Hashed c → is_covered origin hash rs c ≡ true → In c names → ⊥
    off_where_covered c h e =
        let r = In-from_any (λ r. covers origin hash r c) rs e in
        let n = of_names r.0 r.1 in
        covered_off n.0 c n.1 h (ap (λ r. covers origin hash r c) (sym n.2) ∙ r.2)

  -- a name's own record matches it
  pub matches_itself : (n : Name) → In n names → matches origin hash (record_of zone apart n) n ≡ true
  matches_itself n i = matches_is n n i (named_hashed zone apart n i) ∙ name_eq_itself n

  pub matched_by : (rs : List Nsec3Record) (n : Name) → In n names → In (record_of zone apart n) rs → is_matched origin hash rs n ≡ true
  matched_by rs n i j = any_from_In (λ r. matches origin hash r n) (record_of zone apart n) rs j (matches_itself n i)
