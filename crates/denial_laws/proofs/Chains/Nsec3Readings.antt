-- What a validator reads in the NSEC3 sets of a chain: of each name the owner, the next digest and the types
use Rattle.std.proofs.Common.{◌≡◌, ℕ, List, [], ◌∷◌, map, refl, sym, ap, ◌∙◌, subst, inl, inr}
use Rattle.std.specs.Prelude.{Option, Some, option_map, option_and_then, unwrap_or, is_some, slice_index_or}
use Rattle.std.specs.List.{Contains}
use Rattle.zone_proto.specs.declared.rdata.denial.NSEC3PARAM.{NSEC3PARAM as Nsec3Parameters}
use Rattle.zone_proto.specs.Names.{Name, name_cmp, lower}
use Rattle.zone_proto.specs.Sets.{RRset}
use Rattle.zone_proto.specs.Types.{NSEC3}
use Rattle.zone_proto.proofs.Members.{In, In-Contains, Contains-In}
use Rattle.zone_proto.proofs.Names.Tree.{name_order}
use Rattle.zone_proto.proofs.Ordering.KeyOrder.{equal_of}
use Rattle.zone_map.specs.Zones.{Sets, set_at}
use Rattle.zone_map.proofs.Owned.{owner_in}
use Rattle.zone_denial.specs.Chains.{IsNsec3Chain}
use Rattle.zone_denial.specs.Nsec3Circle.{nsec3_data as data_of, next_digest, digests}
use Rattle.zone_denial.specs.Nsec3Laws.{types3_of}
use Rattle.zone_denial.specs.Nsec3Zones.{IsHashedOn, HasDistinctDigests}
use Rattle.zone_denial.proofs.Chain.NsecSecured.{numbers_back}
use Rattle.zone_denial.proofs.Chains.Nsec3Owners.{owner, set_of_named, name_of_owner}
use Rattle.denial_validation.specs.Nsec3Records.{Nsec3Record, nsec3_records}
use Rattle.denial_laws.specs.Nsec3Scope.{read_nsec3_sets, AreNsec3OfZone}
use Rattle.denial_laws.proofs.Nsec3Readings.{read_single, read_from}

module _ {origin : Name} {beside m : Sets} {hash : Name → Option (List ℕ)} {parameters : Nsec3Parameters} {names : List Name} {x : Name} (zone : IsNsec3Chain origin beside m hash parameters names) (apart : HasDistinctDigests (IsHashedOn names x) hash) where
  -- the types that the set of a name lists
  abbrev pub listed_types : Name → List ℕ
  listed_types n = unwrap_or (option_and_then types3_of (set_at m (owner zone apart n) NSEC3)) []

  pub types_are : (n : Name) (i : In n names) → (set_of_named zone apart n i).2.types ≡ listed_types n
  types_are n i =
      let s = set_of_named zone apart n i in
      sym
      (ap (λ p. unwrap_or (option_and_then types3_of p) []) s.1
      ∙ ap (λ a. unwrap_or (option_map (λ a. map (λ t. t.0) a.types) a) []) s.2.says
      ∙ numbers_back s.2.types)

  -- what is read in it
  abbrev pub record_of : Name → Nsec3Record
  record_of n = record {
    owner = owner zone apart n;
    next = next_digest (digests hash names) (apart.digest n);
    types = listed_types n;
    opt_out = parameters.opt_out;
  }

  read_set : (n : Name) → In n names → (s : RRset) → set_at m (owner zone apart n) NSEC3 ≡ Some s → nsec3_records s.records ≡ record_of n ∷ []
  read_set n i s e =
      let own = set_of_named zone apart n i in
      let same : own.0 ≡ s = same_value own.0 s (sym own.1 ∙ e) in
      let stored = zone.zone.stored (owner zone apart n) NSEC3 own.0 own.1 in
      ap (λ (s : RRset). nsec3_records s.records) (sym same)
      ∙ read_single (owner zone apart n) (data_of parameters (next_digest (digests hash names) (apart.digest n)) own.2.types) own.0.records own.2.single own.2.says
      (λ k d l.
      let w : Name = lower (slice_index_or own.0.records k d).name in
      name_order.exact w (lower own.0.owner) (equal_of (name_cmp w (lower own.0.owner)) (stored.set.owners k d l)) ∙ stored.owner)
      ∙ (λ k. record (record_of n) { types = (numbers_back own.2.types ∙ types_are n i) k } ∷ [])
    where
      same_value : (s r : RRset) → Some s ≡ Some r → s ≡ r
      same_value s r e = cc

  -- it is among what an answer shows that has the set
  pub shown : (answer : List RRset) (n : Name) → In n names → ((s : RRset) → set_at m (owner zone apart n) NSEC3 ≡ Some s → Contains answer s) → In (record_of n) (read_nsec3_sets answer)
  shown answer n i has =
      let s = set_of_named zone apart n i in
      read_from answer s.0 (record_of n) (Contains-In s.0 answer (has s.0 s.1)) (subst (In (record_of n)) (sym (read_set n i s.0 s.1)) (inl refl))

  -- a record of the zone is that of a name in the chain
  pub of_name : (rs : List Nsec3Record) → AreNsec3OfZone m rs → (r : Nsec3Record) → In r rs → (n : Name) × In n names × (r ≡ record_of n)
  of_name rs of_zone r i = by (of_zone r (In-Contains r rs i))
    where
      by : (o : Name) × (s : RRset) × (set_at m o NSEC3 ≡ Some s) × Contains (nsec3_records s.records) r → (n : Name) × In n names × (r ≡ record_of n)
      by (o, s, e, c) =
          let n = name_of_owner zone apart o (owner_in m o NSEC3 (ap is_some e)) in
          (n.0, n.1, one n.0 (subst (In r) (read_set n.0 n.1 s (ap (λ a. set_at m a NSEC3) (sym n.2) ∙ e)) (Contains-In r (nsec3_records s.records) c)))
        where
          one : (n : Name) → In r (record_of n ∷ []) → r ≡ record_of n
          one n (inl e) = sym e
          one n (inr i) = absurd i
