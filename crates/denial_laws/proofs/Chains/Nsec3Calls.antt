-- The call `nsec3::proof` finds the parameters of a zone in records of its NSEC3 sets, and judges by them
use Rattle.std.proofs.Common.{◌≡◌, ℕ, Bool, true, false, cond, not, ◌&&◌, List, [], ◌∷◌, length, refl, sym, ap, ◌∙◌, subst, true≢false, ◌⊎◌, inl, inr, eq-eqb}
use Rattle.std.specs.Prelude.{Option, Some, None, filter, filter_map, find, is_some, option_map, option_and_then, slice_index_or}
use Rattle.std.specs.List.{Contains, cons_option}
use Rattle.std.specs.Option.{option_map_or}
use Rattle.std.proofs.lemmas.Cmp.{nat_list_eq_equiv}
use Rattle.zone_proto.specs.declared.rdata.denial.NSEC3.{NSEC3 as Nsec3Data}
use Rattle.zone_proto.specs.declared.rdata.denial.NSEC3PARAM.{NSEC3PARAM as Nsec3Parameters}
use Rattle.zone_proto.specs.declared.record.Record.{Record}
use Rattle.zone_proto.specs.Base32.{base32_count, base32_text}
use Rattle.zone_proto.specs.Names.{Name, lower, name_cmp, is_at_or_above}
use Rattle.zone_proto.specs.Sets.{RRset}
use Rattle.zone_proto.specs.Types.{NSEC3}
use Rattle.zone_proto.proofs.Ordering.KeyOrder.{equal_of}
use Rattle.zone_proto.proofs.Members.{In, In-Contains, Contains-In, In-from_any, In-from_filter_map, and_left, not_true}
use Rattle.zone_proto.proofs.Names.NameTree.{is_at_or_above_sound}
use Rattle.zone_proto.proofs.Names.Tree.{name_order, name_eq_itself}
use Rattle.zone_map.specs.Zones.{Sets, set_at}
use Rattle.zone_map.proofs.Owned.{owner_in}
use Rattle.zone_denial.specs.Nsec3Circle.{nsec3_data as data_of, next_digest, digests}
use Rattle.zone_denial.specs.Chains.{IsInNsec3Chain, IsNsec3Chain}
use Rattle.zone_denial.specs.Nsec3Zones.{IsHashedOn, HasDistinctDigests, hash_with}
use Rattle.zone_denial.proofs.Chains.Nsec3Owners.{owner, named_hashed, set_of_named, name_of_owner, digest_in, name_of_digest}
use Rattle.zone_denial.proofs.Hashed.Nsec3Owners.{octets_order}
use Rattle.denial_validation.specs.declared.proof.Proof.{Proof}
use Rattle.denial_validation.specs.Judgement.{nsec3_proof}
use Rattle.denial_validation.specs.Nsec3Parameters.{same_parameters, is_of_zone, zone_data, has_parameters, records_with, nsec3_datas, digest_by, is_known, is_other, is_other_known, common_parameters}
use Rattle.denial_validation.specs.Nsec3Records.{Nsec3Record, nsec3_data, nsec3_record, read_nsec3, nsec3_records}
use Rattle.denial_laws.specs.Nsec3Calls.{StandInNsec3Sets, call_concludes}
use Rattle.denial_laws.specs.Nsec3Chains.{Nsec3ChainParametersFound}
use Rattle.denial_laws.proofs.Circles.{next_among}
use Rattle.denial_laws.proofs.Chains.Nsec3Proved.{self_hashed}
use Rattle.denial_laws.proofs.Nsec3Readings.{text_length}
use Rattle.denial_laws.proofs.Nsec3Silence.{nsec3_nothing_outside}
use Rattle.denial_laws.proofs.Nsec3Calls.{nothing_by_none, single_is}
use Rattle.denial_laws.proofs.Tests.{refuted}

module _ {origin : Name} {beside m : Sets} (digest_of : ℕ → List ℕ → Name → ℕ → Option (List ℕ)) {parameters : Nsec3Parameters} {names : List Name} {x : Name} (zone : IsNsec3Chain origin beside m (hash_with digest_of parameters) parameters names)
    (apart : HasDistinctDigests (IsHashedOn names x) (hash_with digest_of parameters))
  where
    abbrev hash : Name → Option (List ℕ)
    hash = hash_with digest_of parameters

    -- a record of the zone, with its parameters
    record IsOfZone (r : Record) : Type 0 where
      next : List ℕ
      types : List ℕ
      says : nsec3_data r.rdata ≡ Some (data_of parameters next types)
      counts : zone_data origin r ≡ Some (data_of parameters next types)

    -- so is that of a name in the chain
    of_name : (n : Name) → In n names → (s : RRset) → set_at m (owner zone apart n) NSEC3 ≡ Some s → (r : Record) → In r s.records → IsOfZone r
    of_name n i s e r k =
        record {
          next = next;
          types = own.2.types;
          says = one.0;
          counts = ap (option_and_then counted) one.0 ∙ ap (λ b. cond b (Some a) None) (ap (λ o. is_of_zone origin o next) one.1 ∙ (λ i. eq-eqb (length (base32_text (apart.digest n))) (base32_count (length next)) size i && name_eq_itself origin i));
        }
      where
        own : (s : RRset) × (set_at m (owner zone apart n) NSEC3 ≡ Some s) × IsInNsec3Chain origin beside m hash parameters names n (apart.digest n) s
        own = set_of_named zone apart n i

        next : List ℕ
        next = next_digest (digests hash names) (apart.digest n)

        a : Nsec3Data
        a = data_of parameters next own.2.types

        counted : Nsec3Data → Option Nsec3Data
        counted d = cond (is_of_zone origin (lower r.name) d.next_hashed_owner_name) (Some d) None

        -- the next digest is as long as the name's own
        k' : (k : Name) × In k names × (next ≡ apart.digest k)
        k' = name_of_digest zone apart next (next_among octets_order (digests hash names) (apart.digest n) (digest_in zone apart n i))

        size : length (base32_text (apart.digest n)) ≡ base32_count (length next)
        size = text_length (apart.digest n) ∙ ap base32_count (apart.alike n k'.0 (named_hashed zone apart n i) (named_hashed zone apart k'.0 k'.1) ∙ ap length (sym k'.2))

        one : (nsec3_data r.rdata ≡ Some a) × (lower r.name ≡ owner zone apart n)
        one =
            let same : s ≡ own.0 = same_set s own.0 (sym e ∙ own.1) in
            let stored = zone.zone.stored (owner zone apart n) NSEC3 own.0 own.1 in
            single_is (owner zone apart n) a own.0.records own.2.single own.2.says
            (λ j d l.
            let w : Name = lower (slice_index_or own.0.records j d).name in
            name_order.exact w (lower own.0.owner) (equal_of (name_cmp w (lower own.0.owner)) (stored.set.owners j d l)) ∙ stored.owner)
            r (subst (λ (s : RRset). In r s.records) same k)
          where
            same_set : (s r : RRset) → Some s ≡ Some r → s ≡ r
            same_set s r e = cc

    module _ (rs : List Record) (stand : StandInNsec3Sets m rs) where
      -- each record has no NSEC3 data, or is of the zone
      kinds : (r : Record) → In r rs → (nsec3_data r.rdata ≡ None) ⊎ IsOfZone r
      kinds r i = by (nsec3_data r.rdata) refl
        where
          by : (o : Option Nsec3Data) → nsec3_data r.rdata ≡ o → (nsec3_data r.rdata ≡ None) ⊎ IsOfZone r
          by None e = inl e
          by (Some a) e = inr (of (stand r (In-Contains r rs i) (ap is_some e)))
            where
              of : (o : Name) × (s : RRset) × (set_at m o NSEC3 ≡ Some s) × Contains s.records r → IsOfZone r
              of (o, s, q, c) =
                  let n = name_of_owner zone apart o (owner_in m o NSEC3 (ap is_some q)) in
                  of_name n.0 n.1 s (ap (λ a. set_at m a NSEC3) (sym n.2) ∙ q) r (Contains-In r s.records c)

      -- the data that count have the zone's parameters
      counted : (d : Nsec3Data) → In d (nsec3_datas origin rs) → (next types : List ℕ) × (d ≡ data_of parameters next types)
      counted d i = by (In-from_filter_map (zone_data origin) d rs i)
        where
          by : (r : Record) × In r rs × (zone_data origin r ≡ Some d) → (next types : List ℕ) × (d ≡ data_of parameters next types)
          by (r, k, e) = of (kinds r k)
            where
              none : nsec3_data r.rdata ≡ None → zone_data origin r ≡ None
              none q = ap (option_and_then (λ (d : Nsec3Data). cond (is_of_zone origin (lower r.name) d.next_hashed_owner_name) (Some d) None)) q

              differ : ◌≡◌ {A = Option Nsec3Data} None (Some d) → ⊥
              differ q = cc

              same_value : (a b : Nsec3Data) → Some a ≡ Some b → a ≡ b
              same_value a b q = cc

              of : (nsec3_data r.rdata ≡ None) ⊎ IsOfZone r → (next types : List ℕ) × (d ≡ data_of parameters next types)
              of (inl q) = absurd (differ (sym (none q) ∙ e))
              of (inr z) = (z.next, z.types, same_value d (data_of parameters z.next z.types) (sym e ∙ z.counts))

      same_by : (p d : Nsec3Data) → (next types : List ℕ) × (p ≡ data_of parameters next types) → (next types : List ℕ) × (d ≡ data_of parameters next types) → same_parameters p d ≡ true
      same_by p d u v =
          (λ i. same_parameters (u.2 i) (v.2 i))
          ∙ (λ i. eq-eqb parameters.algorithm parameters.algorithm refl i && eq-eqb parameters.iterations parameters.iterations refl i && nat_list_eq_equiv.refl parameters.salt i)

      module _ (known : is_some (hash x) ≡ true) where
        all_known : (d : Nsec3Data) → In d (nsec3_datas origin rs) → is_known digest_of origin x d ≡ true
        all_known d i = ap (is_known digest_of origin x) (counted d i).2 ∙ known

        no_other : (p : Nsec3Data) → In p (nsec3_datas origin rs) → is_other_known digest_of origin x rs p ≡ false
        no_other p i =
            refuted (is_other_known digest_of origin x rs p)
            (λ e. let d = In-from_any (is_other digest_of origin x p) (nsec3_datas origin rs) e in
            true≢false (sym (same_by p d.0 (counted p i) (counted d.0 d.1)) ∙ not_true (same_parameters p d.0) (and_left (not (same_parameters p d.0)) (is_known digest_of origin x d.0) d.2)))

        -- so they are found, where a record counts
        common : (nsec3_datas origin rs ≡ []) ⊎ ((p : Nsec3Data) × In p (nsec3_datas origin rs) × (common_parameters digest_of origin x rs ≡ Some p))
        common = by (nsec3_datas origin rs) refl
          where
            by : (ds : List Nsec3Data) → nsec3_datas origin rs ≡ ds → (nsec3_datas origin rs ≡ []) ⊎ ((p : Nsec3Data) × In p (nsec3_datas origin rs) × (common_parameters digest_of origin x rs ≡ Some p))
            by [] e = inl e
            by (p ∷ ds) e =
                let i : In p (nsec3_datas origin rs) = subst (In p) (sym e) (inl refl) in
                inr (
                  p,
                  i,
                  ap (λ ds. option_and_then (λ p. cond (is_other_known digest_of origin x rs p) None (Some p)) (find (is_known digest_of origin x) ds)) e
                      ∙ ap (λ b. option_and_then (λ p. cond (is_other_known digest_of origin x rs p) None (Some p)) (cond b (Some p) (find (is_known digest_of origin x) ds))) (all_known p i)
                      ∙ ap (λ b. cond b None (Some p)) (no_other p i),
                )

    -- the records that have such parameters are all NSEC3 records
    kept : (p : Nsec3Data) → (next types : List ℕ) × (p ≡ data_of parameters next types) → (qs : List Record) → ((r : Record) → In r qs → (nsec3_data r.rdata ≡ None) ⊎ IsOfZone r)
        → records_with origin p qs ≡ nsec3_records qs
    kept p u [] h = refl
    kept p u (r ∷ qs) h = by (h r (inl refl)) (kept p u qs (λ q i. h q (inr i)))
      where
        passed : Bool → List Record
        passed b = cond b (r ∷ filter (has_parameters origin p) qs) (filter (has_parameters origin p) qs)

        by : (nsec3_data r.rdata ≡ None) ⊎ IsOfZone r → records_with origin p qs ≡ nsec3_records qs → records_with origin p (r ∷ qs) ≡ nsec3_records (r ∷ qs)
        by (inl none) more =
            ap (λ b. filter_map read_nsec3 (passed b))
            (ap (λ o. option_map_or (same_parameters p) o false) (ap (option_and_then (λ (d : Nsec3Data). cond (is_of_zone origin (lower r.name) d.next_hashed_owner_name) (Some d) None)) none))
            ∙ more ∙ sym (ap (λ o. cons_option o (nsec3_records qs)) (ap (option_map (nsec3_record r.name)) none))
        by (inr z) more =
            ap (λ b. filter_map read_nsec3 (passed b))
            (ap (λ o. option_map_or (same_parameters p) o false) z.counts
            ∙ (λ i. same_parameters (u.2 i) (data_of parameters z.next z.types))
            ∙ (λ i. eq-eqb parameters.algorithm parameters.algorithm refl i && eq-eqb parameters.iterations parameters.iterations refl i && nat_list_eq_equiv.refl parameters.salt i))
            ∙ ap (cons_option (read_nsec3 r)) more

    -- where none counts there is no NSEC3 record
    none_read : (qs : List Record) → ((r : Record) → In r qs → (nsec3_data r.rdata ≡ None) ⊎ IsOfZone r) → nsec3_datas origin qs ≡ [] → nsec3_records qs ≡ []
    none_read [] h e = refl
    none_read (r ∷ qs) h e = by (h r (inl refl)) (none_read qs (λ q i. h q (inr i)))
      where
        filled : (d : Nsec3Data) (ds : List Nsec3Data) → d ∷ ds ≡ [] → ⊥
        filled d ds q = cc

        by : (nsec3_data r.rdata ≡ None) ⊎ IsOfZone r → (nsec3_datas origin qs ≡ [] → nsec3_records qs ≡ []) → nsec3_records (r ∷ qs) ≡ []
        by (inl none) more =
            ap (λ o. cons_option o (nsec3_records qs)) (ap (option_map (nsec3_record r.name)) none)
            ∙ more (sym (ap (λ o. cons_option o (nsec3_datas origin qs)) (ap (option_and_then (λ (d : Nsec3Data). cond (is_of_zone origin (lower r.name) d.next_hashed_owner_name) (Some d) None)) none)) ∙ e)
        by (inr z) more = absurd (filled (data_of parameters z.next z.types) (nsec3_datas origin qs) (sym (ap (λ o. cons_option o (nsec3_datas origin qs)) z.counts) ∙ e))

pub nsec3_parameters_found : Nsec3ChainParametersFound
nsec3_parameters_found origin beside m digest_of parameters names rs x t zone apart stand = by (is_at_or_above origin x) refl
  where
    hash : Name → Option (List ℕ)
    hash = hash_with digest_of parameters

    judgement : (Name → Option (List ℕ)) → List Nsec3Record → Option Proof
    judgement known qs = nsec3_proof origin known qs x t

    outside : is_at_or_above origin x ≡ false → (o : Option Nsec3Data) → option_map_or (λ p. judgement (digest_by digest_of p) (records_with origin p rs)) o None ≡ None
    outside e None = refl
    outside e (Some p) = nsec3_nothing_outside origin (digest_by digest_of p) (records_with origin p rs) x e t

    inside : is_some (hash x) ≡ true → call_concludes digest_of origin rs x t ≡ judgement hash (nsec3_records rs)
    inside known = of (common digest_of zone apart rs stand known)
      where
        of : (nsec3_datas origin rs ≡ []) ⊎ ((p : Nsec3Data) × In p (nsec3_datas origin rs) × (common_parameters digest_of origin x rs ≡ Some p)) → call_concludes digest_of origin rs x t ≡ judgement hash (nsec3_records rs)
        of (inl e) =
            ap (λ ds. option_map_or (λ p. judgement (digest_by digest_of p) (records_with origin p rs)) (option_and_then (λ p. cond (is_other_known digest_of origin x rs p) None (Some p)) (find (is_known digest_of origin x) ds)) None) e
            ∙ sym (ap (judgement hash) (none_read digest_of zone apart rs (kinds digest_of zone apart rs stand) e) ∙ nothing_by_none origin hash x t)
        of (inr (p, i, e)) =
            let u = counted digest_of zone apart rs stand p i in
            ap (λ o. option_map_or (λ p. judgement (digest_by digest_of p) (records_with origin p rs)) o None) e
            ∙ ap (judgement (digest_by digest_of p)) (kept digest_of zone apart p u rs (kinds digest_of zone apart rs stand))
            ∙ ap (λ q. judgement (digest_by digest_of q) (nsec3_records rs)) u.2

    by : (b : Bool) → is_at_or_above origin x ≡ b → call_concludes digest_of origin rs x t ≡ judgement hash (nsec3_records rs)
    by false e = outside e (common_parameters digest_of origin x rs) ∙ sym (nsec3_nothing_outside origin hash (nsec3_records rs) x e t)
    by true e = inside (ap is_some (apart.answers x (self_hashed names origin zone.begins x (is_at_or_above_sound origin x e))))
