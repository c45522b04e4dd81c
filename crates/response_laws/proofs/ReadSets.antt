-- What a validator reads in the sets of a section are records of the zone's sets, and what it reads in a set of the
-- zone it reads in it as it is sent
use Rattle.std.proofs.Common.{◌≡◌, ℕ, List, ◌++◌, map, refl, sym, ap, ◌∙◌, subst}
use Rattle.std.specs.Prelude.{Option, Some, min, filter_map, flat_map, option_map}
use Rattle.std.specs.List.{Contains}
use Rattle.std.proofs.lemmas.List.Elements.{All-contains}
use Rattle.zone_proto.specs.declared.rdata.RData.{RData}
use Rattle.zone_proto.specs.declared.rdata.RData.TheVariants as V
use Rattle.zone_proto.specs.declared.record.Record.{Record}
use Rattle.zone_proto.specs.Data.{type_of}
use Rattle.zone_proto.specs.Names.{Name}
use Rattle.zone_proto.specs.Sets.{RRset}
use Rattle.zone_proto.specs.Types.{NSEC, NSEC3}
use Rattle.zone_proto.proofs.Members.{In, In-Contains, Contains-In, In-map, In-from_map, In-filter_map, In-from_filter_map, In-flat_map, In-from_flat_map, In-append_right}
use Rattle.zone_map.specs.Zones.{Sets, set_at, IsZone}
use Rattle.denial_validation.specs.NsecRecords.{NsecRecord, nsec_data, nsec_record, read_nsec}
use Rattle.denial_validation.specs.Nsec3Records.{Nsec3Record, nsec3_data, nsec3_record, read_nsec3}
use Rattle.zone_response.specs.declared.response.Part.{Part}
use Rattle.zone_response.specs.declared.response.Part.TheVariants as part
use Rattle.zone_response.specs.Sections.{with_ttl, sent}
use Rattle.response_laws.proofs.Parts.{as_proof}
use Rattle.response_laws.proofs.SentSets.{IsSentSet, authority_part}

-- what is read in a record of a type, whatever its TTL
pub record IsReader {R : Type 0} (reader : Record → Option R) (t : ℕ) : Type 0 where
  pub timeless : (ttl : ℕ) (v : Record) → reader (with_ttl ttl v) ≡ reader v
  pub typed : (v : Record) (r : R) → reader v ≡ Some r → type_of v.rdata ≡ t

nsec_typed : (d : RData) (n : Name) (r : NsecRecord) → option_map (nsec_record n) (nsec_data d) ≡ Some r → type_of d ≡ NSEC
nsec_typed (V.NSEC a) n r e = refl
nsec_typed d n r e = absurd cc

pub nsec_reader : IsReader read_nsec NSEC
nsec_reader = record { timeless = λ ttl v. refl; typed = λ v r e. nsec_typed v.rdata v.name r e }

nsec3_typed : (d : RData) (n : Name) (r : Nsec3Record) → option_map (nsec3_record n) (nsec3_data d) ≡ Some r → type_of d ≡ NSEC3
nsec3_typed (V.NSEC3 a) n r e = refl
nsec3_typed d n r e = absurd cc

pub nsec3_reader : IsReader read_nsec3 NSEC3
nsec3_reader = record { timeless = λ ttl v. refl; typed = λ v r e. nsec3_typed v.rdata v.name r e }

module _ {R : Type 0} (reader : Record → Option R) (t : ℕ) (h : IsReader reader t) where
  abbrev records_in : List RRset → List Record
  records_in sets = flat_map (λ (s : RRset). s.records) sets

  module _ (m : Sets) (zone : IsZone m) where
    -- a record of this type in a set that went out is one of the zone's set, which is of the type
    module _ (s : RRset) (p : Part) (set : IsSentSet m p s) (r : R) where
      stored_record : (v : Record) → In v s.records → reader v ≡ Some r → (w : Record) × In w set.stored.records × (reader w ≡ Some r)
      stored_record v i e = by p (subst (λ (u : RRset). In v u.records) set.sent i)
        where
          with : In v (map (with_ttl set.ttl) set.stored.records) → (w : Record) × In w set.stored.records × (reader w ≡ Some r)
          with j = let w = In-from_map (with_ttl set.ttl) v set.stored.records j in (w.0, w.1, sym (h.timeless set.ttl w.0) ∙ ap reader w.2 ∙ e)

          by : (p : Part) → In v (sent p set.ttl set.stored).records → (w : Record) × In w set.stored.records × (reader w ≡ Some r)
          by part.Records j = with j
          by part.Signed j = with j
          by part.Signatures j = absurd j

      read_stored : (v : Record) → In v s.records → reader v ≡ Some r → (o : Name) × (u : RRset) × (set_at m o t ≡ Some u) × Contains (filter_map reader u.records) r
      read_stored v i e =
          let w = stored_record v i e in
          let stored = zone.stored set.name set.record_type set.stored set.stands in
          let type' : set.record_type ≡ t =
          sym stored.record_type
          ∙ sym (All-contains (λ (v : Record). type_of v.rdata ≡ set.stored.record_type) set.stored.records w.0 stored.set.types (In-Contains w.0 set.stored.records w.1))
          ∙ h.typed w.0 r w.2 in
          (set.name, set.stored, ap (set_at m set.name) (sym type') ∙ set.stands, In-Contains r (filter_map reader set.stored.records) (In-filter_map reader w.0 r set.stored.records w.1 w.2))

    pub read_of_zone : (sets : List RRset) → ((s : RRset) → In s sets → IsSentSet m (authority_part s) s) → (r : R) → Contains (filter_map reader (flat_map (λ (s : RRset). s.records) sets)) r
        → (o : Name) × (u : RRset) × (set_at m o t ≡ Some u) × Contains (filter_map reader u.records) r
    read_of_zone sets k r c =
        let v = In-from_filter_map reader r (records_in sets) (Contains-In r (filter_map reader (records_in sets)) c) in
        let s = In-from_flat_map (λ (s : RRset). s.records) v.0 sets v.1 in
        read_stored s.0 (authority_part s.0) (k s.0 s.1) r v.0 s.2 v.2

  pub read_proof : (ttl : ℕ) (proofs : List RRset) (s : RRset) (r : R) → In s proofs → In r (filter_map reader s.records) → (front : List RRset)
      → In r (filter_map reader (flat_map (λ (s : RRset). s.records) (front ++ map (as_proof ttl) proofs)))
  read_proof ttl proofs s r i j front =
      let v = In-from_filter_map reader r s.records j in
      In-filter_map reader (with_ttl (min s.ttl ttl) v.0) r (records_in (front ++ map (as_proof ttl) proofs))
      (In-flat_map (λ (s : RRset). s.records) (as_proof ttl s) (with_ttl (min s.ttl ttl) v.0) (front ++ map (as_proof ttl) proofs)
      (In-append_right (as_proof ttl s) front (map (as_proof ttl) proofs) (In-map (as_proof ttl) s proofs i)) (In-map (with_ttl (min s.ttl ttl)) v.0 s.records v.1))
      (h.timeless (min s.ttl ttl) v.0 ∙ v.2)
