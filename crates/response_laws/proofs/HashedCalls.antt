-- A validator finds the zone's parameters in the records of a section, which have other TTLs than those of the zone's sets
use Rattle.std.proofs.Common.{◌≡◌, ℕ, Bool, true, false, cond, List, [], ◌∷◌, ◌++◌, map, refl, sym, ap, ◌∙◌, ◌⊎◌, inl, inr}
use Rattle.std.specs.Prelude.{Option, Some, None, find, filter, filter_map, flat_map, is_some, option_map, option_and_then}
use Rattle.std.specs.List.{Contains, cons_option, list_any}
use Rattle.std.specs.Option.{option_map_or}
use Rattle.std.proofs.lemmas.List.{map-append}
use Rattle.std.proofs.lemmas.List.Elements.{All-contains}
use Rattle.zone_proto.specs.declared.rdata.denial.NSEC3.{NSEC3 as Nsec3Data}
use Rattle.zone_proto.specs.declared.rdata.denial.NSEC3PARAM.{NSEC3PARAM as Nsec3Parameters}
use Rattle.zone_proto.specs.declared.record.Record.{Record}
use Rattle.zone_proto.specs.Data.{type_of}
use Rattle.zone_proto.specs.Names.{Name}
use Rattle.zone_proto.specs.Sets.{RRset}
use Rattle.zone_proto.specs.Types.{NSEC3}
use Rattle.zone_proto.proofs.Members.{In, In-Contains, Contains-In, In-from_append}
use Rattle.zone_map.specs.Zones.{Sets, set_at, IsZone}
use Rattle.zone_denial.specs.Chains.{IsNsec3Chain}
use Rattle.zone_denial.specs.Nsec3Zones.{IsHashedOn, HasDistinctDigests, hash_with}
use Rattle.denial_validation.specs.Judgement.{nsec3_proof}
use Rattle.denial_validation.specs.Nsec3Parameters.{zone_data, has_parameters, records_with, nsec3_datas, digest_by, is_known, is_other}
use Rattle.denial_validation.specs.Nsec3Records.{nsec3_data, nsec3_record, read_nsec3}
use Rattle.denial_laws.specs.Nsec3Calls.{StandInNsec3Sets, call_concludes}
use Rattle.denial_laws.specs.Nsec3Scope.{read_nsec3_sets}
use Rattle.denial_laws.proofs.Chains.Nsec3Calls.{nsec3_parameters_found}
use Rattle.zone_response.specs.declared.response.Part.{Part}
use Rattle.zone_response.specs.declared.response.Part.TheVariants as part
use Rattle.zone_response.specs.Sections.{with_ttl}
use Rattle.response_laws.proofs.ReadSets.{nsec3_reader}
use Rattle.response_laws.proofs.SentSets.{IsSentSet, authority_part}

-- ---- records without regard to their TTLs

abbrev untimed : List Record → List Record
untimed rs = map (with_ttl 0) rs

again : (ttl : ℕ) (rs : List Record) → untimed (map (with_ttl ttl) rs) ≡ untimed rs
again ttl [] = refl
again ttl (v ∷ rs) = λ i. with_ttl 0 v ∷ again ttl rs i

read_untimed : {R : Type 0} (reader : Record → Option R) → ((v : Record) → reader (with_ttl 0 v) ≡ reader v) → (rs : List Record) → filter_map reader (untimed rs) ≡ filter_map reader rs
read_untimed reader h [] = refl
read_untimed reader h (v ∷ rs) = λ i. cons_option (h v i) (read_untimed reader h rs i)

kept_untimed : (passes : Record → Bool) → ((v : Record) → passes (with_ttl 0 v) ≡ passes v) → (rs : List Record) → filter_map read_nsec3 (filter passes (untimed rs)) ≡ filter_map read_nsec3 (filter passes rs)
kept_untimed passes h [] = refl
kept_untimed passes h (v ∷ rs) =
    ap (λ b. filter_map read_nsec3 (cond b (with_ttl 0 v ∷ filter passes (untimed rs)) (filter passes (untimed rs)))) (h v) ∙ by (passes v) (kept_untimed passes h rs)
  where
    by : (b : Bool) → filter_map read_nsec3 (filter passes (untimed rs)) ≡ filter_map read_nsec3 (filter passes rs)
        → filter_map read_nsec3 (cond b (with_ttl 0 v ∷ filter passes (untimed rs)) (filter passes (untimed rs))) ≡ filter_map read_nsec3 (cond b (v ∷ filter passes rs) (filter passes rs))
    by true more = ap (cons_option (read_nsec3 v)) more
    by false more = more

-- what a validator tells by records it tells by others of which it reads the same
pub same_told : (digest_of : ℕ → List ℕ → Name → ℕ → Option (List ℕ)) (origin : Name) (rs others : List Record) → nsec3_datas origin rs ≡ nsec3_datas origin others
    → ((p : Nsec3Data) → records_with origin p rs ≡ records_with origin p others) → (x : Name) (t : ℕ) → call_concludes digest_of origin rs x t ≡ call_concludes digest_of origin others x t
same_told digest_of origin rs others datas kept x t = λ i. option_map_or (λ p. nsec3_proof origin (digest_by digest_of p) (kept p i) x t) (common (datas i)) None
  where
    common : List Nsec3Data → Option Nsec3Data
    common ds = option_and_then (λ p. cond (list_any (is_other digest_of origin x p) ds) None (Some p)) (find (is_known digest_of origin x) ds)

told_untimed : (digest_of : ℕ → List ℕ → Name → ℕ → Option (List ℕ)) (origin : Name) (rs : List Record) (x : Name) (t : ℕ) → call_concludes digest_of origin (untimed rs) x t ≡ call_concludes digest_of origin rs x t
told_untimed digest_of origin rs = same_told digest_of origin (untimed rs) rs (read_untimed (zone_data origin) (λ v. refl) rs) (λ p. kept_untimed (has_parameters origin p) (λ v. refl) rs)

-- ---- the records of a section as they are stored

record AreStored (m : Sets) (sets : List RRset) : Type 0 where
  pub records : List Record
  pub same : untimed records ≡ untimed (flat_map (λ (s : RRset). s.records) sets)
  pub stand : StandInNsec3Sets m records

module _ (m : Sets) (zone : IsZone m) where
  module _ (s : RRset) (p : Part) (set : IsSentSet m p s) where
    own : (records : List Record) × (untimed records ≡ untimed s.records) × ((v : Record) → In v records → In v set.stored.records)
    own = by p set
      where
        by : (p : Part) (set : IsSentSet m p s) → (records : List Record) × (untimed records ≡ untimed s.records) × ((v : Record) → In v records → In v set.stored.records)
        by part.Records set = (set.stored.records, sym (ap (λ (s : RRset). untimed s.records) set.sent ∙ again set.ttl set.stored.records), λ v i. i)
        by part.Signed set = (set.stored.records, sym (ap (λ (s : RRset). untimed s.records) set.sent ∙ again set.ttl set.stored.records), λ v i. i)
        by part.Signatures set = ([], sym (ap (λ (s : RRset). untimed s.records) set.sent), λ v i. absurd i)

    -- an NSEC3 record is in an NSEC3 set
    stands : (v : Record) → In v set.stored.records → is_some (nsec3_data v.rdata) ≡ true → (o : Name) × (u : RRset) × (set_at m o NSEC3 ≡ Some u) × Contains u.records v
    stands v i k = (set.name, set.stored, ap (set_at m set.name) (sym type') ∙ set.stands, In-Contains v set.stored.records i)
      where
        of_nsec3 : (o : Option Nsec3Data) → nsec3_data v.rdata ≡ o → is_some o ≡ true → type_of v.rdata ≡ NSEC3
        of_nsec3 (Some a) e q = nsec3_reader.typed v (nsec3_record v.name a) (ap (option_map (nsec3_record v.name)) e)
        of_nsec3 None e q = absurd cc

        type' : set.record_type ≡ NSEC3
        type' =
            let stored = zone.stored set.name set.record_type set.stored set.stands in
            sym stored.record_type
            ∙ sym (All-contains (λ (v : Record). type_of v.rdata ≡ set.stored.record_type) set.stored.records v stored.set.types (In-Contains v set.stored.records i))
            ∙ of_nsec3 (nsec3_data v.rdata) refl k

  -- one set more
  with_set : (s : RRset) (sets : List RRset) → IsSentSet m (authority_part s) s → AreStored m sets → AreStored m (s ∷ sets)
  with_set s sets set rest = record {
    records = first.0 ++ rest.records;
    same = map-append (with_ttl 0) first.0 rest.records ∙ (λ i. first.1 i ++ rest.same i) ∙ sym (map-append (with_ttl 0) s.records (flat_map (λ (s : RRset). s.records) sets));
    stand = λ v c k. by v k (In-from_append v first.0 rest.records (Contains-In v (first.0 ++ rest.records) c));
  }
    where
      first : (records : List Record) × (untimed records ≡ untimed s.records) × ((v : Record) → In v records → In v set.stored.records)
      first = own s (authority_part s) set

      by : (v : Record) → is_some (nsec3_data v.rdata) ≡ true → In v first.0 ⊎ In v rest.records → (o : Name) × (u : RRset) × (set_at m o NSEC3 ≡ Some u) × Contains u.records v
      by v k (inl i) = stands s (authority_part s) set v (first.2 v i) k
      by v k (inr i) = rest.stand v (In-Contains v rest.records i) k

  stored : (sets : List RRset) → ((s : RRset) → In s sets → IsSentSet m (authority_part s) s) → AreStored m sets
  stored [] h = record { records = []; same = refl; stand = λ v c. absurd (Contains-In v [] c) }
  stored (s ∷ sets) h = with_set s sets (h s (inl refl)) (stored sets (λ r i. h r (inr i)))

  -- ---- what a validator tells by them

  pub told_is : {beside : Sets} (origin : Name) (digest_of : ℕ → List ℕ → Name → ℕ → Option (List ℕ)) (parameters : Nsec3Parameters) (names : List Name) → IsNsec3Chain origin beside m (hash_with digest_of parameters) parameters names
      → (sets : List RRset) → ((s : RRset) → In s sets → IsSentSet m (authority_part s) s) → (x : Name) (t : ℕ) → HasDistinctDigests (IsHashedOn names x) (hash_with digest_of parameters)
      → call_concludes digest_of origin (flat_map (λ (s : RRset). s.records) sets) x t ≡ nsec3_proof origin (hash_with digest_of parameters) (read_nsec3_sets sets) x t
  told_is {beside} origin digest_of parameters names hashed sets h x t apart =
      sym (told_untimed digest_of origin sent x t) ∙ ap (λ rs. call_concludes digest_of origin rs x t) (sym k.same) ∙ told_untimed digest_of origin k.records x t
      ∙ nsec3_parameters_found origin beside m digest_of parameters names k.records x t hashed apart k.stand
      ∙ ap (λ ns. nsec3_proof origin (hash_with digest_of parameters) ns x t) (sym (read_untimed read_nsec3 (λ v. refl) k.records) ∙ ap (filter_map read_nsec3) k.same ∙ read_untimed read_nsec3 (λ v. refl) sent)
    where
      sent : List Record
      sent = flat_map (λ (s : RRset). s.records) sets

      k : AreStored m sets
      k = stored sets h
