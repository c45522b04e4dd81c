-- Worked examples of transfers, computed from the definitions
use Rattle.std.proofs.Common.{◌≡◌, ℕ, true, false, [], ◌∷◌, refl}
use Rattle.std.specs.Prelude.{codes, Some, None}
use Rattle.std.specs.Map.{values_of}
use Rattle.zone_proto.specs.declared.message.Query.{Query}
use Rattle.zone_proto.specs.declared.response_code.ResponseCode.TheVariants as code
use Rattle.zone_proto.specs.declared.rdata.RData.TheVariants as V
use Rattle.zone_proto.specs.declared.record.Record.{Record}
use Rattle.zone_proto.specs.Keys.{key}
use Rattle.zone_proto.specs.Sets.{RRset}
use Rattle.zone_proto.specs.Types.{NS, SOA, IN, AXFR}
use Rattle.zone_handler.specs.declared.axfr_policy.AxfrPolicy.TheVariants.{Deny, AllowAll, AllowSigned}
use Rattle.lookup_types.specs.declared.lookup_error.LookupError.TheVariants as error
use Rattle.zone_handler.specs.Sets.{axfr_records}
use Rattle.zone_map.specs.Zones.{Sets}
use Rattle.zone_in_memory.specs.Transfers.{refusal}
use Rattle.zone_lookup.proofs.Examples.{apex, at_apex, server, soa_set, record_with, set_with}

-- ---- who is refused

abbrev asks : ℕ → Query
asks t = record { name = apex; query_type = record { 0 = t }; query_class = record { 0 = IN } }

transfers_are_denied : refusal Deny (asks AXFR ∷ []) ≡ Some (error.ResponseCode code.Refused)
transfers_are_denied = refl

signed_requests_are_not_told_apart : refusal AllowSigned (asks AXFR ∷ []) ≡ Some (error.ResponseCode code.Refused)
signed_requests_are_not_told_apart = refl

transfers_are_allowed : refusal AllowAll (asks AXFR ∷ []) ≡ None
transfers_are_allowed = refl

policy_is_asked_for_transfers_alone : refusal Deny (asks SOA ∷ []) ≡ None
policy_is_asked_for_transfers_alone = refl

two_questions : refusal AllowAll (asks AXFR ∷ asks AXFR ∷ []) ≡ Some (error.BadQueryCount 2)
two_questions = refl

no_question : refusal Deny [] ≡ Some (error.BadQueryCount 0)
no_question = refl

-- ---- what stands between the two SOA records

abbrev signature : Record
signature = record_with apex (V.A (9 ∷ 9 ∷ 9 ∷ 9 ∷ []))

abbrev cut : RRset
cut = set_with (at_apex (codes "sub")) NS server

-- the SOA, which has a signature, a cut, and an SOA inside the zone
abbrev zone : Sets
zone =
    (key apex SOA, record soa_set { signatures = signature ∷ [] })
    ∷ (key (at_apex (codes "sub")) NS, cut)
    ∷ (key (at_apex (codes "sub")) SOA, soa_set)
    ∷ []

no_soa_between : axfr_records false (values_of zone) ≡ cut.records
no_soa_between = refl

signature_of_the_soa_stays : axfr_records true (values_of zone) ≡ signature ∷ cut.records
signature_of_the_soa_stays = refl
