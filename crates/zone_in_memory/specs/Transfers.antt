-- What a request for the whole zone is answered with (AXFR, RFC 5936)
use Rattle.std.specs.Prelude.{◌≡◌, ℕ, Bool, true, false, ◌&&◌, not, cond, ◌==◌, List, [], ◌∷◌, length, Option, Some, None, Result, Err, MatchOption, MatchResult}
use Rattle.std.specs.Map.{values_of}
use Rattle.zone_proto.specs.declared.message.Query.{Query}
use Rattle.zone_proto.specs.declared.rdata.signing.RRSIG.{RRSIG}
use Rattle.zone_proto.specs.declared.record.Record.{Record}
use Rattle.zone_proto.specs.declared.response_code.ResponseCode.TheVariants as code
use Rattle.zone_proto.specs.Names.{Name}
use Rattle.zone_proto.specs.Sets.{RRset}
use Rattle.zone_proto.specs.Signing.{SignedPart}
use Rattle.zone_proto.specs.Types.{SOA, AXFR}
use Rattle.zone_handler.specs.declared.axfr_policy.AxfrPolicy.{AxfrPolicy}
use Rattle.zone_handler.specs.declared.axfr_policy.AxfrPolicy.TheVariants.{AllowAll}
use Rattle.lookup_types.specs.declared.lookup_error.LookupError.{LookupError}
use Rattle.lookup_types.specs.declared.lookup_error.LookupError.TheVariants as error
use Rattle.lookup_types.specs.declared.lookup_options.LookupOptions.{LookupOptions}
use Rattle.zone_handler.specs.declared.lookup_records.LookupRecords.{LookupRecords}
use Rattle.zone_handler.specs.declared.lookup_records.LookupRecords.TheVariants as section
use Rattle.zone_handler.specs.declared.tsig_response_context.TSigResponseContext.{TSigResponseContext}
use Rattle.zone_handler.specs.declared.zone_transfer.ZoneTransfer.{ZoneTransfer}
use Rattle.zone_handler.specs.Sets.{axfr_records}
use Rattle.zone_map.specs.Zones.{Sets}
use Rattle.zone_in_memory.specs.Handlers.{Zone}
use Rattle.zone_lookup.specs.Replies.{Reply, answered, IsReply}
use Rattle.zone_in_memory.specs.KeptReplies.{KeepsAnswers}
use Rattle.zone_signing.specs.Signatures.{answer_signatures}

-- anybody may have the zone; no signature of a request is tested, so a policy that asks for one lets nobody have it
abbrev pub allows_all : AxfrPolicy → Bool
allows_all AllowAll = true
allows_all _ = false

-- the refusal, if there is one, by the policy and the questions: there has to be one (RFC 9619 section 4), and only for AXFR the policy is asked
abbrev pub refusal : AxfrPolicy → List Query → Option LookupError
refusal policy (q ∷ []) = cond ((q.query_type.0 == AXFR) && not (allows_all policy)) (Some (error.ResponseCode code.Refused)) None
refusal policy queries = Some (error.BadQueryCount (length queries))

-- the answer section of a reply, as an answer keeps it; the empty one where the reply has none
abbrev pub HasAnswers : LookupOptions → Reply → LookupRecords → Type 0
HasAnswers options (answered answers more) s = KeepsAnswers options answers s
HasAnswers options _ s = s ≡ section.Empty

-- the options of a client that wants no signatures
abbrev pub plain : LookupOptions
plain = record { dnssec_ok = false }

module _ (sign : LookupOptions → RRset → List Record) (origin : Name) (m : Sets) where
  -- what a lookup of the zone's SOA has in its answer section; `sign` gives the signatures of a set that an answer makes
  abbrev pub IsSoaPart : LookupOptions → LookupRecords → Type 0
  IsSoaPart options s = (r : Reply) × IsReply (sign options) origin m options.dnssec_ok origin SOA r × HasAnswers options r s

  -- the transfer of the zone with the options: the records of all sets, in the order of their keys, between the SOA with the options and the SOA without signatures
  pub record IsTransfer (options : LookupOptions) (t : ZoneTransfer) : Type 0 where
    pub start : IsSoaPart options t.start_soa
    pub records : t.records ≡ axfr_records options.dnssec_ok (values_of m)
    pub last : IsSoaPart plain t.end_soa

  -- the answer to a request of some questions: its refusal, and else the transfer, for which memory may want
  abbrev pub AnswersTransfer : AxfrPolicy → List Query → LookupOptions → Result ZoneTransfer LookupError → Type 0
  AnswersTransfer policy queries options answer =
      MatchOption (refusal policy queries) (MatchResult answer (IsTransfer options) (λ e. e ≡ error.Memory)) (λ e. answer ≡ Err e)

-- what a zone answers, where the sets that an answer makes have the signatures of its signers; no response is signed
abbrev pub IsZoneTransfer : {S H : Type 0} → (S → SignedPart → ℕ → ℕ → Option RRSIG) → Zone S H → List Query → LookupOptions → ℕ → Option (Result ZoneTransfer LookupError × Option TSigResponseContext) → Type 0
IsZoneTransfer signature_of zone queries options now answer =
    (reply : Result ZoneTransfer LookupError) × (answer ≡ Some (reply, None))
    × AnswersTransfer (λ o. answer_signatures signature_of now o.dnssec_ok zone.inner.signers) zone.origin zone.inner.records zone.axfr_policy queries options reply
