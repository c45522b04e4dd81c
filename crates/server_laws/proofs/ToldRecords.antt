-- What a validator tells by the NSEC3 records of a message it tells by those of the sets that were sent
use Rattle.std.proofs.Common.{◌≡◌, ℕ, Bool, true, false, cond, List, [], ◌∷◌, refl, ap, ◌∙◌, sym, true≢false}
use Rattle.std.specs.Prelude.{Option, Some, None, filter, filter_map, option_and_then}
use Rattle.std.specs.List.{Contains, cons_option, flat_map}
use Rattle.zone_proto.specs.declared.rdata.RData.TheVariants as V
use Rattle.zone_proto.specs.declared.rdata.denial.NSEC3.{NSEC3 as Nsec3Data}
use Rattle.zone_proto.specs.declared.record.Record.{Record}
use Rattle.zone_proto.specs.Names.{Name, lower}
use Rattle.zone_proto.specs.Sets.{RRset}
use Rattle.denial_validation.specs.Nsec3Parameters.{is_of_zone, zone_data, has_parameters}
use Rattle.denial_validation.specs.Nsec3Records.{Nsec3Record, nsec3_data, read_nsec3}
use Rattle.zone_response.specs.Queries.{Zone}
use Rattle.zone_response.specs.Sections.{Sections, with_ttl}
use Rattle.zone_server.specs.Answers.{records_sent}
use Rattle.response_laws.specs.HashedSayings.{concluded_by, shown_records}
use Rattle.response_laws.proofs.HashedCalls.{same_told}
use Rattle.server_laws.proofs.ShownRecords.{ReadsNoSignature, nsec3_unsigned, IsSent, shown_in_sets}

data_unsigned : (origin : Name) → ReadsNoSignature (zone_data origin)
data_unsigned origin t ttl r (V.RRSIG a) is e = ap (λ d. option_and_then (λ (d : Nsec3Data). cond (is_of_zone origin (lower r.name) d.next_hashed_owner_name) (Some d) None) (nsec3_data d)) is
data_unsigned origin t ttl r _ is e = absurd (true≢false (sym e))

-- a record is read if it passes
abbrev passing : (Record → Bool) → Record → Option Nsec3Record
passing passes v = cond (passes v) (read_nsec3 v) None

passing_unsigned : (passes : Record → Bool) → ReadsNoSignature (passing passes)
passing_unsigned passes t ttl r d is e = ap (λ o. cond (passes (with_ttl ttl r)) o None) (nsec3_unsigned t ttl r d is e) ∙ by (passes (with_ttl ttl r))
  where
    by : (b : Bool) → ◌≡◌ {A = Option Nsec3Record} (cond b None None) None
    by true = refl
    by false = refl

as_one : (passes : Record → Bool) (rs : List Record) → filter_map read_nsec3 (filter passes rs) ≡ filter_map (passing passes) rs
as_one passes [] = refl
as_one passes (v ∷ rs) = by (passes v) (as_one passes rs)
  where
    by : (b : Bool) → filter_map read_nsec3 (filter passes rs) ≡ filter_map (passing passes) rs
        → filter_map read_nsec3 (cond b (v ∷ filter passes rs) (filter passes rs)) ≡ cons_option (cond b (read_nsec3 v) None) (filter_map (passing passes) rs)
    by true more = ap (cons_option (read_nsec3 v)) more
    by false more = more

pub told_sent : (z : Zone) (r : Sections) → ((s : RRset) → Contains r.authorities s → IsSent s) → (x : Name) (t : ℕ) → concluded_by z (flat_map records_sent r.authorities) x t ≡ concluded_by z (shown_records r) x t
told_sent z r h =
    same_told z.digest_of z.origin (flat_map records_sent r.authorities) (shown_records r) (shown_in_sets (zone_data z.origin) (data_unsigned z.origin) r h)
    (λ p. as_one (has_parameters z.origin p) (flat_map records_sent r.authorities) ∙ shown_in_sets (passing (has_parameters z.origin p)) (passing_unsigned (has_parameters z.origin p)) r h
    ∙ sym (as_one (has_parameters z.origin p) (shown_records r)))
