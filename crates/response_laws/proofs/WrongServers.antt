-- Wrong servers: what each makes of a right response, and a law that is false of it
use Rattle.std.proofs.Common.{◌≡◌, ℕ, true, false, not, [], ◌∷◌, refl, sym, ap, ◌∙◌, true≢false, inl, inr}
use Rattle.std.specs.Prelude.{codes, Some, None, is_some, ◌==◌}
use Rattle.zone_proto.specs.declared.rdata.RData.TheVariants as V
use Rattle.zone_proto.specs.declared.response_code.ResponseCode.TheVariants as code
use Rattle.zone_proto.specs.Keys.{key}
use Rattle.zone_proto.specs.Names.{Name}
use Rattle.zone_proto.specs.Sets.{RRset}
use Rattle.zone_proto.specs.Types.{A, NS, CNAME, SOA, MX, ANY, NSEC, DNSKEY, ANAME, IN, DNAME}
use Rattle.zone_proto.proofs.Members.{In-Contains, Contains-In}
use Rattle.zone_proto.proofs.SetLaws.{IsSet-alone}
use Rattle.zone_proto.proofs.Texts.TextFaults.{name_by_tests}
use Rattle.zone_map.specs.Zones.{Sets, set_at, IsZone}
use Rattle.zone_map.proofs.Stored.{IsZone-none, IsZone-put}
use Rattle.zone_denial.proofs.Examples.NsecExamples.{origin, record_with, entry, address, start, bare as origin_alone, linked}
use Rattle.zone_response.specs.declared.response.Part.TheVariants as part
use Rattle.zone_response.specs.Paths.{path}
use Rattle.zone_response.specs.Queries.{Zone, Query, inquiry}
use Rattle.zone_response.specs.Dname.{synthesized_alias}
use Rattle.zone_response.specs.Responses.{bare, IsResponse}
use Rattle.zone_response.specs.Sections.{Sections, sent, as_it_is}
use Rattle.response_laws.specs.Contents.{IsGlueOf, HasContents, ResponseHasContents}
use Rattle.response_laws.specs.Failures.{Fault, without_target, leads_away, unsigned, IsAnswerable, AnswerableIsAnswered}
use Rattle.response_laws.specs.Sayings.{SaysHowItEnds, ResponseSaysHowItEnds}
use Rattle.response_laws.specs.Servers.{Server}
use Rattle.response_laws.proofs.OwnDenials.{lends_own}
use Rattle.response_laws.proofs.MetPremises.{soa_stored, linked_zone, unowned, response, of_missing}
use Rattle.response_laws.proofs.SayingExamples.{zone, asked, sections, negative, a, b, server, alias, renaming, under_a, under_b}

-- a server that makes something else of each right response
abbrev pub Changed : (Zone → Sections → Sections) → Server
Changed change z q r = (right : Sections) × IsResponse z q right × (r ≡ change z right)

-- ---- SERVFAIL always

abbrev always_fails : Zone → Sections → Sections
always_fails z r = bare code.ServFail

not_owned : (n : Name) (t : ℕ) (s : RRset) → (t == NSEC) ≡ false → (t == SOA) ≡ false → (t == DNSKEY) ≡ false → set_at (linked origin_alone) n t ≡ Some s → ⊥
not_owned n t s c d k e = true≢false (sym (ap is_some e) ∙ unowned n t c d k)

answerable : IsAnswerable (zone origin_alone) (asked b A)
answerable = record { soa = refl; hashed = λ signed. tt; faultless = no_fault }
  where
    no_fault : Fault (inquiry (zone origin_alone) (asked b A)) → ⊥
    no_fault (without_target n s e f) = not_owned n DNAME s refl refl refl e
    no_fault (leads_away x s f e) = not_owned f.owner ANAME f.stored refl refl refl f.stands
    no_fault (unsigned x s made f e p g) = not_owned f.owner ANAME f.stored refl refl refl f.stands

always_failing : AnswerableIsAnswered (Changed always_fails) → ⊥
always_failing law = law (zone origin_alone) (asked b A) (bare code.ServFail) linked_zone (lends_own (zone origin_alone) linked_zone refl) answerable (response, of_missing, refl) refl

-- ---- an empty NOERROR

abbrev empties : Zone → Sections → Sections
empties z r = bare code.NoError

-- in place of no data
of_no_data : IsResponse (zone origin_alone) (asked origin MX) (negative origin_alone code.NoError (origin ∷ []))
unfolding path
of_no_data = record { code = refl; authoritative = refl; answers = refl; authorities = refl; additionals = refl; glue = refl; left_at = refl }

no_data_unsaid : SaysHowItEnds (zone origin_alone) (asked origin MX) (bare code.NoError) → ⊥
unfolding path
no_data_unsaid (inl h) = h.1
no_data_unsaid (inr e) = cc

no_data_emptied : ResponseSaysHowItEnds (Changed empties) → ⊥
no_data_emptied law = no_data_unsaid (law (zone origin_alone) (asked origin MX) (bare code.NoError) linked_zone (lends_own (zone origin_alone) linked_zone refl) (negative origin_alone code.NoError (origin ∷ []), of_no_data, refl))

-- zones without denials
abbrev pub plain : Sets → Zone
plain m = record { origin = origin; sets = m; denials = m; nx_proof_kind = None; digest_of = λ algorithm salt n iterations. None; sign = λ signed s. [] }

abbrev pub asks : Name → ℕ → Query
asks n t = record { name = n; record_type = t; class = IN; signed = false }

pub start_zone : IsZone (start ∷ [])
start_zone = IsZone-put [] (key origin SOA) start.1 IsZone-none soa_stored

-- of a referral
abbrev parent : Sets
parent = start ∷ entry b NS (V.NS server) ∷ address server ∷ []

parent_zone : IsZone parent
parent_zone =
    IsZone-put (start ∷ entry b NS (V.NS server) ∷ []) (key server A) (address server).1
    (IsZone-put (start ∷ []) (key b NS) (entry b NS (V.NS server)).1 start_zone
    (record { named = name_by_tests b refl refl; owner = refl; record_type = refl; filled = λ e. cc; set = IsSet-alone b NS _ refl refl }))
    (record { named = name_by_tests server refl refl; owner = refl; record_type = refl; filled = λ e. cc; set = IsSet-alone server A _ refl refl })

abbrev to_child : Sections
to_child = record {
  code = code.NoError;
  authoritative = false;
  answers = [];
  authorities = as_it_is part.Records (entry b NS (V.NS server)).1 ∷ [];
  additionals = [];
  glue = as_it_is part.Records (address server).1 ∷ [];
  left_at = None;
}

of_child : IsResponse (plain parent) (asks server A) to_child
unfolding path
of_child = record { code = refl; authoritative = refl; answers = refl; authorities = refl; additionals = refl; glue = refl; left_at = refl }

referral_unsaid : SaysHowItEnds (plain parent) (asks server A) (bare code.NoError) → ⊥
unfolding path
referral_unsaid (inl h) = h.1
referral_unsaid (inr e) = cc

referral_emptied : ResponseSaysHowItEnds (Changed empties) → ⊥
referral_emptied law = referral_unsaid (law (plain parent) (asks server A) (bare code.NoError) parent_zone (lends_own (plain parent) parent_zone refl) (to_child, of_child, refl))

-- of any type
abbrev any_answer : Sections
any_answer = sections code.NoError (as_it_is part.Records start.1 ∷ []) []

of_any : IsResponse (plain (start ∷ [])) (asks origin ANY) any_answer
unfolding path
of_any = record { code = refl; authoritative = refl; answers = refl; authorities = refl; additionals = refl; glue = refl; left_at = refl }

any_unsaid : SaysHowItEnds (plain (start ∷ [])) (asks origin ANY) (bare code.NoError) → ⊥
unfolding path
any_unsaid (inl h) = h.1
any_unsaid (inr (x, e)) = cc

any_emptied : ResponseSaysHowItEnds (Changed empties) → ⊥
any_emptied law = any_unsaid (law (plain (start ∷ [])) (asks origin ANY) (bare code.NoError) start_zone (lends_own (plain (start ∷ [])) start_zone refl) (any_answer, of_any, refl))

-- below a DNAME
abbrev renamed_zone : Sets
renamed_zone = start ∷ renaming ∷ []

renamed_is_zone : IsZone renamed_zone
renamed_is_zone =
    IsZone-put (start ∷ []) (key b DNAME) renaming.1 start_zone
    (record { named = name_by_tests b refl refl; owner = refl; record_type = refl; filled = λ e. cc; set = IsSet-alone b DNAME _ refl refl })

abbrev x_b : Name
x_b = under_b (codes "x")

abbrev x_a : Name
x_a = under_a (codes "x")

abbrev no_new_name : Sections
no_new_name = sections code.NXDomain (renaming.1 ∷ synthesized_alias renaming.1 x_b x_a ∷ []) (sent part.Records 60 start.1 ∷ [])

of_new_name : IsResponse (plain renamed_zone) (asks x_b A) no_new_name
unfolding path
of_new_name = record { code = refl; authoritative = refl; answers = refl; authorities = refl; additionals = refl; glue = refl; left_at = refl }

renaming_unsaid : SaysHowItEnds (plain renamed_zone) (asks x_b A) (bare code.NoError) → ⊥
unfolding path
renaming_unsaid (inl h) = h.1
renaming_unsaid (inr e) = cc

renaming_emptied : ResponseSaysHowItEnds (Changed empties) → ⊥
renaming_emptied law = renaming_unsaid (law (plain renamed_zone) (asks x_b A) (bare code.NoError) renamed_is_zone (lends_own (plain renamed_zone) renamed_is_zone refl) (no_new_name, of_new_name, refl))

-- of an alias of a name outside the zone
abbrev elsewhere : Name
elsewhere = codes "org" ∷ []

abbrev leaving : Sets
leaving = start ∷ alias elsewhere ∷ []

leaving_zone : IsZone leaving
leaving_zone =
    IsZone-put (start ∷ []) (key a CNAME) (alias elsewhere).1 start_zone
    (record { named = name_by_tests a refl refl; owner = refl; record_type = refl; filled = λ e. cc; set = IsSet-alone a CNAME _ refl refl })

abbrev left : Sections
left = record (sections code.NoError ((alias elsewhere).1 ∷ []) []) { left_at = Some elsewhere }

of_leaving : IsResponse (plain leaving) (asks a A) left
unfolding path
of_leaving = record { code = refl; authoritative = refl; answers = refl; authorities = refl; additionals = refl; glue = refl; left_at = refl }

leaving_unsaid : SaysHowItEnds (plain leaving) (asks a A) (bare code.NoError) → ⊥
unfolding path
leaving_unsaid (inl h) = h.1
leaving_unsaid (inr e) = e.aliases refl

leaving_emptied : ResponseSaysHowItEnds (Changed empties) → ⊥
leaving_emptied law = leaving_unsaid (law (plain leaving) (asks a A) (bare code.NoError) leaving_zone (lends_own (plain leaving) leaving_zone refl) (left, of_leaving, refl))

-- ---- AA

-- of whatever is answered, the other one
abbrev turns_authority : Zone → Sections → Sections
turns_authority z r = record r { authoritative = not r.authoritative }

authority_turned : ResponseHasContents (Changed turns_authority) → ⊥
authority_turned law =
    true≢false (sym (law (plain (start ∷ [])) (asks origin ANY) (record any_answer { authoritative = false }) start_zone (lends_own (plain (start ∷ [])) start_zone refl) (any_answer, of_any, refl)).authoritative)

-- of a referral too
referral_turned : ResponseHasContents (Changed turns_authority) → ⊥
referral_turned law = true≢false (law (plain parent) (asks server A) (record to_child { authoritative = true }) parent_zone (lends_own (plain parent) parent_zone refl) (to_child, of_child, refl)).authoritative

-- ---- glue

abbrev drops_glue : Zone → Sections → Sections
drops_glue z r = record r { glue = [] }

glue_dropped : ResponseHasContents (Changed drops_glue) → ⊥
glue_dropped law = Contains-In (as_it_is part.Records (address server).1) [] (has.glue.all b refl (as_it_is part.Records (address server).1) glue_is)
  where
    has : HasContents (plain parent) (asks server A) (record to_child { glue = [] })
    has = law (plain parent) (asks server A) (record to_child { glue = [] }) parent_zone (lends_own (plain parent) parent_zone refl) (to_child, of_child, refl)

    glue_is : IsGlueOf parent b (as_it_is part.Records (address server).1)
    glue_is = record {
      host = server;
      server = record { servers = (entry b NS (V.NS server)).1; stands = refl; record' = record_with b (V.NS server); among = In-Contains (record_with b (V.NS server)) (record_with b (V.NS server) ∷ []) (inl refl); names = refl; below = refl };
      record_type = A;
      is_address = inl refl;
      stored = (address server).1;
      stands = refl;
      sent = refl;
    }
