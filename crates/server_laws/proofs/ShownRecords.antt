-- What is read in the sets of an authority section is read in their records: a signature is neither an NSEC nor an NSEC3 record
use Rattle.std.proofs.Common.{◌≡◌, ℕ, Bool, true, false, cond, List, [], ◌∷◌, ◌++◌, map, refl, sym, ap, ◌∙◌, true≢false}
use Rattle.std.specs.Prelude.{Option, None, All, filter, filter_map, min, option_map}
use Rattle.std.specs.List.{cons_option, flat_map, Contains}
use Rattle.std.proofs.lemmas.List.{append-nil}
use Rattle.std.proofs.lemmas.List.Elements.{filter_map-append, All-head, All-tail, All-weaker, All-contains_itself}
use Rattle.zone_proto.specs.declared.record.Record.{Record}
use Rattle.zone_proto.specs.declared.rdata.RData.{RData}
use Rattle.zone_proto.specs.declared.rdata.RData.TheVariants as V
use Rattle.zone_proto.specs.Sets.{RRset}
use Rattle.denial_validation.specs.NsecRecords.{nsec_data, nsec_record, read_nsec}
use Rattle.denial_validation.specs.Nsec3Records.{nsec3_data, nsec3_record, read_nsec3}
use Rattle.zone_response.specs.declared.response.Part.{Part}
use Rattle.zone_response.specs.declared.response.Part.TheVariants as part
use Rattle.zone_response.specs.Queries.{Zone, Query}
use Rattle.zone_response.specs.Responses.{negative_ttl}
use Rattle.zone_response.specs.Sections.{Sections, covers, with_ttl, sent, part_for}
use Rattle.zone_server.specs.Answers.{records_sent}
use Rattle.response_laws.specs.Contents.{AuthorityOrigin, start, servers, digests, denial, HasContents}

-- a record that covers a type is a signature, in which nothing is read
abbrev pub ReadsNoSignature : {R : Type 0} → (Record → Option R) → Type 0
ReadsNoSignature reader = (t ttl : ℕ) (r : Record) (d : RData) → r.rdata ≡ d → covers t d ≡ true → reader (with_ttl ttl r) ≡ None

pub nsec_unsigned : ReadsNoSignature read_nsec
nsec_unsigned t ttl r (V.RRSIG a) is e = ap (λ d. option_map (nsec_record r.name) (nsec_data d)) is
nsec_unsigned t ttl r _ is e = absurd (true≢false (sym e))

pub nsec3_unsigned : ReadsNoSignature read_nsec3
nsec3_unsigned t ttl r (V.RRSIG a) is e = ap (λ d. option_map (nsec3_record r.name) (nsec3_data d)) is
nsec3_unsigned t ttl r _ is e = absurd (true≢false (sym e))

-- a set is sent with one TTL
pub record IsSent (s : RRset) : Type 0 where
  pub part' : Part
  pub ttl : ℕ
  pub stored : RRset
  pub sent : s ≡ sent part' ttl stored

-- so does each of an authority section
pub each_sent : {z : Zone} {q : Query} {r : Sections} → HasContents z q r → (s : RRset) → Contains r.authorities s → IsSent s
each_sent {z} {q} {r} h s c = by (h.authorities s c)
  where
    by : AuthorityOrigin z q r s → IsSent s
    by (start soa n f e) = record { part' = part_for q.signed; ttl = negative_ttl soa; stored = soa; sent = e }
    by (servers c stored f g e) = record { part' = part.Records; ttl = stored.ttl; stored = stored; sent = e }
    by (digests c stored signed f g e) = record { part' = part.Signed; ttl = stored.ttl; stored = stored; sent = e }
    by (denial soa n t stored signed p f d g e) = record { part' = part.Signed; ttl = min stored.ttl (negative_ttl soa); stored = stored; sent = e }

module _ {R : Type 0} (reader : Record → Option R) (unsigned : ReadsNoSignature reader) where
  abbrev read_in : List Record → List R
  read_in rs = filter_map reader rs

  -- nor in any that a set sends
  none_of_signatures : (t ttl : ℕ) (rs : List Record) → read_in (map (with_ttl ttl) (filter (λ (r : Record). covers t r.rdata) rs)) ≡ []
  none_of_signatures t ttl [] = refl
  none_of_signatures t ttl (r ∷ rs) = by (covers t r.rdata) refl (none_of_signatures t ttl rs)
    where
      others : List Record
      others = filter (λ (x : Record). covers t x.rdata) rs

      sent_of : Bool → List Record
      sent_of b = map (with_ttl ttl) (cond b (r ∷ others) others)

      by : (b : Bool) → covers t r.rdata ≡ b → read_in (map (with_ttl ttl) others) ≡ [] → read_in (sent_of (covers t r.rdata)) ≡ []
      by true e none =
          ap (λ b. read_in (sent_of b)) e
          ∙ ap (λ o. cons_option o (read_in (map (with_ttl ttl) others))) (unsigned t ttl r r.rdata refl e)
          ∙ none
      by false e none = ap (λ b. read_in (sent_of b)) e ∙ none

  none_of_sent : (p : Part) (ttl : ℕ) (s : RRset) → read_in (sent p ttl s).signatures ≡ []
  none_of_sent part.Records ttl s = refl
  none_of_sent part.Signed ttl s = none_of_signatures s.record_type ttl s.signatures
  none_of_sent part.Signatures ttl s = none_of_signatures s.record_type ttl s.signatures

  of_set : (s : RRset) → read_in s.signatures ≡ [] → read_in (records_sent s) ≡ read_in s.records
  of_set s e = filter_map-append reader s.records s.signatures ∙ ap (λ ns. read_in s.records ++ ns) e ∙ append-nil (read_in s.records)

  of_sets : (ss : List RRset) → All (λ (s : RRset). read_in (records_sent s) ≡ read_in s.records) ss
      → read_in (flat_map records_sent ss) ≡ read_in (flat_map (λ (s : RRset). s.records) ss)
  of_sets [] h = refl
  of_sets (s ∷ ss) h =
      let P : RRset → Type 0 = λ x. read_in (records_sent x) ≡ read_in x.records in
      filter_map-append reader (records_sent s) (flat_map records_sent ss)
      ∙ (λ i. All-head P s ss h i ++ of_sets ss (All-tail P s ss h) i)
      ∙ sym (filter_map-append reader s.records (flat_map (λ (x : RRset). x.records) ss))

  pub shown_in_sets : (r : Sections) → ((s : RRset) → Contains r.authorities s → IsSent s)
      → filter_map reader (flat_map records_sent r.authorities) ≡ filter_map reader (flat_map (λ (s : RRset). s.records) r.authorities)
  shown_in_sets r h =
      let P : RRset → Type 0 = λ s. read_in (records_sent s) ≡ read_in s.records in
      let each : (s : RRset) → Contains r.authorities s → P s = λ s c.
      let is = h s c in
      of_set s (ap (λ (x : RRset). read_in x.signatures) is.sent ∙ none_of_sent is.part' is.ttl is.stored) in
      of_sets r.authorities (All-weaker (Contains r.authorities) P each r.authorities (All-contains_itself r.authorities))
