-- A message that message_writing writes is the response of sections, or says why there is none
use Rattle.std.proofs.Common.{◌≡◌, ℕ, ◌<◌, List, [], ◌∷◌, ◌++◌, map, refl, sym, subst, ◌∙◌}
use Rattle.std.specs.Prelude.{◌≢◌, IfErr, Result, Ok, Err}
use Rattle.std.specs.List.{flat_map}
use Rattle.std.proofs.lemmas.List.Concat.{flat_map-append}
use Rattle.zone_proto.specs.Sets.{RRset}
use Rattle.zone_proto.specs.declared.record.Record.{Record}
use Rattle.message_reading.specs.declared.query.Query.{Query as ReadQuery}
use Rattle.zone_response.specs.Sections.{Sections}
use Rattle.message_writing.specs.declared.error.WriteError.{WriteError}
use Rattle.message_writing.specs.declared.error.WriteError.TheVariants.{Unwritable, NoRoom, BadCode, Memory}
use Rattle.message_writing.specs.declared.response.Group.{Group}
use Rattle.message_writing.specs.declared.response.Response.{Response}
use Rattle.message_writing.specs.Outcomes.{HasUnwritable, Writes, records_in as records_written}
use Rattle.message_writing.specs.Responses.{IsWritten, records_of}
use Rattle.zone_server.specs.Answers.{code_number, records_in, records_sent, AreSets, IsSent, Means}
use Rattle.zone_server.specs.Limits.{datagram_size}
use Rattle.zone_server.specs.Sending.{HasSections, Sends}

-- ---- the records of groups are those of the sets that they are

joined : {A B : Type 0} (f : A → List Record) (g : B → List Record) (xs : List A) (ys : List B) → map f xs ≡ map g ys → flat_map f xs ≡ flat_map g ys
joined f g [] [] e = refl
joined f g [] (y ∷ ys) e = absurd cc
joined f g (x ∷ xs) [] e = absurd cc
joined f g (x ∷ xs) (y ∷ ys) e =
    let first : f x ≡ g y = cc in
    let others : map f xs ≡ map g ys = cc in
    (λ i. first i ++ joined f g xs ys others i)

all_records : (gs : List Group) (ss : List RRset) → AreSets gs ss → flat_map records_of gs ≡ flat_map records_sent ss
all_records = joined records_of records_sent

same_records : (q : ReadQuery) (s : Sections) (r : Response) → Means q s r → records_written r ≡ records_in s
same_records q s r m =
    flat_map-append records_of r.answers.now (r.authorities.now ++ (r.glue.now ++ r.additionals.now))
    ∙ (λ i. all_records r.answers.now s.answers m.answers i ++ rest i)
    ∙ sym (flat_map-append records_sent s.answers (s.authorities ++ (s.glue ++ s.additionals)))
  where
    last : flat_map records_of (r.glue.now ++ r.additionals.now) ≡ flat_map records_sent (s.glue ++ s.additionals)
    last =
        flat_map-append records_of r.glue.now r.additionals.now
        ∙ (λ i. all_records r.glue.now s.glue m.glue i ++ all_records r.additionals.now s.additionals m.additionals i)
        ∙ sym (flat_map-append records_sent s.glue s.additionals)

    rest : flat_map records_of (r.authorities.now ++ (r.glue.now ++ r.additionals.now)) ≡ flat_map records_sent (s.authorities ++ (s.glue ++ s.additionals))
    rest =
        flat_map-append records_of r.authorities.now (r.glue.now ++ r.additionals.now)
        ∙ (λ i. all_records r.authorities.now s.authorities m.authorities i ++ last i)
        ∙ sym (flat_map-append records_sent s.authorities (s.glue ++ s.additionals))

-- ---- what a call that writes says

pub sends : (limit : ℕ) (q : ReadQuery) (s : Sections) (r : Response) (octets : List ℕ) (result : Result (Unit {0}) WriteError)
    → Writes limit r octets result → IfErr result (λ e. e ≢ NoRoom) → Means q s r → Sends limit q s octets result
sends limit q s r octets (Ok done) h room m = record { response = r; means = m; written = h.1 }
sends limit q s r octets (Err Unwritable) h room m = subst HasUnwritable (same_records q s r m) h.1
sends limit q s r octets (Err NoRoom) h room m = room refl
sends limit q s r octets (Err BadCode) h room m = subst (λ n. 4095 < n) m.code h.1
sends limit q s r octets (Err Memory) h room m = tt

-- the same of a response that was written set by set
pub sends_whole : (limit : ℕ) (q : ReadQuery) (s : Sections) (empty whole : Response) (octets : List ℕ) → empty.query.now ≡ q
    → empty.code ≡ code_number s.code → empty.authoritative ≡ s.authoritative → empty.size ≡ datagram_size → HasSections s empty whole
    → IsWritten limit whole octets → IsSent limit q s octets
sends_whole limit q s empty whole octets query code authoritative size h written = record {
  response = whole;
  means = record {
    query = h.query ∙ query;
    code = h.code ∙ code;
    authoritative = h.authoritative ∙ authoritative;
    size = h.size ∙ size;
    answers = h.answers;
    authorities = h.authorities;
    glue = h.glue;
    additionals = h.additionals;
  };
  written = written;
}

-- ---- a response of a code alone has no records

pub all_are_writable : (s : Sections) → records_in s ≡ [] → HasUnwritable (records_in s) → ⊥
all_are_writable s e h = by h.front (sym h.stands ∙ e)
  where
    by : (front : List Record) → front ++ h.unwritable ∷ h.rest ≡ [] → ⊥
    by [] q = cc
    by (x ∷ xs) q = cc
