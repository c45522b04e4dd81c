-- What a message that wasn't cut has of the sections that it was written of
use Rattle.std.proofs.Common.{◌≡◌, ℕ, ◌%◌, ◌&&◌, Bool, true, false, not, List, [], ◌∷◌, ◌++◌, map, refl, sym, ap, subst, ◌∙◌, true≢false, append_assoc, inl, inr}
use Rattle.std.specs.Prelude.{◌⊎◌, Option, Some, None, Ok}
use Rattle.std.specs.List.{flat_map}
use Rattle.zone_proto.specs.declared.record.Record.{Record}
use Rattle.zone_proto.specs.declared.response_code.ResponseCode.TheVariants as code
use Rattle.zone_proto.specs.Sets.{RRset}
use Rattle.message_reading.specs.declared.query.Query.{Query as ReadQuery}
use Rattle.message_reading.specs.Messages.{Parts, message_of}
use Rattle.message_reading.specs.Queries.{query_of}
use Rattle.denial_validation.specs.NsecRecords.{read_nsec, nsec_records}
use Rattle.denial_validation.specs.Nsec3Records.{read_nsec3, nsec3_records}
use Rattle.zone_response.specs.Queries.{Zone}
use Rattle.zone_response.specs.Responses.{bare, IsResponse}
use Rattle.zone_response.specs.Sections.{Sections}
use Rattle.message_writing.specs.declared.response.Group.{Group}
use Rattle.message_writing.specs.Responses.{records_of, all_records, opt_of, if_whole, IsSection}
use Rattle.zone_server.specs.declared.transport.Transport.{Transport}
use Rattle.zone_server.specs.Answers.{asked_of, records_sent, AreSets, IsAnswer, IsAnswerTo, IsResponseTo, IsSent, GoesOut, Says}
use Rattle.zone_server.specs.Limits.{limit_for}
use Rattle.zone_server.specs.ServedZones.{IsAnswering}
use Rattle.response_laws.specs.Contents.{HasContents}
use Rattle.response_laws.specs.HashedSayings.{concluded_by, ProvesByHashes}
use Rattle.response_laws.specs.ProvedSayings.{ProvesWhatItSays}
use Rattle.response_laws.proofs.LentSets.{lends}
use Rattle.response_laws.proofs.Responses.{response_has_contents, response_proves_what_it_says, response_proves_by_hashes}
use Rattle.server_laws.specs.ProvedAnswers.{HasSections, ProvesInMessage, ProvesByHashesInMessage, IsFailure, AnswerProvesWhatItSays, AnswerProvesByHashes}
use Rattle.server_laws.proofs.OneZone.{one_answers}
use Rattle.server_laws.proofs.ShownRecords.{nsec_unsigned, nsec3_unsigned, each_sent, shown_in_sets}
use Rattle.server_laws.proofs.ToldRecords.{told_sent}

-- groups that are sets have their records
joined : {A B : Type 0} (f : A → List Record) (g : B → List Record) (xs : List A) (ys : List B) → map f xs ≡ map g ys → flat_map f xs ≡ flat_map g ys
joined f g [] [] e = refl
joined f g [] (y ∷ ys) e = absurd cc
joined f g (x ∷ xs) [] e = absurd cc
joined f g (x ∷ xs) (y ∷ ys) e =
    let first : f x ≡ g y = cc in
    let others : map f xs ≡ map g ys = cc in
    (λ i. first i ++ joined f g xs ys others i)

of_groups : (gs : List Group) (ss : List RRset) → AreSets gs ss → all_records gs ≡ flat_map records_sent ss
of_groups = joined records_of records_sent

-- a section that is whole has all its records
whole : (room : ℕ) (old new : List ℕ) (gs : List Group) (kept : List Record) (b : Bool) → b ≡ true → IsSection room old new gs kept b → kept ≡ all_records gs
whole room old new gs kept true e h = h.0
whole room old new gs kept false e h = absurd (true≢false (sym e))

all_true : (a b c : Bool) → false ≡ not (a && (b && c)) → (a ≡ true) × (b ≡ true) × (c ≡ true)
all_true true true true e = (refl, refl, refl)
all_true true true false e = absurd (true≢false (sym e))
all_true true false c e = absurd (true≢false (sym e))
all_true false b c e = absurd (true≢false (sym e))

some_same : {A : Type 0} (x y : A) → Some x ≡ Some y → x ≡ y
some_same x y e = cc

has_sections : (limit : ℕ) (q : ReadQuery) (s : Sections) (octets : List ℕ) (m : Parts) → IsSent limit q s octets → message_of octets ≡ Some m
    → m.header.truncated ≡ false → HasSections s m
has_sections limit q s octets m sent reads uncut =
    let w = sent.written in
    let r = sent.response in
    let is = some_same m _ (sym reads ∙ w.reads) in
    let trues = all_true w.body.answers_whole w.body.authorities_whole w.body.glue_whole
    (sym uncut ∙ ap (λ (x : Parts). x.header.truncated) is ∙ w.body.truncated_is) in
    let glue_is = whole _ _ _ (if_whole (w.body.answers_whole && w.body.authorities_whole) r.glue.now) w.body.glue w.body.glue_whole trues.2 w.body.glue_is
    ∙ (λ i. all_records (if_whole (trues.0 i && trues.1 i) r.glue.now))
    ∙ of_groups r.glue.now s.glue sent.means.glue in
    record {
      code = ap (λ (x : Parts). x.header.response_code) is ∙ ap (λ n. n % 16) sent.means.code;
      authoritative = ap (λ (x : Parts). x.header.authoritative) is ∙ sent.means.authoritative;
      answers = ap (λ (x : Parts). x.answers) is
          ∙ whole _ _ _ r.answers.now w.answers w.body.answers_whole trues.0 w.body.answers_are
          ∙ of_groups r.answers.now s.answers sent.means.answers;
      authorities = ap (λ (x : Parts). x.authorities) is
          ∙ whole _ _ _ (if_whole w.body.answers_whole r.authorities.now) w.authorities w.body.authorities_whole trues.1 w.body.authorities_are
          ∙ ap (λ b. all_records (if_whole b r.authorities.now)) trues.0
          ∙ of_groups r.authorities.now s.authorities sent.means.authorities;
      others = w.body.helpful ++ opt_of r;
      glue = ap (λ (x : Parts). x.additionals) is
          ∙ ap (λ rs. rs ++ opt_of r) w.body.additionals_are
          ∙ append_assoc w.body.glue w.body.helpful (opt_of r)
          ∙ ap (λ rs. rs ++ (w.body.helpful ++ opt_of r)) glue_is;
    }

-- ---- what is sent proves what is said, or is a failure

-- it has the sections of what is said, or is a failure
went_out : (limit : ℕ) (q : ReadQuery) (z : Zone) (s : Sections) (octets : List ℕ) (m : Parts) → IsResponse z (asked_of q) s → GoesOut limit q s octets → message_of octets ≡ Some m → m.header.truncated ≡ false
    → HasSections s m ⊎ IsFailure z q m
went_out limit q z s octets m says (inl sent) reads uncut = inl (has_sections limit q s octets m sent reads uncut)
went_out limit q z s octets m says (inr (unsendable, sent)) reads uncut =
    let has = has_sections limit q (bare code.ServFail) octets m sent reads uncut in
    inr (record { said = s; says = says; unsendable = unsendable; code = has.code; answers = has.answers; authorities = has.authorities })

said : (z : Zone) (o : Option Zone) (q : ReadQuery) (s : Sections) → Some z ≡ o → Says o (asked_of q) s → IsResponse z (asked_of q) s
said z (Some y) q s e h = subst (λ (x : Zone). IsResponse x (asked_of q) s) (sym (some_same z y e)) h
said z None q s e h = absurd cc

-- what a zone says to a query that it answers, and that it went out
record IsSaid (z : Zone) (q : ReadQuery) (m : Parts) : Type 0 where
  pub sections : Sections
  pub says : IsResponse z (asked_of q) sections
  pub went_out : HasSections sections m ⊎ IsFailure z q m

said_by : (zs : List Zone) (t : Transport) (message octets : List ℕ) (q : ReadQuery) (z : Zone) (m : Parts) → query_of message ≡ Ok q → IsAnswer zs t message octets
    → IsAnswering zs (asked_of q).name (asked_of q).record_type (Some z) → message_of octets ≡ Some m → m.header.truncated ≡ false → IsSaid z q m
said_by zs t message octets q z m asked is answering reads uncut =
    let r : IsResponseTo zs (limit_for t q.extension) q octets = subst (λ x. IsAnswerTo zs t x octets) asked is in
    let answered : IsResponse z (asked_of q) r.said = said z r.zone q r.said (one_answers zs _ _ (Some z) r.zone answering r.answering) r.says in
    record { sections = r.said; says = answered; went_out = went_out (limit_for t q.extension) q z r.said octets m answered r.goes_out reads uncut }

pub answer_proves : AnswerProvesWhatItSays
answer_proves zs t message octets q z m asked is answering denies signed reads uncut = by said'.went_out
  where
    said' : IsSaid z q m
    said' = said_by zs t message octets q z m asked is answering reads uncut

    c : HasContents z (asked_of q) said'.sections
    c = response_has_contents z (asked_of q) said'.sections denies.zone (lends z denies.denials denies.zone) said'.says

    p : ProvesWhatItSays z (asked_of q) said'.sections
    p = response_proves_what_it_says z (asked_of q) said'.sections denies signed said'.says

    by : HasSections said'.sections m ⊎ IsFailure z q m → ProvesInMessage z q m ⊎ IsFailure z q m
    by (inl has) = inl (record { said = said'.sections; contents = c; proved = p; sections = has; shown = ap nsec_records has.authorities ∙ shown_in_sets read_nsec nsec_unsigned said'.sections (each_sent c) })
    by (inr failure) = inr failure

pub answer_proves_by_hashes : AnswerProvesByHashes
answer_proves_by_hashes zs t message octets q z parameters m asked is answering denies signed reads uncut = by said'.went_out
  where
    said' : IsSaid z q m
    said' = said_by zs t message octets q z m asked is answering reads uncut

    c : HasContents z (asked_of q) said'.sections
    c = response_has_contents z (asked_of q) said'.sections denies.zone (lends z denies.denials denies.zone) said'.says

    p : ProvesByHashes z parameters denies.names (asked_of q) said'.sections
    p = response_proves_by_hashes z parameters (asked_of q) said'.sections denies signed said'.says

    by : HasSections said'.sections m ⊎ IsFailure z q m → ProvesByHashesInMessage z parameters denies.names q m ⊎ IsFailure z q m
    by (inl has) =
        inl
        (record {
          said = said'.sections;
          contents = c;
          proved = p;
          sections = has;
          shown = ap nsec3_records has.authorities ∙ shown_in_sets read_nsec3 nsec3_unsigned said'.sections (each_sent c);
          parameters_found = λ x u apart.
              ap (λ rs. concluded_by z rs x u) has.authorities ∙ told_sent z said'.sections (each_sent c) x u ∙ p.parameters_found x u apart;
        })
    by (inr failure) = inr failure
