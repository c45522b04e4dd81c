-- A ready answer is the answer to each query of its question that says the same by EDNS
use Rattle.std.proofs.Common.{◌≡◌, ℕ, Bool, false, inl, inr, List, Some, refl, sym, ap, subst, ◌∙◌}
use Rattle.std.specs.Prelude.{Option, None, Ok, unwrap_or}
use Rattle.std.specs.Option.{option_map_or}
use Rattle.zone_proto.specs.Names.{lower}
use Rattle.message_reading.specs.declared.query.Query.{Query as ReadQuery}
use Rattle.message_reading.specs.declared.query.Extension.{Extension}
use Rattle.message_reading.specs.declared.question.Question.{Question}
use Rattle.message_reading.specs.Queries.{query_of}
use Rattle.message_writing.specs.declared.response.Response.{Response}
use Rattle.message_writing.specs.Responses.{IsWritten}
use Rattle.zone_response.specs.Queries.{Zone, Query}
use Rattle.zone_response.specs.Responses.{IsResponse}
use Rattle.zone_response.specs.Sections.{Sections}
use Rattle.zone_server.specs.Answers.{asked_of, GoesOut, IsSent}
use Rattle.ready_answers.specs.Again.{said_by, IsAskedAgain}
use Rattle.ready_table.specs.Ready.{IsFound, IsReady}
use Rattle.ready_table.proofs.ReadQuestions.{question_read}

own_said : (e : Option Extension) → option_map_or (λ (x : Extension). x.dnssec_ok) e false ≡ unwrap_or (said_by e) false
own_said None = refl
own_said (Some x) = refl

module _ (q r : ReadQuery) (same : r.question ≡ q.question) (extension : said_by r.extension ≡ said_by q.extension) where
  abbrev asked_with : Question → Bool → Query
  asked_with x signed = record { name = lower x.name; record_type = x.query_type.0; class = x.query_class.0; signed = signed }

  same_signed : option_map_or (λ (x : Extension). x.dnssec_ok) q.extension false ≡ option_map_or (λ (x : Extension). x.dnssec_ok) r.extension false
  same_signed = own_said q.extension ∙ ap (λ o. unwrap_or o false) (sym extension) ∙ sym (own_said r.extension)

  same_asked : asked_of q ≡ asked_of r
  same_asked = λ i. asked_with (sym same i) (same_signed i)

  module _ (ready out : List ℕ) (again : (limit : ℕ) (before after : Response) → IsWritten limit before ready → IsAskedAgain before after r → IsWritten limit after out) where
    sent_again : (limit : ℕ) (s : Sections) → IsSent limit q s ready → IsSent limit r s out
    sent_again limit s h =
        let before : Response = h.response in
        let after : Response = record before { query = record { ref_ptr = before.query.ref_ptr; now = r } } in
        record {
          response = after;
          means = record {
            query = refl;
            code = h.means.code;
            authoritative = h.means.authoritative;
            size = h.means.size;
            answers = h.means.answers;
            authorities = h.means.authorities;
            glue = h.means.glue;
            additionals = h.means.additionals;
          };
          written = again limit before after h.written (record {
            query = refl;
            question = same ∙ sym (ap (λ (x : ReadQuery). x.question) h.means.query);
            extension = extension ∙ sym (ap (λ (x : ReadQuery). said_by x.extension) h.means.query);
            authoritative = refl;
            code = refl;
            size = refl;
            answers = refl;
            authorities = refl;
            glue = refl;
            additionals = refl;
          });
        }

    gone_again : (limit : ℕ) (s : Sections) → GoesOut limit q s ready → GoesOut limit r s out
    gone_again limit s (inl h) = inl (sent_again limit s h)
    gone_again limit s (inr h) = inr (h.0, sent_again limit _ h.1)

    pub ready_again : (z : Zone) (limit : ℕ) → IsReady z limit q ready → IsReady z limit r out
    ready_again z limit h = record {
      said = h.said;
      says = subst (λ a. IsResponse z a h.said) same_asked h.says;
      goes_out = gone_again limit h.said h.goes_out;
    }

-- and so is one that is found for a message
pub found_again : (z : Zone) (limit : ℕ) (said : Option Bool) (message ready out : List ℕ) (r : ReadQuery) → IsFound z limit said message ready → said_by r.extension ≡ said → query_of message ≡ Ok r
    → ((l : ℕ) (before after : Response) → IsWritten l before ready → IsAskedAgain before after r → IsWritten l after out) → IsReady z limit r out
found_again z limit said message ready out r found says read again =
    ready_again found.query r (question_read message r found.query.question found.behind read found.question) (says ∙ sym found.extension) ready out again z limit found.ready
