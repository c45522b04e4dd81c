-- The octets of the question in a response that was sent
use Rattle.std.proofs.Common.{◌≡◌, ℕ, ◌+◌, ◌-◌, ◌≤◌, inl, inr, ◌&&◌, List, [], ◌∷◌, ◌++◌, length, take, drop, Some, refl, sym, ap, subst, ◌∙◌, append_assoc, arith}
use Rattle.std.proofs.lemmas.List.{append-nil, length-append, length-drop, take-append-drop}
use Rattle.std.proofs.Math.Seq.{drop-append_seam, drop-length, take-append_seam}
use Rattle.zone_proto.specs.declared.record.Record.{Record}
use Rattle.message_reading.specs.declared.query.Query.{Query}
use Rattle.message_reading.specs.declared.question.Question.{Question}
use Rattle.message_reading.specs.Messages.{question_of}
use Rattle.message_writing.specs.declared.response.Response.{Response}
use Rattle.message_writing.specs.Continuing.{Continues, AppendsAll}
use Rattle.message_writing.specs.Responses.{if_whole, opt_length, opt_of, IsWritten}
use Rattle.message_writing.specs.StrictReading.{strict_record_of}
use Rattle.message_writing.proofs.InOrder.{stands_behind, then_all}
use Rattle.message_writing.proofs.ResponseBack.{helpful_all, section_all}
use Rattle.zone_response.specs.Queries.{Zone}
use Rattle.zone_response.specs.Sections.{Sections}
use Rattle.zone_server.specs.Answers.{GoesOut, IsSent}
use Rattle.ready_table.specs.Ready.{IsQuestionText, IsReady}

-- octets have the octets of a question behind their header
pub record HasQuestion (x : Question) (octets : List ℕ) : Type 0 where
  pub text : List ℕ
  pub more : List ℕ
  pub size : length octets ≡ 12 + length (text ++ more)
  pub stands : drop 12 octets ≡ text ++ more
  pub back : IsQuestionText x text

some_same : {A : Type 0} {x y : A} → Some x ≡ Some y → x ≡ y
some_same e = cc

module _ (limit : ℕ) (r : Response) (octets : List ℕ) (w : IsWritten limit r octets) where
  -- all that stands behind the question was put behind it
  all_behind : w.all ≡ w.start ++ drop (length w.start) w.all
  all_behind =
      let b = w.body in
      let room = limit - opt_length r in
      let first = section_all room w.start b.behind_answers r.answers.now w.answers b.answers_whole b.answers_are in
      let second = section_all room b.behind_answers b.behind_authorities (if_whole b.answers_whole r.authorities.now) w.authorities b.authorities_whole b.authorities_are in
      let third = section_all room b.behind_authorities b.behind_glue (if_whole (b.answers_whole && b.authorities_whole) r.glue.now) b.glue b.glue_whole b.glue_is in
      let fourth = helpful_all room b.behind_glue w.end (if_whole (b.answers_whole && (b.authorities_whole && b.glue_whole)) r.additionals.now) b.helpful b.helpful_are in
      let others : AppendsAll strict_record_of b.behind_authorities w.all ((b.glue ++ b.helpful) ++ opt_of r) =
      then_all b.behind_authorities w.end w.all (b.glue ++ b.helpful) (opt_of r) (then_all b.behind_authorities b.behind_glue w.end b.glue b.helpful third fourth) w.opt in
      let last : AppendsAll strict_record_of w.start w.all (w.answers ++ (w.authorities ++ ((b.glue ++ b.helpful) ++ opt_of r))) =
      then_all w.start b.behind_answers w.all w.answers (w.authorities ++ ((b.glue ++ b.helpful) ++ opt_of r)) first
      (then_all b.behind_answers b.behind_authorities w.all w.authorities ((b.glue ++ b.helpful) ++ opt_of r) second others) in
      sym (take-append-drop (length w.start) w.all) ∙ ap (λ s. s ++ drop (length w.start) w.all) (stands_behind w.start w.all _ last)

  written_question : HasQuestion r.query.now.question octets
  written_question =
      let text : List ℕ = w.question.written in
      let more : List ℕ = drop (length w.start) w.all in
      let whole : w.all ≡ w.header ++ (text ++ more) = all_behind ∙ ap (λ s. s ++ more) w.question.is ∙ append_assoc w.header text more in
      let rest : drop 12 w.all ≡ text ++ more =
      ap (λ n. drop n w.all) (sym w.twelve) ∙ ap (drop (length w.header)) whole ∙ drop-append_seam w.header (text ++ more) in
      let none : drop 12 w.header ≡ [] = ap (λ n. drop n w.header) (sym w.twelve) ∙ drop-length w.header in
      record {
        text = text;
        more = more;
        size = omega (arith, w.octets_are.size, ap length whole, length-append w.header (text ++ more), w.twelve);
        stands = w.octets_are.body ∙ append-nil (drop 12 w.all) ∙ rest;
        back = λ message after size stands.
            w.question.back message after (record {
              size = omega (arith, size, w.twelve);
              body = stands ∙ ap (λ s. s ++ (text ++ after)) (sym none);
            });
      }

sent_question : (limit : ℕ) (q : Query) (s : Sections) (octets : List ℕ) → IsSent limit q s octets → HasQuestion q.question octets
sent_question limit q s octets h =
    subst (λ (x : Query). HasQuestion x.question octets) h.means.query (written_question limit h.response octets h.written)

gone_question : (limit : ℕ) (q : Query) (s : Sections) (octets : List ℕ) → GoesOut limit q s octets → HasQuestion q.question octets
gone_question limit q s octets (inl h) = sent_question limit q s octets h
gone_question limit q s octets (inr h) = sent_question limit q _ octets h.1

pub ready_question : (z : Zone) (limit : ℕ) (q : Query) (octets : List ℕ) → IsReady z limit q octets → HasQuestion q.question octets
ready_question z limit q octets h = gone_question limit q h.said octets h.goes_out

-- its octets are those that are read as a question behind the header
module _ (x y : Question) (octets behind : List ℕ) (n : ℕ) (h : HasQuestion x octets) (read : question_of octets (drop 12 octets) ≡ Some (y, behind))
    (count : n ≡ length octets - 12 - length behind) where
  is_behind : behind ≡ h.more
  is_behind = sym (ap (λ (p : Question × List ℕ). p.1) (some_same (sym (h.back octets h.more h.size h.stands) ∙ ap (question_of octets) (sym h.stands) ∙ read)))

  as_long : n ≡ length h.text
  as_long = omega (arith, count, h.size, ap length is_behind, length-append h.text h.more)

  pub text_read : IsQuestionText x (take n (drop 12 octets))
  text_read =
      let is : take n (drop 12 octets) ≡ h.text = ap (λ k. take k (drop 12 octets)) as_long ∙ ap (take (length h.text)) h.stands ∙ take-append_seam h.text h.more in
      subst (IsQuestionText x) (sym is) h.back

  pub text_within : 12 + n ≤ length octets
  text_within = omega (arith, as_long, h.size, length-append h.text h.more)
