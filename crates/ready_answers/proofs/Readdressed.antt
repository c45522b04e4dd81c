-- A response with another header is the response to another query of the same question
use Rattle.std.proofs.Common.{◌≡◌, ℕ, zero, suc, take, ◌+◌, ◌-◌, ◌*◌, ◌%◌, Bool, ◌&&◌, List, [], ◌∷◌, ◌++◌, length, drop, Some, refl, sym, ap, subst, ◌∙◌, arith}
use Rattle.std.proofs.lemmas.List.{append-nil, length-drop}
use Rattle.zone_proto.specs.declared.record.Record.{Record}
use Rattle.message_reading.specs.declared.header.Header.{Header}
use Rattle.message_reading.specs.declared.query.Query.{Query}
use Rattle.message_reading.specs.declared.query.Extension.{Extension}
use Rattle.std.specs.Prelude.{Option, None}
use Rattle.message_reading.specs.Octets.{◌>>=◌, alone}
use Rattle.message_reading.specs.Headers.{header_of}
use Rattle.message_reading.specs.Messages.{Parts, message_of, sections_of, several, question_of, record_of}
use Rattle.message_reading.specs.declared.question.Question.{Question}
use Rattle.message_writing.specs.declared.response.Response.{Response}
use Rattle.message_writing.specs.Continuing.{Appends, AppendsAll}
use Rattle.message_writing.specs.StrictReading.{strict_record_of}
use Rattle.message_writing.specs.HeaderText.{high_text, low_text, header_text}
use Rattle.message_writing.specs.Responses.{AreHelpful, IsBody, IsSection, IsWritten, header_for, if_whole, opt_for, opt_length, opt_of}
use Rattle.message_writing.proofs.ResponseBack.{response_back}
use Rattle.ready_answers.specs.Again.{said_by, IsAskedAgain}

some_same : {A : Type 0} {x y : A} → Some x ≡ Some y → x ≡ y
some_same e = cc

-- whatever step is taken, the parts have this header
module _ (h : Header) where
  last : {D : Type 0} (o : Option D) (y : D → Parts) (p : Parts) → ((d : D) → (y d).header ≡ h) → (o >>= λ d. Some (y d)) ≡ Some p → p.header ≡ h
  last None y p k e = absurd cc
  last (Some d) y p k e = ap (λ (x : Parts). x.header) (sym (some_same e)) ∙ k d

  more : {C : Type 0} (o : Option C) (f : C → Option Parts) (p : Parts) → ((c : C) (q : Parts) → f c ≡ Some q → q.header ≡ h) → (o >>= f) ≡ Some p → p.header ≡ h
  more None f p k e = absurd cc
  more (Some c) f p k e = k c p e

module _ (m : List ℕ) (h : Header) where
  abbrev with_all : List Question × List ℕ → List Record × List ℕ → List Record × List ℕ → List Record → Parts
  with_all qs rs bs cs = record { header = h; questions = qs.0; answers = rs.0; authorities = bs.0; additionals = cs }

  abbrev third : List Question × List ℕ → List Record × List ℕ → List Record × List ℕ → Option Parts
  third qs rs bs = alone (several (record_of m) h.additionals bs.1) >>= λ cs. Some (with_all qs rs bs cs)

  abbrev second : List Question × List ℕ → List Record × List ℕ → Option Parts
  second qs rs = several (record_of m) h.authorities rs.1 >>= λ bs. third qs rs bs

  abbrev first : List Question × List ℕ → Option Parts
  first qs = several (record_of m) h.answers qs.1 >>= λ rs. second qs rs

  sections_header : (octets : List ℕ) (p : Parts) → sections_of m h octets ≡ Some p → p.header ≡ h
  unfolding sections_of
  sections_header octets p e =
      more h (several (question_of m) h.questions octets) first p
      (λ qs p₁ e₁. more h (several (record_of m) h.answers qs.1) (second qs) p₁
      (λ rs p₂ e₂. more h (several (record_of m) h.authorities rs.1) (third qs rs) p₂
      (λ bs p₃ e₃. last h (alone (several (record_of m) h.additionals bs.1)) (with_all qs rs bs) p₃ (λ cs. refl) e₃) e₂) e₁) e

-- a message that is read has the header that is read
header_in : (m : List ℕ) (p : Parts) (h : Header) (rest : List ℕ) → message_of m ≡ Some p → header_of m ≡ Some (h, rest) → h ≡ p.header
unfolding message_of
header_in m p h rest e read = sym (sections_header m h rest p (sym (ap (λ (o : Option (Header × List ℕ)). o >>= λ x. sections_of m x.0 x.1) read) ∙ e))

-- the OPT record of a response has nothing else of that of the query
opt_said : (size code : ℕ) (e f : Option Extension) → said_by e ≡ said_by f → opt_for size code e ≡ opt_for size code f
opt_said size code None None same = refl
opt_said size code None (Some y) same = absurd cc
opt_said size code (Some x) None same = absurd cc
opt_said size code (Some x) (Some y) same = ap (λ (d : Bool). opt_for size code (Some (record { size = 0; version = 0; dnssec_ok = d }))) (some_same same)

module _ (before after : Response) (q : Query) (again : IsAskedAgain before after q) where
  same_opt : opt_of after ≡ opt_of before
  same_opt =
      ap (λ (x : Query). opt_for after.size after.code x.extension) again.query
      ∙ opt_said after.size after.code q.extension before.query.now.extension again.extension
      ∙ ap (λ n. opt_for n after.code before.query.now.extension) again.size
      ∙ ap (λ n. opt_for before.size n before.query.now.extension) again.code

  same_body : (room : ℕ) (start end : List ℕ) (answers authorities additionals : List Record) (truncated : Bool)
      → IsBody room before start end answers authorities additionals truncated → IsBody room after start end answers authorities additionals truncated
  same_body room start end answers authorities additionals truncated b = record {
    answers_whole = b.answers_whole;
    authorities_whole = b.authorities_whole;
    glue_whole = b.glue_whole;
    behind_answers = b.behind_answers;
    behind_authorities = b.behind_authorities;
    behind_glue = b.behind_glue;
    glue = b.glue;
    helpful = b.helpful;
    answers_are = subst (λ gs. IsSection room start b.behind_answers gs answers b.answers_whole) (sym again.answers) b.answers_are;
    authorities_are = subst (λ gs. IsSection room b.behind_answers b.behind_authorities (if_whole b.answers_whole gs) authorities b.authorities_whole) (sym again.authorities) b.authorities_are;
    glue_is = subst (λ gs. IsSection room b.behind_authorities b.behind_glue (if_whole (b.answers_whole && b.authorities_whole) gs) b.glue b.glue_whole) (sym again.glue) b.glue_is;
    helpful_are = subst (λ gs. AreHelpful room b.behind_glue end (if_whole (b.answers_whole && (b.authorities_whole && b.glue_whole)) gs) b.helpful) (sym again.additionals) b.helpful_are;
    additionals_are = b.additionals_are;
    truncated_is = b.truncated_is;
  }

  module _ (limit : ℕ) (ready octets : List ℕ) (written : IsWritten limit before ready) (h : Header) (rest : List ℕ) (read : header_of ready ≡ Some (h, rest)) where
    the_header : h ≡ header_for before written.truncated written.answers written.authorities (written.additionals ++ opt_of before)
    the_header = header_in ready _ h rest written.reads read

    pub written_again : octets ≡ header_text q.header.id (high_text h.authoritative h.truncated q.header.recursion_desired) (low_text h.response_code)
        h.answers h.authorities h.additionals ++ drop 12 ready
        → IsWritten limit after octets
    written_again is =
        let aa : h.authoritative ≡ after.authoritative = ap (λ (x : Header). x.authoritative) the_header ∙ sym again.authoritative in
        let tc : h.truncated ≡ written.truncated = ap (λ (x : Header). x.truncated) the_header in
        let twice : (before.code % 16) % 16 ≡ before.code % 16 = omega arith in
        let rc : h.response_code % 16 ≡ after.code % 16 = ap (λ (x : Header). x.response_code % 16) the_header ∙ twice ∙ ap (λ n. n % 16) (sym again.code) in
        let all_same : drop 12 ready ≡ drop 12 written.all = written.octets_are.body ∙ append-nil (drop 12 written.all) in
        let opts : opt_length after ≡ opt_length before = ap (λ (os : List Record). 11 * length os) same_opt in
        response_back limit after written.header written.start written.end written.all octets written.answers written.authorities written.additionals written.truncated
        h.answers h.authorities h.additionals written.twelve
        (subst (Appends question_of written.header written.start) (sym (ap (λ (x : Query). x.question) again.query ∙ again.question)) written.question)
        (subst (λ n. IsBody (limit - n) after written.start written.end written.answers written.authorities written.additionals written.truncated) (sym opts)
        (same_body (limit - opt_length before) written.start written.end written.answers written.authorities written.additionals written.truncated written.body))
        (subst (AppendsAll strict_record_of written.end written.all) (sym same_opt) written.opt)
        (written.opt_size ∙ ap (λ n. length written.end + n) (sym opts))
        (ap (λ (x : Header). x.answers) the_header) (ap (λ (x : Header). x.authorities) the_header)
        (ap (λ (x : Header). x.additionals) the_header ∙ ap (λ os. length (written.additionals ++ os)) (sym same_opt))
        (omega (arith, written.octets_are.size, written.within))
        (is ∙ λ i. header_text (sym again.query i).header.id (high_text (aa i) (tc i) (sym again.query i).header.recursion_desired)
        (rc i) h.answers h.authorities h.additionals ++ all_same i)

take_all : (m : List ℕ) (n : ℕ) → length m ≡ n → take n m ≡ m
take_all [] zero is = refl
take_all [] (suc n) is = refl
take_all (e ∷ m) zero is = absurd (omega arith)
take_all (e ∷ m) (suc n) is = ap (λ x. e ∷ x) (take_all m n (omega arith))

-- octets put behind a header that was put behind none
pub put_behind : (cleared headed octets text ready : List ℕ) (n : ℕ) → cleared ≡ [] → headed ≡ cleared ++ text → n ≡ length ready - 12 → octets ≡ headed ++ take n (drop 12 ready)
    → octets ≡ text ++ drop 12 ready
put_behind cleared headed octets text ready n empty head count is =
    is ∙ λ i. (head ∙ ap (λ l. l ++ text) empty) i ++ take_all (drop 12 ready) n (length-drop 12 ready ∙ sym count) i
