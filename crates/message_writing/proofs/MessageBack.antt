-- A message of sections that were written one behind the other, read back
use Rattle.std.proofs.Common.{◌≡◌, ℕ, ◌≤◌, List, [], ◌∷◌, ◌++◌, length, drop, Some, refl, ap, subst, ◌∙◌, arith}
use Rattle.std.proofs.lemmas.List.{length-append, drop_all}
use Rattle.zone_proto.specs.declared.record.Record.{Record}
use Rattle.message_reading.specs.declared.header.Header.{Header}
use Rattle.message_reading.specs.declared.question.Question.{Question}
use Rattle.message_reading.specs.Headers.{header_of}
use Rattle.message_reading.specs.Messages.{Parts, several, question_of, record_of, sections_of, message_of}
use Rattle.message_writing.specs.Continuing.{Continues, Appends, AppendsAll}
use Rattle.message_writing.specs.StrictReading.{strict_record_of}
use Rattle.message_writing.proofs.Strict.{all_loosened}
use Rattle.message_writing.proofs.InOrder.{continues_less, all_read}

abbrev parts : Header → Question → List Record → List Record → List Record → Parts
parts h q answers authorities additionals = record {
  header = h;
  questions = q ∷ [];
  answers = answers;
  authorities = authorities;
  additionals = additionals;
}

-- what a header counts
pub record Counts (h : Header) (answers authorities additionals : List Record) : Type 0 where
  pub questions : h.questions ≡ 1
  pub answers_are : h.answers ≡ length answers
  pub authorities_are : h.authorities ≡ length authorities
  pub additionals_are : h.additionals ≡ length additionals

one_question : (m octets : List ℕ) (q : Question × List ℕ) → question_of m octets ≡ Some q → several (question_of m) 1 octets ≡ Some (q.0 ∷ [], q.1)
unfolding several
one_question m octets q e = rw e refl

-- the steps of a message's reading, over any values
sections_from : (m : List ℕ) (h : Header) (octets : List ℕ) (questions : List Question × List ℕ) (answers authorities : List Record × List ℕ)
    (additionals : List Record) → several (question_of m) h.questions octets ≡ Some questions
    → several (record_of m) h.answers questions.1 ≡ Some answers → several (record_of m) h.authorities answers.1 ≡ Some authorities
    → several (record_of m) h.additionals authorities.1 ≡ Some (additionals, [])
    → sections_of m h octets ≡ Some (record {
      header = h;
      questions = questions.0;
      answers = answers.0;
      authorities = authorities.0;
      additionals = additionals;
    })
unfolding sections_of
sections_from m h octets questions answers authorities additionals e₁ e₂ e₃ e₄ = rw (e₁, e₂, e₃, e₄) refl

message_from : (m rest : List ℕ) (h : Header) (p : Parts) → header_of m ≡ Some (h, rest) → sections_of m h rest ≡ Some p → message_of m ≡ Some p
unfolding message_of
message_from m rest h p e f = rw e f

pub message_back : (header start end₁ end₂ all m : List ℕ) (h : Header) (q : Question) (answers authorities additionals : List Record)
    → length header ≡ 12 → Appends question_of header start q → AppendsAll strict_record_of start end₁ answers
    → AppendsAll strict_record_of end₁ end₂ authorities → AppendsAll strict_record_of end₂ all additionals → Continues all [] m
    → header_of m ≡ Some (h, drop 12 m) → Counts h answers authorities additionals
    → message_of m ≡ Some (parts h q answers authorities additionals)
message_back header start end₁ end₂ all m h q answers authorities additionals twelve question h₁ h₂ h₃ g top counts =
    let long₀ : 12 ≤ length start = omega (arith, twelve, ap length question.is, length-append header question.written) in
    let a = all_read start end₁ answers long₀ h₁ in
    let long₁ : 12 ≤ length end₁ = omega (arith, long₀, ap length a.is, length-append start a.written) in
    let b = all_read end₁ end₂ authorities long₁ h₂ in
    let long₂ : 12 ≤ length end₂ = omega (arith, long₁, ap length b.is, length-append end₁ b.written) in
    let c = all_read end₂ all additionals long₂ h₃ in
    let t₃ : List ℕ = c.written ++ [] in
    let t₂ : List ℕ = b.written ++ t₃ in
    let t₁ : List ℕ = a.written ++ t₂ in
    let g₃ : Continues end₂ t₃ m = continues_less end₂ c.written [] m long₂ (subst (λ s. Continues s [] m) c.is g) in
    let g₂ : Continues end₁ t₂ m = continues_less end₁ b.written t₃ m long₁ (subst (λ s. Continues s t₃ m) b.is g₃) in
    let g₁ : Continues start t₁ m = continues_less start a.written t₂ m long₀ (subst (λ s. Continues s t₂ m) a.is g₂) in
    let g₀ : Continues header (question.written ++ t₁) m =
    continues_less header question.written t₁ m (omega (arith, twelve)) (subst (λ s. Continues s t₁ m) question.is g₁) in
    let rest : drop 12 m ≡ question.written ++ t₁ = g₀.body ∙ ap (λ s. s ++ (question.written ++ t₁)) (drop_all 12 header (omega (arith, twelve))) in
    let one : several (question_of m) h.questions (drop 12 m) ≡ Some (q ∷ [], t₁) =
    (λ i. several (question_of m) (counts.questions i) (rest i)) ∙ one_question m (question.written ++ t₁) (q, t₁) (question.back m t₁ g₀) in
    let two : several (record_of m) h.answers t₁ ≡ Some (answers, t₂) = ap (λ n. several (record_of m) n t₁) counts.answers_are
    ∙ all_loosened m (length answers) t₁ (answers, t₂) (a.read m t₂ g₂) in
    let three : several (record_of m) h.authorities t₂ ≡ Some (authorities, t₃) =
    ap (λ n. several (record_of m) n t₂) counts.authorities_are
    ∙ all_loosened m (length authorities) t₂ (authorities, t₃) (b.read m t₃ g₃) in
    let four : several (record_of m) h.additionals t₃ ≡ Some (additionals, []) =
    ap (λ n. several (record_of m) n t₃) counts.additionals_are
    ∙ all_loosened m (length additionals) t₃ (additionals, []) (c.read m [] g) in
    message_from m (drop 12 m) h (parts h q answers authorities additionals) top
    (sections_from m h (drop 12 m) (q ∷ [], t₁) (answers, t₂) (authorities, t₃) additionals one two three four)
