-- The question of a query that was read is the one that stands behind its header
use Rattle.std.proofs.Common.{◌≡◌, ℕ, Bool, true, false, cond, eqb, List, [], ◌∷◌, drop, Some, refl, sym, ap, ◌∙◌}
use Rattle.std.specs.Prelude.{Option, None, Result, Ok, Err, nat_lt}
use Rattle.message_reading.specs.declared.header.Header.{Header}
use Rattle.message_reading.specs.declared.question.Question.{Question}
use Rattle.message_reading.specs.declared.query.Query.{Query}
use Rattle.message_reading.specs.declared.query.Extension.{Extension}
use Rattle.message_reading.specs.declared.error.ReadError.{ReadError}
use Rattle.message_reading.specs.declared.error.ReadError.TheVariants.{NoQuery, NotImplemented, BadVersion}
use Rattle.message_reading.specs.Octets.{◌>>=◌, alone}
use Rattle.message_reading.specs.Headers.{header_of}
use Rattle.message_reading.specs.Messages.{question_of}
use Rattle.message_reading.specs.Queries.{additionals_of, behind_authorities, behind_question, body_of, has_few, if_formed, if_query, if_version, may_have_authorities, query_of}

some_same : {A : Type 0} {x y : A} → Some x ≡ Some y → x ≡ y
some_same e = cc

ok_same : {q r : Query} → ◌≡◌ {A = Result Query ReadError} (Ok q) (Ok r) → q ≡ r
ok_same e = cc

-- whatever a step finds has this question, if each value of the step has it
more : {C D : Type 0} (o : Option C) (f : C → Option D) (d : D) (P : D → Type 0) → ((c : C) → f c ≡ Some d → P d) → (o >>= f) ≡ Some d → P d
more None f d P k e = absurd cc
more (Some c) f d P k e = k c e

-- ---- what follows the header

header_rest : (m : List ℕ) (h : Header) (rest : List ℕ) → header_of m ≡ Some (h, rest) → rest ≡ drop 12 m
header_rest [] h rest e = absurd cc
header_rest (a ∷ []) h rest e = absurd cc
header_rest (a ∷ b ∷ []) h rest e = absurd cc
header_rest (a ∷ b ∷ c ∷ []) h rest e = absurd cc
header_rest (a ∷ b ∷ c ∷ d ∷ []) h rest e = absurd cc
header_rest (a ∷ b ∷ c ∷ d ∷ f ∷ []) h rest e = absurd cc
header_rest (a ∷ b ∷ c ∷ d ∷ f ∷ g ∷ []) h rest e = absurd cc
header_rest (a ∷ b ∷ c ∷ d ∷ f ∷ g ∷ i ∷ []) h rest e = absurd cc
header_rest (a ∷ b ∷ c ∷ d ∷ f ∷ g ∷ i ∷ j ∷ []) h rest e = absurd cc
header_rest (a ∷ b ∷ c ∷ d ∷ f ∷ g ∷ i ∷ j ∷ k ∷ []) h rest e = absurd cc
header_rest (a ∷ b ∷ c ∷ d ∷ f ∷ g ∷ i ∷ j ∷ k ∷ l ∷ []) h rest e = absurd cc
header_rest (a ∷ b ∷ c ∷ d ∷ f ∷ g ∷ i ∷ j ∷ k ∷ l ∷ m ∷ []) h rest e = absurd cc
header_rest (a ∷ b ∷ c ∷ d ∷ f ∷ g ∷ i ∷ j ∷ k ∷ l ∷ m ∷ n ∷ left) h rest e = sym (ap (λ (x : Header × List ℕ). x.1) (some_same e))

-- ---- from the octets to the question

behind : (h : Header) (x : Question) (octets : List ℕ) (q : Query) → behind_question h x octets ≡ Some q → q.question ≡ x
unfolding behind_question
behind h x octets q e =
    more (cond (may_have_authorities h x) (behind_authorities h.authorities octets) None) _ q (λ (p : Query). p.question ≡ x)
    (λ left f. more (alone (additionals_of h.additionals None left)) _ q (λ (p : Query). p.question ≡ x) (λ extension g. sym (ap (λ (p : Query). p.question) (some_same g))) f) e

in_body : (m : List ℕ) (h : Header) (octets : List ℕ) (q : Query) (x : Question) (rest : List ℕ) → question_of m octets ≡ Some (x, rest) → body_of m h octets ≡ Some q → q.question ≡ x
unfolding body_of
in_body m h octets q x rest is e = by (has_few h) e
  where
    by : (b : Bool) → ((cond b (question_of m octets) None) >>= λ question. behind_question h question.0 question.1) ≡ Some q → q.question ≡ x
    by true f = behind h x rest q (sym (ap (λ (o : Option (Question × List ℕ)). o >>= λ question. behind_question h question.0 question.1) is) ∙ f)
    by false f = absurd cc

of_version : (p q : Query) (e : Option Extension) → if_version p e ≡ Ok q → p ≡ q
of_version p q None h = ok_same h
of_version p q (Some e) h = by (nat_lt 0 e.version) h
  where
    by : (b : Bool) → cond b (Err (BadVersion p)) (Ok p) ≡ Ok q → p ≡ q
    by true g = absurd cc
    by false g = ok_same g

of_form : (m : List ℕ) (h : Header) (octets : List ℕ) (q : Query) (x : Question) (rest : List ℕ) → question_of m octets ≡ Some (x, rest) → (o : Option Query) → body_of m h octets ≡ o
    → if_formed h o ≡ Ok q → q.question ≡ x
of_form m h octets q x rest is None b e = absurd cc
of_form m h octets q x rest is (Some p) b e = ap (λ (r : Query). r.question) (sym (of_version p q p.extension e)) ∙ in_body m h octets p x rest is b

of_header : (m : List ℕ) (q : Query) (x : Question) (behind : List ℕ) → question_of m (drop 12 m) ≡ Some (x, behind) → (o : Option (Header × List ℕ)) → header_of m ≡ o
    → if_query m o ≡ Ok q → q.question ≡ x
of_header m q x behind is None b e = absurd cc
of_header m q x behind is (Some (h, rest)) b e = by h.is_response (eqb h.opcode 0) e
  where
    here : question_of m rest ≡ Some (x, behind)
    here = ap (question_of m) (header_rest m h rest b) ∙ is

    by : (r c : Bool) → cond r (Err NoQuery) (cond c (if_formed h (body_of m h rest)) (Err (NotImplemented h))) ≡ Ok q → q.question ≡ x
    by true c f = absurd cc
    by false true f = of_form m h rest q x behind here (body_of m h rest) refl f
    by false false f = absurd cc

pub question_read : (m : List ℕ) (q : Query) (x : Question) (behind : List ℕ) → query_of m ≡ Ok q → question_of m (drop 12 m) ≡ Some (x, behind) → q.question ≡ x
unfolding query_of
question_read m q x behind e is = of_header m q x behind is (header_of m) refl e
