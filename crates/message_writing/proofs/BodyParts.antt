-- The sections of a response, put one behind the other
use Rattle.std.proofs.Common.{◌≡◌, ℕ, ◌+◌, Bool, ◌&&◌, not, List, [], ◌++◌, refl, sym, ap, subst, ◌∙◌, append_assoc}
use Rattle.std.proofs.lemmas.List.{append-nil, length-append}
use Rattle.message_writing.specs.declared.message_parts.Counts.{Counts}
use Rattle.message_writing.specs.declared.error.WriteError.{WriteError}
use Rattle.message_writing.specs.declared.response.Group.{Group}
use Rattle.message_writing.specs.declared.response.Response.{Response}
use Rattle.message_writing.specs.Outcomes.{FailsToPutAny, IsBodyPut, IsHelpPut, IsSectionPut, records_in}
use Rattle.message_writing.specs.Responses.{AreHelpful, IsSection, all_records, if_whole}
use Rattle.message_writing.proofs.Failures.{groups_fail}

abbrev counted : ℕ → ℕ → ℕ → Bool → Counts
counted a b c cut = record { answers = a; authorities = b; additionals = c; truncated = cut }

pub body_put : (room : ℕ) (r : Response) (o₀ o₁ o₂ o₃ o₄ : List ℕ) (first second third : Bool) (a b c d : ℕ) (authorities glue additionals : List Group)
    → IsSectionPut room o₀ o₁ r.answers.now first a → authorities ≡ if_whole first r.authorities.now → IsSectionPut room o₁ o₂ authorities second b
    → glue ≡ if_whole (first && second) r.glue.now → IsSectionPut room o₂ o₃ glue third c
    → additionals ≡ if_whole (first && (second && third)) r.additionals.now → IsHelpPut room o₃ o₄ additionals d
    → IsBodyPut room r o₀ o₄ (counted a b (c + d) (not (first && (second && third))))
body_put room r o₀ o₁ o₂ o₃ o₄ first second third a b c d authorities glue additionals s₁ e₂ s₂ e₃ s₃ e₄ h = record {
  answers = s₁.kept;
  authorities = s₂.kept;
  additionals = s₃.kept ++ h.kept;
  is = record {
    answers_whole = first;
    authorities_whole = second;
    glue_whole = third;
    behind_answers = o₁;
    behind_authorities = o₂;
    behind_glue = o₃;
    glue = s₃.kept;
    helpful = h.kept;
    answers_are = s₁.is;
    authorities_are = subst (λ gs. IsSection room o₁ o₂ gs s₂.kept second) e₂ s₂.is;
    glue_is = subst (λ gs. IsSection room o₂ o₃ gs s₃.kept third) e₃ s₃.is;
    helpful_are = subst (λ gs. AreHelpful room o₃ o₄ gs h.kept) e₄ h.is;
    additionals_are = refl;
    truncated_is = refl;
  };
  answers_counted = s₁.counted;
  authorities_counted = s₂.counted;
  additionals_counted = (λ i. s₃.counted i + h.counted i) ∙ sym (length-append s₃.kept h.kept);
}

-- ---- a record of a section is one of the response

pub answers_fail : (r : Response) (e : WriteError) → FailsToPutAny (all_records r.answers.now) e → FailsToPutAny (records_in r) e
answers_fail r e h = groups_fail [] r.answers.now (r.authorities.now ++ (r.glue.now ++ r.additionals.now)) e h

pub authorities_fail : (r : Response) (e : WriteError) → FailsToPutAny (all_records r.authorities.now) e → FailsToPutAny (records_in r) e
authorities_fail r e h = groups_fail r.answers.now r.authorities.now (r.glue.now ++ r.additionals.now) e h

pub glue_fails : (r : Response) (e : WriteError) → FailsToPutAny (all_records r.glue.now) e → FailsToPutAny (records_in r) e
glue_fails r e h =
    let a = r.answers.now in
    let b = r.authorities.now in
    subst (λ s. FailsToPutAny (all_records s) e) (append_assoc a b (r.glue.now ++ r.additionals.now))
    (groups_fail (a ++ b) r.glue.now r.additionals.now e h)

pub additionals_fail : (r : Response) (e : WriteError) → FailsToPutAny (all_records r.additionals.now) e → FailsToPutAny (records_in r) e
additionals_fail r e h =
    let a = r.answers.now in
    let b = r.authorities.now in
    let g = r.glue.now in
    let d = r.additionals.now in
    let same : (a ++ (b ++ g)) ++ (d ++ []) ≡ a ++ (b ++ (g ++ d)) =
    ap (λ s. (a ++ (b ++ g)) ++ s) (append-nil d) ∙ append_assoc a (b ++ g) d ∙ ap (λ s. a ++ s) (append_assoc b g d) in
    subst (λ s. FailsToPutAny (all_records s) e) same (groups_fail (a ++ (b ++ g)) d [] e h)
