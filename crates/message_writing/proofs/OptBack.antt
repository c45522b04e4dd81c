-- The OPT record and the question, read back
use Rattle.std.proofs.Common.{◌≡◌, ℕ, ◌+◌, ◌≤◌, List, [], ◌∷◌, ◌++◌, length, Some, None, refl, ap, subst, ◌∙◌, append_assoc, arith}
use Rattle.std.proofs.lemmas.List.{length-append}
use Rattle.zone_proto.specs.Names.{Name, IsName, wire_form, wire_length}
use Rattle.zone_proto.specs.declared.rdata.other.OtherData.{OtherData}
use Rattle.zone_proto.specs.declared.rdata.RData.TheVariants as V
use Rattle.message_reading.specs.declared.query.Extension.{Extension}
use Rattle.message_reading.specs.declared.question.Question.{Question}
use Rattle.message_reading.specs.Octets.{short_of, offset_of}
use Rattle.message_reading.specs.MessageNames.{name_of}
use Rattle.message_reading.specs.DataForms.{data_of, plain_data_of}
use Rattle.message_reading.specs.Messages.{question_of}
use Rattle.message_writing.specs.Continuing.{Continues, Appends, AppendsAll}
use Rattle.message_writing.specs.DataText.{short_text, long_text, IsInForm}
use Rattle.message_writing.specs.KnownNames.{IsCut}
use Rattle.message_writing.specs.StrictReading.{strict_record_of}
use Rattle.message_writing.specs.Responses.{opt_for, opt_ttl}
use Rattle.message_writing.proofs.Fields.{five, short_back, three, wire_back}
use Rattle.message_writing.proofs.DataLengths.{wire_is}
use Rattle.message_writing.proofs.OthersBack.{other_back}
use Rattle.message_writing.proofs.RecordsBack.{record_back}

abbrev opt_data : OtherData
opt_data = record { record_type = record { 0 = 41 }; octets = []; other = refl }

opt_form : plain_data_of 41 [] ≡ Some (V.Other opt_data)
unfolding data_of
opt_form = refl

root_cut : (before : List ℕ) → IsCut before 0 None []
root_cut before = record { within = omega arith; rest = refl }

root_name : IsName []
root_name = record { labels = tt; short = omega arith }

-- what a call that appends an OPT record knows when it returns
pub opt_written : (o₀ o₁ o₂ o₃ o₄ o₅ : List ℕ) (size code ttl : ℕ) (e : Extension) → ttl ≡ opt_ttl code e → o₁ ≡ o₀ ++ 0 ∷ [] → o₂ ≡ o₁ ++ short_text 41
    → o₃ ≡ o₂ ++ short_text size → o₄ ≡ o₃ ++ long_text ttl → o₅ ≡ o₄ ++ short_text 0 → AppendsAll strict_record_of o₀ o₅ (opt_for size code (Some e))
opt_written o₀ o₁ o₂ o₃ o₄ o₅ size code ttl e is e₁ e₂ e₃ e₄ e₅ =
    let t = opt_ttl code e in
    let text : List ℕ = (0 ∷ []) ++ (short_text 41 ++ (short_text size ++ (long_text t ++ short_text 0))) in
    let form : IsInForm opt_data = (omega arith, opt_form) in (
      o₅,
      record {
        written = text;
        is = five o₀ o₁ o₂ o₃ o₄ o₅ (0 ∷ []) (short_text 41) (short_text size) (long_text t) (short_text 0) e₁ e₂ e₃ (e₄ ∙ ap (λ n. o₃ ++ long_text n) is) e₅;
        back = record_back o₀ 0 None [] 41 size t [] (V.Other opt_data) (root_cut o₀) root_name (other_back o₀ opt_data form);
      },
      refl,
    )

pub opt_octets : (o₀ o₁ o₂ o₃ o₄ o₅ : List ℕ) (size ttl : ℕ) → o₁ ≡ o₀ ++ 0 ∷ [] → o₂ ≡ o₁ ++ short_text 41 → o₃ ≡ o₂ ++ short_text size
    → o₄ ≡ o₃ ++ long_text ttl → o₅ ≡ o₄ ++ short_text 0 → length o₅ ≡ length o₀ + 11
opt_octets o₀ o₁ o₂ o₃ o₄ o₅ size ttl e₁ e₂ e₃ e₄ e₅ =
    omega (
      arith,
      ap length e₁,
      ap length e₂,
      ap length e₃,
      ap length e₄,
      ap length e₅,
      length-append o₀ (0 ∷ []),
      length-append o₁ (short_text 41),
      length-append o₂ (short_text size),
      length-append o₃ (long_text ttl),
      length-append o₄ (short_text 0),
    )

-- ---- the question

abbrev question : Name → ℕ → ℕ → Question
question n t class = record { name = n; query_type = record { 0 = t }; query_class = record { 0 = class } }

question_from : (m octets : List ℕ) (name : Name × List ℕ) (t class : ℕ × List ℕ) → name_of m (offset_of m octets) octets ≡ Some name
    → short_of name.1 ≡ Some t → short_of t.1 ≡ Some class → question_of m octets ≡ Some (question name.0 t.0 class.0, class.1)
unfolding question_of
question_from m octets name t class e₁ e₂ e₃ = rw (e₁, e₂, e₃) refl

pub question_written : (o₀ o₁ o₂ o₃ : List ℕ) (n : Name) (t class : ℕ) → IsName n → o₁ ≡ o₀ ++ wire_form n → o₂ ≡ o₁ ++ short_text t
    → o₃ ≡ o₂ ++ short_text class → Appends question_of o₀ o₃ (question n t class)
question_written o₀ o₁ o₂ o₃ n t class valid e₁ e₂ e₃ = record {
  written = wire_form n ++ (short_text t ++ short_text class);
  is = three o₀ o₁ o₂ o₃ (wire_form n) (short_text t) (short_text class) e₁ e₂ e₃;
  back = λ m after g.
      let s₂ : List ℕ = short_text class ++ after in
      let s₁ : List ℕ = short_text t ++ s₂ in
      let regroup : (wire_form n ++ (short_text t ++ short_text class)) ++ after ≡ wire_form n ++ s₁ =
      append_assoc (wire_form n) (short_text t ++ short_text class) after in
      let h : Continues o₀ (wire_form n ++ s₁) m = subst (λ s. Continues o₀ s m) regroup g in
      let there : length o₀ ≤ offset_of m (wire_form n ++ s₁) = omega (arith, h.size) in
      ap (question_of m) regroup
      ∙ question_from m (wire_form n ++ s₁) (n, s₁) (t, s₂) (class, after)
      (wire_back o₀ (wire_form n ++ s₁) m (offset_of m (wire_form n ++ s₁)) n s₁ h there valid) (short_back t s₂) (short_back class after);
}

pub question_octets : (o₀ o₁ o₂ o₃ : List ℕ) (n : Name) (t class : ℕ) → o₁ ≡ o₀ ++ wire_form n → o₂ ≡ o₁ ++ short_text t → o₃ ≡ o₂ ++ short_text class
    → length o₃ ≡ length o₀ + (wire_length n + 4)
question_octets o₀ o₁ o₂ o₃ n t class e₁ e₂ e₃ =
    omega (
      arith,
      ap length e₁,
      ap length e₂,
      ap length e₃,
      length-append o₀ (wire_form n),
      length-append o₁ (short_text t),
      length-append o₂ (short_text class),
      wire_is n,
    )
