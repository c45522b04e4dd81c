use Rattle.std.proofs.Common.{rules, arith, ◌≡◌, length, string_bytes, ℕ, List, ◌∷◌, ◌++◌, true, Option, Some, sym, ap, ◌∙◌, append-nil}
use Rattle.zone_proto.specs.Text.{name_text}
use Rattle.zone_file_writer.specs.Labels.{is_wire_form, labels_of}
use Rattle.zone_file_writer.specs.Rows.{appended, name_word, one_word}
use Rattle.zone_file_writer.proofs.LabelFacts.{name_labels, name_root}
use Rattle.zone_file_writer.proofs.fields.push_name.Goals as goal
use Rattle.zone_file_writer.proofs.fields.push_name.Goals.{then-name-eq1+in_ok-write-in-Some, else-name-eq1+in_ok-write-in-Some-2}

named_text : (text new name rest : List ℕ) (front : Option (List ℕ × List ℕ)) → Some (name, rest) ≡ front → new ≡ text ++ (32 ∷ name_text (labels_of name))
    → Some (new, rest) ≡ appended text (one_word name_word front)
named_text text new name rest front e n =
    ap (λ (t : List ℕ). Some (t, rest)) (n ∙ ap (λ (t : List ℕ). text ++ (32 ∷ t)) (sym (append-nil (name_text (labels_of name)))))
    ∙ ap (λ (o : Option (List ℕ × List ℕ)). appended text (one_word name_word o)) e

pub returns-after-name-eq1-clause-value : goal.returns-after-name-eq1-clause-value
returns-after-name-eq1-clause-value c =
    let text : List ℕ = string_bytes c.args.text.now in
    let name : List ℕ = c.in-Some.name.now in
    let wire : is_wire_form name ≡ true = search rules in
    let bytes : string_bytes c.if-name-eq1.text ≡ text ++ (32 ∷ name_text (labels_of name)) =
    elim c.if-name-eq1.branch [
      | then-name-eq1+in_ok-write-in-Some w ↦
          let one : length name ≡ 1 = omega arith in
          ap string_bytes w.text-is ∙ w.in_ok-write-in-Some.ensures.bytes ∙ ap (λ (t : List ℕ). text ++ (32 ∷ t)) (sym (name_root name wire one))
      | else-name-eq1+in_ok-write-in-Some-2 w ↦
          ap string_bytes w.text-is ∙ w.in_ok-write-in-Some-2.ensures.bytes
          ∙ ap (λ (t : List ℕ). text ++ (32 ∷ t)) (sym (name_labels name wire (λ e. omega arith)))
    ] in
    named_text text (string_bytes c.if-name-eq1.text) name c.in-Some.rest.now _ c.in-Some.ensures.value bytes
