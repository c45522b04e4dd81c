use Rattle.std.proofs.Common.{rules, arith, ◌≡◌, ◌<◌, ℕ, length, List, [], Bool, cond, Option, Some, None, string_bytes, sym, ap, ◌∙◌}
use Rattle.std.specs.Prelude.{option_map}
use Rattle.std.proofs.lemmas.Bool.Decides.{nat_tests}
use Rattle.record_fields.specs.Rows.{fields_of}
use Rattle.zone_file_writer.specs.Rows.{behind_spaces, row_words}
use Rattle.zone_file_writer.specs.Words.{PrintedWord}
use Rattle.zone_file_writer.proofs.RowTexts.{behind_fields, no_text, no_words, some_text}
use Rattle.zone_file_writer.proofs.rows.row_text.Goals as goal
use Rattle.zone_file_writer.proofs.rows.row_text.Goals.{else-branch-via-then-branch+else-not-is_empty, else-branch-via-else-branch}

pub returns-then-not-is_empty : goal.returns-then-not-is_empty
returns-then-not-is_empty c =
    let words : Option (List PrintedWord) = row_words c.args.row.now c.args.octets.now in
    let text : List ℕ = string_bytes c.push_ending.new.text in
    let none : fields_of c.loop-field.left ≡ [] = search rules in
    let whole : option_map behind_spaces words ≡ cond c.in_ok-push_ending.field-0 (Some text) None =
    behind_fields (string_bytes c.loop-field.text) text c.loop-field.rest.now (fields_of c.loop-field.left) c.args.row.now.2 words c.in_ok-push_ending.field-0
    none c.loop-field.invariant c.in_ok-push_ending.ensures in
    let some : 0 < length text = first_of (grind (arith, nat_tests), search (rules, nat_tests), omega arith) in
    sym (some_text words text (whole ∙ ap (λ (b : Bool). cond b (Some text) None) c.if-branch.true) some)

pub returns-else-branch : goal.returns-else-branch
returns-else-branch c =
    let words : Option (List PrintedWord) = row_words c.args.row.now c.args.octets.now in
    let text : List ℕ = string_bytes c.push_ending.new.text in
    let none : fields_of c.loop-field.left ≡ [] = search rules in
    let whole : option_map behind_spaces words ≡ cond c.in_ok-push_ending.field-0 (Some text) None =
    behind_fields (string_bytes c.loop-field.text) text c.loop-field.rest.now (fields_of c.loop-field.left) c.args.row.now.2 words c.in_ok-push_ending.field-0
    none c.loop-field.invariant c.in_ok-push_ending.ensures in
    elim c.else-branch.branch [
      | else-branch-via-then-branch+else-not-is_empty w ↦
          let empty : length text ≡ 0 = first_of (grind (arith, nat_tests), search (rules, nat_tests), omega arith) in
          sym (no_text words text (whole ∙ ap (λ (b : Bool). cond b (Some text) None) w.if-branch.true) empty)
      | else-branch-via-else-branch w ↦ sym (no_words words (whole ∙ ap (λ (b : Bool). cond b (Some text) None) w.if-branch.false))
    ]
