use Rattle.std.proofs.Common.{rules, ◌≡◌, ◌∷◌, ℕ, List, Some, None, string_bytes, subst}
use Rattle.std.specs.Prelude.{option_map}
use Rattle.std.specs.Fmt.{HasWritten}
use Rattle.record_fields.specs.Rows.{row_of}
use Rattle.zone_file_writer.specs.Others.{octets_words}
use Rattle.zone_file_writer.specs.Rows.{behind_spaces, words_by_row}
use Rattle.zone_file_writer.specs.Words.{PrintedWord, words_text}
use Rattle.zone_file_writer.proofs.SpacedWords.{octets_by_row, text_by_row}
use Rattle.zone_file_writer.proofs.other.OtherTextDisplay.fmt.Goals as goal

pub returns-in-Ok-Some-clause-writes : goal.returns-in-Ok-Some-clause-writes
returns-in-Ok-Some-clause-writes g c = λ plain ok.
    let t : ℕ = c.args.self.now.1.now.record_type.0 in
    let os : List ℕ = c.args.self.now.1.now.octets in
    let text : List ℕ = string_bytes c.in-Ok-Some.text in
    let of_row : Some text ≡ option_map behind_spaces (words_by_row (row_of t) os) = rw c.in-Ok-Some.field-0-is at c.in-Ok-Some.ensures in
    let now : HasWritten g.W.Write.write_str_gives c.args.f.now text c.write.new.self = search rules in
    subst (λ (u : List ℕ). HasWritten g.W.Write.write_str_gives c.args.f.now u c.write.new.self) (text_by_row text os (row_of t) of_row) now

pub returns-in-Ok-None-clause-writes : goal.returns-in-Ok-None-clause-writes
returns-in-Ok-None-clause-writes g c = λ plain ok.
    let t : ℕ = c.args.self.now.1.now.record_type.0 in
    let os : List ℕ = c.args.self.now.1.now.octets in
    let of_row : None ≡ option_map behind_spaces (words_by_row (row_of t) os) = rw c.in-Ok-None.field-0-is at c.in-Ok-None.ensures in
    let now : HasWritten g.W.Write.write_str_gives c.args.f.now (32 ∷ words_text (octets_words os)) c.write-in-Ok-None.new.self = search rules in
    subst (λ (ws : List PrintedWord). HasWritten g.W.Write.write_str_gives c.args.f.now (32 ∷ words_text ws) c.write-in-Ok-None.new.self)
    (octets_by_row os (row_of t) of_row) now
