use Rattle.std.proofs.Common.{sym}
use Rattle.line_text.specs.Other.{other_of_word}
use Rattle.line_text.proofs.ReadingFacts.{word_read, other_read}
use Rattle.line_text.proofs.data.other.read_other.Goals as goal

pub returns-in-Some-new-clause-ok : goal.returns-in-Some-new-clause-ok
returns-in-Some-new-clause-ok c =
    let hex = rw c.in-Some.is at c.in_ok-octets.ensures in
    let other = other_read c.args.record_type c.in_ok-word.word.now c.in-Some.octets.items c.in-Some-new.other (sym hex) c.in-Some-new.ensures.some c.in-Some-new.ensures.octets in
    word_read (other_of_word c.args.record_type.0) c.args.words.now c.take_needed.new.self c.in_ok-word.word.now _ c.in_ok-word.ensures.ok other
