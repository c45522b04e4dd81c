use Rattle.std.proofs.Common.{length, arith}
use Rattle.line_text.specs.Parts.{parts}
use Rattle.line_text.proofs.PartFacts.{wrong_count, some_parts}
use Rattle.line_text.proofs.addresses.read_ipv4.Goals as goal

-- more parts are left than there may be
pub returns-in-Some : goal.returns-in-Some
returns-in-Some c =
    let count = rw c.in-Some.is at c.loop-i.invariant.count in
    wrong_count (length (parts 46 c.args.word.now)) 4 _ (λ e. omega (arith, count, some_parts 46 c.in-Some.field-0.now))
