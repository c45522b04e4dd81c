use Rattle.std.proofs.Common.{sym, ◌∙◌}
use Rattle.message_reading.proofs.ReadingNames.{named}
use Rattle.message_reading.proofs.names.name_of.Goals as goal

pub returns-in_ok-from_wire-in-Some : goal.returns-in_ok-from_wire-in-Some
returns-in_ok-from_wire-in-Some c =
    named _ c.in-Some.text.items c.in-Some.rest.now _ (rw c.in-Some.is at c.in_ok-name_octets.ensures)
    (sym c.as_slice.ensures ∙ c.in_ok-from_wire-in-Some.ensures.ok)
