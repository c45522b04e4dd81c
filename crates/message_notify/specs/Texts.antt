-- NOTIFY messages and their responses as octets (RFC 1996 section 3)
use Rattle.std.specs.Prelude.{ℕ, List, [], ◌∷◌, ◌++◌}
use Rattle.zone_proto.specs.Names.{Name, lower, wire_form}
use Rattle.message_writing.specs.DataText.{short_text}
use Rattle.message_notify.specs.declared.notify.Notify.{Notify}
use Rattle.message_notify.specs.declared.notify.NotifyOutcome.{NotifyOutcome}
use Rattle.message_notify.specs.declared.notify.NotifyOutcome.TheVariants.{Taken, NotAuthoritative, Refused}

-- the counts of one question and no record, and the question for the SOA record of a zone of class IN
abbrev pub question_text : Name → List ℕ
question_text origin = 0 ∷ 1 ∷ 0 ∷ 0 ∷ 0 ∷ 0 ∷ 0 ∷ 0 ∷ wire_form (lower origin) ++ 0 ∷ 6 ∷ 0 ∷ 1 ∷ []

-- the opcode 4, and AA
abbrev pub notify_text : ℕ → Name → List ℕ
notify_text id origin = short_text id ++ 36 ∷ 0 ∷ [] ++ question_text origin

-- QR, the opcode 4, and AA where it was taken
abbrev pub high_octet_of : NotifyOutcome → ℕ
high_octet_of Taken = 164
high_octet_of NotAuthoritative = 160
high_octet_of Refused = 160

-- NOERROR, NOTAUTH and REFUSED
abbrev pub code_of : NotifyOutcome → ℕ
code_of Taken = 0
code_of NotAuthoritative = 9
code_of Refused = 5

abbrev pub response_text : Notify → NotifyOutcome → List ℕ
response_text n outcome = short_text n.id ++ high_octet_of outcome ∷ code_of outcome ∷ [] ++ question_text n.origin
