use Rattle.std.proofs.Common.{◌≡◌, ◌++◌, codes, string_bytes, sym, ap, subst, ◌∙◌, append_assoc, None, OnOk}
use Rattle.zone_handler.specs.AuthLookup.{records_of, additionals_of}
use Rattle.zonectl_session.specs.Replies.{records_text}
use Rattle.zonectl_session.proofs.Listing.{none_beside}
use Rattle.zonectl_session.proofs.Pushing.{text_pushed}
use Rattle.zonectl_session.proofs.replies.write_found.Goals as goal

pub returns-in-None : goal.returns-in-None
returns-in-None c =
    let found = c.args.found.now in
    let before = string_bytes c.args.answer.now in
    let answers = records_text (codes "answer") (records_of found) in
    let none : additionals_of found ≡ None = sym (rw c.in-None.is at c.additionals.ensures) in
    let written : string_bytes c.write_records.new.answer ≡ before ++ answers = c.in_ok-write_records.ensures in
    subst (λ text. OnOk c.push_str.result (string_bytes c.push_str.new.self ≡ text))
    (ap (λ s. s ++ codes "additional 0\n") written ∙ append_assoc before answers (codes "additional 0\n")
    ∙ ap (λ s. before ++ (answers ++ s)) (sym (none_beside found none)))
    (text_pushed (codes "additional 0\n") _ _ c.push_str.result c.push_str.ensures.bytes)
