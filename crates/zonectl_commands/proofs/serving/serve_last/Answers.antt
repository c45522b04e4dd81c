use Rattle.std.proofs.Common.{[], ℕ, List, true, refl, sym, subst, append-nil, string_bytes}
use Rattle.std.specs.Io.KnownBytes.{Appends}
use Rattle.zonectl_commands.specs.Lines.{lines_of}
use Rattle.zonectl_commands.specs.Transcripts.{IsTranscript}
use Rattle.zonectl_commands.proofs.serving.serve_last.Goals as goal

pub returns-in_ok-write_out-in-None : goal.returns-in_ok-write_out-in-None
returns-in_ok-write_out-in-None g c = λ octets u.
    let none = c.in-None.ensures.none octets u in
    let P : List ℕ → Type 0 = λ xs. IsTranscript g.S.Session.carries c.args.session.now c.args.number (lines_of xs) [] true c.args.session.now in
    let Q : List ℕ → Type 0 = λ xs. Appends (g.W.Write.contents c.args.output.now) (g.W.Write.contents c.write_out-in-None.new.output) xs in
    ([], subst P (sym none) (refl, refl, refl), subst Q (sym (append-nil (string_bytes c.args.answers.now))) c.in_ok-write_out-in-None.ensures.1)
