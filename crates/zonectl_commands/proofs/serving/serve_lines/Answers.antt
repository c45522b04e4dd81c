use Rattle.std.proofs.Common.{◌++◌, ◌+◌, ℕ, List, subst, string_bytes}
use Rattle.zonectl_commands.specs.Serving.{HasNext, Moves}
use Rattle.zonectl_commands.specs.AnsweredLines.{answered_line}
use Rattle.zonectl_commands.specs.Transcripts.{AnswersLine}
use Rattle.zonectl_commands.proofs.ServedLines.{all_served, line_served, none_served}
use Rattle.zonectl_commands.proofs.serving.serve_lines.Goals as goal

pub loop-i-init : goal.loop-i-init
loop-i-init g c = none_served g.S.Session.carries c.args.session.now _ _ c.args.lines.now _ c.requires.none_read c.requires.none_waiting

pub serve_last-requires : goal.serve_last-requires
serve_last-requires g c =
    let next = subst (HasNext c.loop-i.lines c.next_line.new.lines _ _) c.in-None.is c.in_ok-line.ensures.lines in
    (next c.loop-i.invariant.untaken c.loop-i.invariant.held).2.2

pub returns-in-None : goal.returns-in-None
returns-in-None g c =
    let next = subst (HasNext c.loop-i.lines c.next_line.new.lines _ _) c.in-None.is c.in_ok-line.ensures.lines in
    all_served g.S.Session.carries c.args.session.now _ _ c.loop-i.session c.loop-i.i c.loop-i.good c.loop-i.lines _ _ (string_bytes c.loop-i.answers) c.next_line.new.lines _ _
    (string_bytes c.next_line.new.answers) c.serve_last.new.session c.in_ok-good-in-None.field-0 _ c.loop-i.invariant next c.in_ok-line.ensures.answers c.in_ok-good-in-None.ensures

pub loop-i-preserved : goal.loop-i-preserved
loop-i-preserved g c =
    let next = subst (HasNext c.loop-i.lines c.next_line.new.lines _ _) c.in-Some.is c.in_ok-line.ensures.lines in
    let P : List ℕ → Type 0 = λ octets.
    (text : List ℕ) × AnswersLine g.S.Session.carries c.loop-i.session (c.loop-i.i + 1) (answered_line c.in-Some.line octets) text c.in_ok-good-in-Some.field-0 c.serve_line.new.session
    × Moves (string_bytes c.next_line.new.answers ++ text) (g.W.Write.contents c.next_line.new.output) (g.W.Write.contents c.serve_line.new.output) (string_bytes c.serve_line.new.answers) in
    line_served g.S.Session.carries c.args.session.now _ _ c.loop-i.session c.loop-i.i c.loop-i.good c.loop-i.lines _ _ (string_bytes c.loop-i.answers)
    (answered_line c.in-Some.line c.next_line.new.lines.line) c.next_line.new.lines _ _ (string_bytes c.next_line.new.answers) c.serve_line.new.session c.in_ok-good-in-Some.field-0 _
    (string_bytes c.serve_line.new.answers) c.loop-i.invariant next c.in_ok-line.ensures.answers (subst P c.line.ensures c.in_ok-good-in-Some.ensures)
