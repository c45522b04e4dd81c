use Rattle.std.proofs.Common.{◌≡◌, ◌∙◌, ◌<◌, ℕ, List, true, length, sym, ap, subst, arith}
use Rattle.std.specs.Prelude.{if◌then◌else◌, None}
use Rattle.zonectl_commands.specs.InHand.{InHand, IsUntaken}
use Rattle.zonectl_commands.specs.Kept.{begun_of}
use Rattle.zonectl_commands.specs.Lines.{plain}
use Rattle.zonectl_commands.specs.AnsweredLines.{answered_line}
use Rattle.zonectl_commands.proofs.LineFacts.{taken_last}
use Rattle.zonectl_commands.proofs.lines.Lines.take_last.Goals as goal

pub returns-clause-taken : goal.returns-clause-taken
returns-clause-taken c = λ octets u.
    let line : List ℕ = c.self.inside.line.items in
    let hand : IsUntaken _ octets = subst (λ (h : InHand). IsUntaken h octets) (sym c.self.view_is) u in
    let some : c.self.inside.fits ≡ true → 0 < length line = λ fits. let n = c.self.invariant.begun c.if-not-self.false fits in omega (arith, c.self.inside.line.ok.0) in
    taken_last _ octets line c.self.inside.fits _ hand
    (ap (λ (h : InHand). h.ahead) c.self.view_is ∙ c.requires)
    (ap (λ b. begun_of b c.self.inside.fits line) c.if-not-self.false)
    some
    (ap (answered_line c.judge.result) (sym c.as_slice.ensures.value) ∙ c.judge.ensures ∙ ap (λ (l : List ℕ). if c.self.inside.fits then plain l else None) c.as_slice.ensures.value)
