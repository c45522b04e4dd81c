use Rattle.std.proofs.Common.{◌≡◌, ◌∙◌, ℕ, List, true, false, refl, sym, ap, subst}
use Rattle.std.specs.List.{slice_range}
use Rattle.std.specs.Prelude.{if◌then◌else◌, None}
use Rattle.zonectl_commands.specs.InHand.{InHand, IsUntaken}
use Rattle.zonectl_commands.specs.Kept.{IsCut}
use Rattle.zonectl_commands.specs.Lines.{plain}
use Rattle.zonectl_commands.specs.AnsweredLines.{answered_line}
use Rattle.zonectl_commands.proofs.LineFacts.{ahead_after, all_ahead, cut_by, empty_piece, goes_on, taken_first, taken_none}
use Rattle.zonectl_commands.proofs.lines.Lines.take.Goals as goal

pub returns-then-not-is_end-clause-none : goal.returns-then-not-is_end-clause-none
returns-then-not-is_end-clause-none c = λ octets u.
    let piece : List ℕ = c.first_piece-is_end.result.0.now in
    let ahead : List ℕ = slice_range c.self.inside.chunk.items c.self.inside.at c.self.inside.filled in
    let hand : IsUntaken _ octets = subst (λ (h : InHand). IsUntaken h octets) (sym c.self.view_is) u in
    let read = ap (λ (octets : List ℕ). slice_range octets c.self.inside.at c.self.inside.filled) c.deref.ensures.value in
    let cut : IsCut ahead piece false = cut_by _ ahead piece _ false read c.if-not-is_end.true c.first_piece-is_end.ensures in
    taken_none _ _ octets piece hand cut.1 cut.0
    (λ begun b. goes_on c.self.inside.is_begun c.is_empty.result c.self.inside.fits c.put-self-inside.result c.self.inside.line.items c.put-self-inside.new.line.items piece begun
    (λ e. empty_piece piece (sym c.is_empty.ensures ∙ e)) b (c.put-self-inside.ensures.begun begun b))
    (all_ahead c.self.inside.chunk.items piece c.self.inside.at c.self.inside.filled c.self.invariant.behind cut.1)

pub returns-clause-taken : goal.returns-clause-taken
returns-clause-taken c = λ octets u.
    let piece : List ℕ = c.first_piece-is_end.result.0.now in
    let ahead : List ℕ = slice_range c.self.inside.chunk.items c.self.inside.at c.self.inside.filled in
    let hand : IsUntaken _ octets = subst (λ (h : InHand). IsUntaken h octets) (sym c.self.view_is) u in
    let read = ap (λ (octets : List ℕ). slice_range octets c.self.inside.at c.self.inside.filled) c.deref.ensures.value in
    let cut : IsCut ahead piece true = cut_by _ ahead piece _ true read c.if-not-is_end.false c.first_piece-is_end.ensures in
    let line : c.as_slice.result.now ≡ c.drop_carriage_return.new.line.items = c.as_slice.ensures.value in
    taken_first _ _ octets piece cut.1.0 c.put-self-inside.new.line.items c.put-self-inside.result _ hand cut.1.1 cut.0 c.put-self-inside.ensures.begun
    (ap (answered_line c.judge.result) (sym line) ∙ c.judge.ensures ∙ ap (λ (l : List ℕ). if c.put-self-inside.result then plain l else None) (line ∙ c.drop_carriage_return.ensures.items))
    refl (ahead_after c.self.inside.chunk.items piece cut.1.0 c.self.inside.at c.self.inside.filled c.self.invariant.behind cut.1.1)
