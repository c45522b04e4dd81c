use Rattle.std.proofs.Common.{◌∙◌, ap, get_or, refl, sym, arith}
use Rattle.std.specs.Prelude.{◌==◌}
use Rattle.std.proofs.lemmas.List.Sums.{count_by_more_no, count_by_more_yes}
use Rattle.zone_texts.proofs.GoingOn.{ends_here, no_start_more, not_ten, starts_by}
use Rattle.zone_texts.proofs.lines.octets_before_start.Goals as goal
use Rattle.zone_texts.proofs.lines.octets_before_start.Goals.{then-is_begin, else-is_begin}

pub loop-at-preserved : goal.loop-at-preserved
loop-at-preserved c = record {
  within = omega arith;
  few = elim c.if-is_begin.branch [
    | then-is_begin w ↦ omega (arith, w.ended-is)
    | else-is_begin w ↦ omega (arith, w.ended-is)
  ];
  ended = elim c.if-is_begin.branch [
    | then-is_begin w ↦ omega (arith, w.ended-is, c.loop-at.invariant.ended, count_by_more_yes (λ b. b == 10) c.args.text.now c.loop-at.at 0 c.loop-at-test.true (ap (λ b. b == 10) w.if-is_begin.true))
    | else-is_begin w ↦ omega (arith, w.ended-is, c.loop-at.invariant.ended, count_by_more_no (λ b. b == 10) c.args.text.now c.loop-at.at 0 c.loop-at-test.true (not_ten (get_or c.args.text.now c.loop-at.at 0) w.if-is_begin.false))
  ];
  begin = ends_here c.args.text.now c.loop-at.at;
  first = no_start_more c.args.text.now c.args.line c.loop-at.at c.loop-at.invariant.first
      (starts_by c.args.text.now c.args.line c.loop-at.at c.loop-at.ended (get_or c.args.text.now c.loop-at.at 0) c.loop-at.is_begin c.loop-at-test.true c.loop-at.invariant.begin c.loop-at.invariant.ended refl
      ∙ sym c.is_start.ensures ∙ c.if-is_start.false);
}
