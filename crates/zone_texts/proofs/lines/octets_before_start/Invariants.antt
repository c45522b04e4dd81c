use Rattle.std.proofs.Common.{◌≡◌, ◌<◌, ◌≤◌, ◌-◌, ℕ, take, length}
use Rattle.std.specs.Prelude.{◌==◌, IsFalse, count_by}
use Rattle.zone_texts.specs.GoingOn.{ends_line, is_start}
use Rattle.zone_texts.proofs.lines.octets_before_start.Given as goal

abbrev pub invariant-loop-at : goal.invariant-loop-at
invariant-loop-at l = record {
  within : l.at ≤ length l.text;
  few : l.ended ≤ l.at;
  ended : l.ended ≡ count_by (λ b. b == 10) (take l.at l.text);
  begin : l.is_begin ≡ ends_line l.text l.at;
  first : (earlier : ℕ) → earlier < l.at → IsFalse (is_start l.text l.line earlier);
}

abbrev pub decreases-loop-at : goal.decreases-loop-at
decreases-loop-at l = length l.text - l.at
