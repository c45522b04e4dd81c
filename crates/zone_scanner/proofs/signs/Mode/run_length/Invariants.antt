use Rattle.std.proofs.Common.{◌≡◌, ◌≤◌, ◌<◌, ℕ, true}
use Rattle.std.specs.Prelude.{slice_index}
use Rattle.zone_scanner.specs.Signs.{goes_on}
use Rattle.zone_scanner.proofs.signs.Mode.run_length.Given as goal

-- so far the octets go on, and are no more than the most
abbrev pub invariant-loop-i : goal.invariant-loop-i
invariant-loop-i l = record {
  few : l.i ≤ l.most;
  go_on : (k : ℕ) → k < l.i → goes_on l.self (slice_index l.text k) ≡ true;
}
