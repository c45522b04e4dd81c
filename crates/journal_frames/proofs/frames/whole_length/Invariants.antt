use Rattle.std.proofs.Common.{◌≡◌, ◌≤◌, ◌++◌, length, take, drop}
use Rattle.journal_frames.specs.Journals.{whole}
use Rattle.journal_frames.proofs.frames.whole_length.Given as goal

abbrev pub invariant-frames : goal.invariant-frames
invariant-frames l = record {
  rest : l.rest ≡ drop l.at l.octets;
  inside : l.at ≤ length l.octets;
  whole : take l.at l.octets ++ whole l.rest ≡ whole l.octets;
}

abbrev pub decreases-frames : goal.decreases-frames
decreases-frames l = length l.rest
