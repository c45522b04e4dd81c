use Rattle.std.proofs.Common.{ℕ, ◌<◌}
use Rattle.zone_verify.proofs.Nsec3Links.{IsLinkedAt}
use Rattle.zone_verify.proofs.nsec3_links.check_links.Given as goal

-- the places passed are linked
abbrev pub invariant-loop-i : goal.invariant-loop-i
invariant-loop-i l = (j : ℕ) → j < l.i → IsLinkedAt l.names j
