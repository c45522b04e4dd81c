use Rattle.std.proofs.Common.{◌≡◌, ◌++◌}
use Rattle.message_cookies.specs.SipHash.{padded, state_after}
use Rattle.message_cookies.proofs.sip_hash.siphash.Given as goal

abbrev pub invariant-loop-i : goal.invariant-loop-i
invariant-loop-i l = l.state ≡ state_after l.initial.state (padded (l.first ++ l.second)) l.i
