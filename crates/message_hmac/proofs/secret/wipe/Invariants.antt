use Rattle.std.proofs.Common.{◌≡◌, ℕ, ◌<◌, get_or}
use Rattle.message_hmac.proofs.secret.wipe.Given as goal

abbrev pub invariant-loop-octet : goal.invariant-loop-octet
invariant-loop-octet l = (k : ℕ) → k < l.octet-index → get_or l.octets k 0 ≡ 0
