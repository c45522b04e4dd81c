use Rattle.std.proofs.Common.{◌≡◌, take}
use Rattle.message_hmac.specs.Hmac.{masked}
use Rattle.message_hmac.proofs.hmac.masked.Given as goal

abbrev pub invariant-loop-octet : goal.invariant-loop-octet
invariant-loop-octet l = l.combined.items ≡ masked l.mask (take l.octet-index l.octets)
