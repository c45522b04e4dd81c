use Rattle.sha1.specs.Sha1.{sha1}
use Rattle.std.proofs.Common.{◌≡◌}
use Rattle.zone_sha1.specs.Digests.{iterated_hash}
use Rattle.zone_sha1.proofs.sha1_hash.iterated_digest.Given as goal

abbrev pub invariant-loop : goal.invariant-loop
invariant-loop l = l.digest ≡ iterated_hash sha1 l.salt l.octets l.counter
