use Rattle.std.proofs.Common.{◌≡◌, ◌*◌, map}
use Rattle.std.specs.List.{range_with_len}
use Rattle.zone_tokens.specs.Base32.{octet_from}
use Rattle.zone_tokens.proofs.base32.octets_in.Given as goal

abbrev pub invariant-loop-k : goal.invariant-loop-k
invariant-loop-k l = l.octets.items ≡ map (λ i. octet_from l.word (i * 8)) (range_with_len 0 l.k)
