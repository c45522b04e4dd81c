use Rattle.std.proofs.Common.{◌≡◌, length}
use Rattle.zone_tokens.specs.Names.{is_absolute}
use Rattle.zone_tokens.proofs.names.is_absolute.Given as goal

abbrev pub invariant-octets : goal.invariant-octets
invariant-octets l = is_absolute l.rest ≡ is_absolute l.word

abbrev pub decreases-octets : goal.decreases-octets
decreases-octets l = length l.rest
