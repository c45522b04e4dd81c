use Rattle.std.proofs.Common.{◌≡◌, drop, None}
use Rattle.zone_tokens.specs.Ttls.{in_units}
use Rattle.zone_tokens.proofs.ttls.read_units.Given as goal

abbrev pub invariant-loop-octet : goal.invariant-loop-octet
invariant-loop-octet l = in_units l.most (drop l.octet-index l.word) l.number l.total ≡ in_units l.most l.word None 0
