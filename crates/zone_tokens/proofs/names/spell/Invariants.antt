use Rattle.std.proofs.Common.{◌≡◌, ◌++◌, drop}
use Rattle.zone_tokens.specs.Names.{spelled, spelled_from}
use Rattle.zone_tokens.proofs.names.spell.Given as goal

abbrev pub invariant-loop-octet : goal.invariant-loop-octet
invariant-loop-octet l = l.text.items ++ spelled_from l.is_behind (drop l.octet-index l.word) ≡ spelled l.word
