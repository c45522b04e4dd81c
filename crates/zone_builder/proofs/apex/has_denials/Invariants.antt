use Rattle.std.proofs.Common.{◌≡◌, drop}
use Rattle.std.specs.List.{list_any}
use Rattle.zone_builder.specs.Faults.{has_denials, is_denial}
use Rattle.zone_builder.proofs.apex.has_denials.Given as goal

-- of the records that were passed none denies a name
abbrev pub invariant-loop-given : goal.invariant-loop-given
invariant-loop-given l = list_any (is_denial l.origin) (drop l.given-index l.records) ≡ has_denials l.origin l.records
