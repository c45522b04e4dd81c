use Rattle.std.proofs.Common.{◌≡◌, map, take}
use Rattle.shown_zones.specs.Shown.{shown_set, with_ttl}
use Rattle.shown_zones.proofs.copying.shown_set.Given as goal

abbrev pub invariant-loop-signature : goal.invariant-loop-signature
invariant-loop-signature l = l.shown ≡ record (shown_set l.set) { signatures = map (with_ttl l.set.ttl) (take l.signature-index l.set.signatures) }
