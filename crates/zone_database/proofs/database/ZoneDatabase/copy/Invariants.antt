use Rattle.zone_origins.proofs.UnderNames.{HasCopied}
use Rattle.zone_database.specs.declared.zone.Zone.{Zone}
use Rattle.zone_database.proofs.database.ZoneDatabase.copy.Given as goal

-- those so far are the same
abbrev pub invariant-loop-origin : goal.invariant-loop-origin
invariant-loop-origin l = HasCopied (λ (s : Zone). s) l.self.zones.entries l.zones.entries l.origin-iterator
