-- Zones in place of those that they were loaded as, once their journals are replayed
use Rattle.std.specs.Prelude.{◌≡◌, ℕ, List, Option, Some, None, Ok, Err}
use Rattle.zone_database.specs.declared.zone.Zone.{Zone}
use Rattle.zone_database.specs.Databases.{with_zone}
use Rattle.zone_journal.specs.declared.replaying.ReplayFault.{ReplayFault}
use Rattle.zone_journal.specs.declared.replaying.ReplayFault.TheVariants.{Memory}
use Rattle.held_updates.specs.Replaying.{Replays}

-- the zone that its journal leads to is in place of the one that was found, if one was
abbrev pub IsReplayed : List ℕ → Option Zone → List Zone → List Zone → Type 0
IsReplayed journal None zs new = new ≡ zs
IsReplayed journal (Some z) zs new = (after : Zone) × Replays z journal (Ok after) × (new ≡ with_zone after zs)

-- the journal of the one that was found leads to none, or no memory was found
abbrev pub IsUnreplayed : List ℕ → Option Zone → ReplayFault → Type 0
IsUnreplayed journal found Memory = Unit {0}
IsUnreplayed journal None e = ⊥
IsUnreplayed journal (Some z) e = Replays z journal (Err e)
