-- Signatures put into an update of a signed zone of a database that was prepared
use Rattle.std.specs.Prelude.{◌≡◌, ℕ, List, Option, Some, None}
use Rattle.zone_lookup.specs.StartOfAuthority.{serial}
use Rattle.zone_proto.specs.Names.{Name}
use Rattle.update_denials.specs.Committed.{IsUncommitted}
use Rattle.update_denials.specs.declared.committing.CommitFault.{CommitFault}
use Rattle.update_denials.specs.declared.committing.CommitFault.TheVariants.{Overtaken}
use Rattle.update_denials.specs.declared.preparing.Prepared.{Prepared}
use Rattle.zone_database.specs.declared.zone.Zone.{Zone}
use Rattle.signed_updates.specs.declared.finishing.Unfinished.{Unfinished}
use Rattle.signed_updates.specs.declared.finishing.Unfinished.TheVariants as unfinished

-- the zone that was found is the one that was updated, as far as its serial tells
abbrev pub IsCurrent : Name → Prepared → Option Zone → Type 0
IsCurrent origin prepared None = ⊥
IsCurrent origin prepared (Some z) = serial z.inner.records origin ≡ prepared.serial

-- why the signatures aren't put in: no zone was found, or that one has another serial, or they don't fit
abbrev pub IsUncommittedIn : Name → Option Zone → Prepared → List (List ℕ) → CommitFault → Type 0
IsUncommittedIn origin None prepared signatures fault = fault ≡ Overtaken
IsUncommittedIn origin (Some z) prepared signatures fault = IsUncommitted origin z.inner.records prepared signatures fault

-- why it isn't finished: they aren't put in, and what was prepared is as it was; or a journal can't take the change
abbrev pub IsUnfinished : Name → Option Zone → Prepared → List (List ℕ) → Unfinished → Type 0
IsUnfinished origin found prepared signatures (unfinished.Uncommitted u) = (u.prepared ≡ prepared) × IsUncommittedIn origin found prepared signatures u.fault
IsUnfinished origin found prepared signatures (unfinished.Unjournaled e) = Unit {0}
