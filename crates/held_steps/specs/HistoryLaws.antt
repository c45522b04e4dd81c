-- To which version the steps lead that are kept of a zone
use Rattle.std.specs.Prelude.{◌≡◌, ℕ, List, Option, Some, None}
use Rattle.std.specs.Arc.{arc_value}
use Rattle.zone_proto.specs.Names.{Name, lower}
use Rattle.zone_database.specs.declared.zone.Zone.{Zone}
use Rattle.kept_steps.specs.KeptLaws.{IsSent, LeadOn, Version}
use Rattle.held_steps.specs.declared.history.ZoneHistory.{ZoneHistory}
use Rattle.held_steps.specs.Histories.{sets_in, IsBehind}

-- the version that a zone is, with the serial of its SOA
abbrev pub version_of : ℕ → Zone → Version
version_of serial z = record { serial = serial; sets = sets_in z }

-- What is kept leads from some versions to the newest, which can be sent.
abbrev pub Lead : Name → ZoneHistory → Type 0
Lead origin h = (vs : List Version) × (serial : ℕ) × LeadOn origin vs h.steps.steps (version_of serial (arc_value h.newest))

abbrev pub LeadIfAny : Name → Option ZoneHistory → Type 0
LeadIfAny origin None = Unit {0}
LeadIfAny origin (Some h) = Lead origin h

-- It does so behind a further version that can be sent.
abbrev pub HistoriesLead : Type 0
HistoriesLead = (origin : Name) (z : Zone) (serial most : ℕ) (old : Option ZoneHistory) (new : ZoneHistory) → LeadIfAny origin old → IsSent origin (version_of serial z)
    → (z.origin ≡ lower origin) → IsBehind z most old new → Lead origin new
