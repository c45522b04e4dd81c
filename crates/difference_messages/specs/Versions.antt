-- Which versions of a zone the steps lead from that answer a secondary
use Rattle.std.specs.Prelude.{◌≡◌, ℕ, ◌<◌, true, List, [], ◌∷◌, length, drop, map}
use Rattle.zone_proto.specs.Names.{Name, lower}
use Rattle.zone_map.specs.Zones.{Sets}
use Rattle.zone_proto.specs.Serials.{is_newer}
use Rattle.shown_zones.specs.Steps.{Step, step_of, IsStep}
use Rattle.shown_zones.specs.declared.step.ZoneStep.{ZoneStep}
use Rattle.incremental_laws.specs.Versions.{IsVersion, Leads}
use Rattle.difference_messages.specs.declared.choosing.DifferenceReply.TheVariants.{StepsFrom}
use Rattle.difference_messages.specs.Choosing.{reply_to}

-- steps lead from version to version, from the first to the newest
abbrev pub Chained : Name → ℕ → Sets → List Step → ℕ → Sets → Type 0
Chained origin serial a [] newest z = (serial ≡ newest) × (a ≡ z) × IsVersion origin serial a
Chained origin serial a (s ∷ steps) newest z =
    IsVersion origin serial a × (after : ℕ) × (b : Sets) × IsStep (lower origin) a b s × Chained origin after b steps newest z

-- The steps that answer a secondary lead from a version of the serial that it holds to the newest, which is newer.
abbrev pub RepliesLead : Type 0
RepliesLead = (origin : Name) (first held newest : ℕ) (a z : Sets) (steps : List ZoneStep) (k : ℕ) → Chained origin first a (map step_of steps) newest z
    → reply_to held newest steps ≡ StepsFrom k
    → (k < length steps) × (is_newer newest held ≡ true) × (b : Sets) × Leads origin held b (map step_of (drop k steps)) newest z
