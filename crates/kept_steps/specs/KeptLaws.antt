-- Which versions of a zone kept steps lead from
use Rattle.std.specs.Prelude.{◌≡◌, ℕ, ◌==◌, true, List, [], ◌∷◌, ◌++◌, drop, map, Some}
use Rattle.std.specs.List.{list_any, AllByRecursion}
use Rattle.zone_proto.specs.Names.{Name, lower}
use Rattle.zone_map.specs.Zones.{Sets}
use Rattle.zone_proto.specs.Serials.{is_newer}
use Rattle.shown_zones.specs.Steps.{step_of, IsStep}
use Rattle.shown_zones.specs.declared.step.ZoneStep.{ZoneStep}
use Rattle.incremental_laws.specs.Versions.{IsVersion, Leads}
use Rattle.kept_steps.specs.Giving.{steps_from}
use Rattle.kept_steps.specs.Kept.{newest_within}

-- a version of a zone: the serial of its SOA, and its sets
pub record Version : Type 0 where
  pub serial : ℕ
  pub sets : Sets

-- it can be sent to a secondary and kept there
abbrev pub IsSent : Name → Version → Type 0
IsSent origin v = IsVersion origin v.serial v.sets

-- the first of some versions, or the newest one behind them
abbrev pub first_of : List Version → Version → Version
first_of [] z = z
first_of (v ∷ vs) z = v

-- Steps lead from each of some versions to the next, and from the last of them to the newest.
abbrev pub LeadOn : Name → List Version → List ZoneStep → Version → Type 0
LeadOn origin [] [] z = IsSent origin z
LeadOn origin (v ∷ vs) (s ∷ ss) z = IsSent origin v × IsStep (lower origin) v.sets (first_of vs z).sets (step_of s) × LeadOn origin vs ss z
LeadOn origin _ _ z = ⊥

-- No steps lead from no version to the newest.
abbrev pub NoStepsLeadOn : Type 0
NoStepsLeadOn = (origin : Name) (z : Version) → IsSent origin z → LeadOn origin [] [] z

-- With the step to the next version, what is kept leads to that one: from all versions, or those behind some of the first.
abbrev pub KeptStepsLeadOn : Type 0
KeptStepsLeadOn = (origin : Name) (vs : List Version) (ss : List ZoneStep) (z next : Version) (s : ZoneStep) (most : ℕ) → LeadOn origin vs ss z
    → IsStep (lower origin) z.sets next.sets (step_of s) → IsSent origin next
    → (k : ℕ) × LeadOn origin (drop k (vs ++ z ∷ [])) (newest_within most (ss ++ s ∷ [])) next

-- steps lead to the newest version from each of some that has a serial
abbrev pub LeadFrom : Name → ℕ → List ZoneStep → Version → List Version → Type 0
LeadFrom origin held given z = AllByRecursion (λ (v : Version). v.serial ≡ held → Leads origin held v.sets (map step_of given) z.serial z.sets)

-- What is given leads from the version of the serial to the newest one: there is such a version, older than the newest, and from each such the
-- steps lead.
abbrev pub GivenStepsLead : Type 0
GivenStepsLead = (origin : Name) (vs : List Version) (ss given : List ZoneStep) (z : Version) (held : ℕ) → LeadOn origin vs ss z
    → steps_from held z.serial ss ≡ Some given
    → (is_newer z.serial held ≡ true) × (list_any (λ (v : Version). v.serial == held) vs ≡ true) × LeadFrom origin held given z vs
