-- To which version the step leads that steps are condensed into
use Rattle.std.specs.Prelude.{◌≡◌, ◌⊎◌, List, [], ◌∷◌, Some}
use Rattle.std.specs.List.{AllByRecursion}
use Rattle.std.specs.Map.{lookup}
use Rattle.zone_proto.specs.Keys.{key_eq}
use Rattle.zone_proto.specs.Names.{Name}
use Rattle.zone_proto.specs.Sets.{RRset}
use Rattle.zone_proto.specs.Types.{SOA}
use Rattle.zone_proto.specs.declared.rr_key.RrKey.{RrKey}
use Rattle.zone_map.specs.Zones.{Sets, set_at, IsZone}
use Rattle.zone_difference.specs.Laws.{last_of, SameZone}
use Rattle.shown_zones.specs.Shown.{shown}
use Rattle.shown_zones.specs.StepLaws.{AreSteps}
use Rattle.shown_zones.specs.Steps.{Step, IsStep}
use Rattle.condensed_steps.specs.Condensing.{IsCondensed}

-- a set stands under a key of one of some versions
abbrev pub IsOfOne : List Sets → RrKey → RRset → Type 0
IsOfOne [] k s = ⊥
IsOfOne (v ∷ vs) k s = (lookup (key_eq k) v ≡ Some s) ⊎ IsOfOne vs k s

-- each set of a zone is one of theirs
abbrev pub AreOf : List Sets → Sets → Type 0
AreOf vs m = (k : RrKey) (s : RRset) → lookup (key_eq k) m ≡ Some s → IsOfOne vs k s

-- A zone is like one of some versions: answers show it as that, names ignoring case; it has the same SOA, and each of its sets is a set of one of the
-- versions.
pub record IsLike (origin : Name) (vs : List Sets) (v m : Sets) : Type 0 where
  pub zone : IsZone m
  pub alike : SameZone (shown m) (shown v)
  pub soa : set_at m origin SOA ≡ set_at v origin SOA
  pub sets : AreOf vs m

-- The step that condenses the steps from version to version leads from a zone that is like the first to one that is like the last. A set that is only
-- spelled otherwise isn't in a step, so it may stand in either as it was spelled in another version.
abbrev pub CondensedStepsLead : Type 0
CondensedStepsLead = (origin : Name) (ss : List Step) (a : Sets) (bs : List Sets) (s : Step) → AreSteps origin ss a bs → IsZone a → AllByRecursion IsZone bs
    → IsCondensed origin ss s
    → (m n : Sets) × IsLike origin (a ∷ bs) a m × IsLike origin (a ∷ bs) (last_of a bs) n × IsStep origin m n s
