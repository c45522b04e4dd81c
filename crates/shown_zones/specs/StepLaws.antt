-- What steps of a zone lead to
use Rattle.std.specs.Prelude.{◌≡◌, List, [], ◌∷◌, map}
use Rattle.std.specs.List.{AllByRecursion, AllZip}
use Rattle.zone_proto.specs.Names.{Name}
use Rattle.zone_map.specs.Zones.{Sets, IsZone}
use Rattle.zone_difference.specs.Differences.{replayed}
use Rattle.zone_difference.specs.Laws.{last_of, MakesSame, SameZone}
use Rattle.zone_difference.specs.declared.difference.Difference.{Difference}
use Rattle.shown_zones.specs.Agreeing.{IsOfStep}
use Rattle.shown_zones.specs.Shown.{shown}
use Rattle.shown_zones.specs.Steps.{Step, all_stepped, shown_step, step_of, IsStep}
use Rattle.shown_zones.specs.declared.step.ZoneStep.{ZoneStep}

-- steps lead from a version to each of others, one after the other
abbrev pub AreSteps : Name → List Step → Sets → List Sets → Type 0
AreSteps origin [] a [] = Unit {0}
AreSteps origin (s ∷ ss) a (b ∷ bs) = IsStep origin a b s × AreSteps origin ss b bs
AreSteps origin _ a _ = ⊥

-- From what answers show of the first version, or any zone with the same sets, the steps as answers show them lead to what answers show of
-- the last.
abbrev pub StepsLead : Type 0
StepsLead = (origin : Name) (ss : List Step) (a m : Sets) (bs : List Sets) → AreSteps origin ss a bs → IsZone a → AllByRecursion IsZone bs
    → IsZone m → SameZone m (shown a) → MakesSame (all_stepped m (map shown_step ss)) (shown (last_of a bs))

-- Differences of steps, applied one after the other, make of a zone what the steps make of it.
abbrev pub DifferencesAreSteps : Type 0
DifferencesAreSteps = (ss : List ZoneStep) (ds : List Difference) (m : Sets) → AllZip IsOfStep ss ds → replayed m ds ≡ all_stepped m (map step_of ss)
