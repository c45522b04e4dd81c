-- Steps as loops walk over them
use Rattle.std.proofs.Common.{◌≡◌, List, [], ◌∷◌, ◌++◌, map, refl, ap}
use Rattle.zone_map.specs.Zones.{Sets}
use Rattle.shown_zones.specs.Steps.{step_of}
use Rattle.shown_zones.specs.declared.step.ZoneStep.{ZoneStep}
use Rattle.condensed_steps.specs.Condensing.{back, before_all, behind}

-- the last step is undone first
pub before_last : (m : Sets) (ss : List ZoneStep) (s : ZoneStep) → before_all m (map step_of (ss ++ s ∷ [])) ≡ before_all (behind m (back (step_of s))) (map step_of ss)
before_last m [] s = refl
before_last m (t ∷ ss) s = ap (λ (n : Sets). behind n (back (step_of t))) (before_last m ss s)
