-- Which versions of a zone the steps lead to that are kept
use Rattle.std.specs.Prelude.{ℕ, List, [], ◌∷◌, ◌++◌, drop}
use Rattle.zone_proto.specs.Names.{Name, lower}
use Rattle.kept_steps.specs.Kept.{Kept}
use Rattle.kept_steps.specs.KeptLaws.{IsSent, LeadOn, Version}
use Rattle.step_answers.specs.Noting.{IsNoted}

-- If what is kept leads to a version from some others, it leads to the next one behind the step to that: from all of them, or those behind some of the first.
abbrev pub NotedStepsLead : Type 0
NotedStepsLead = (origin : Name) (vs : List Version) (z next : Version) (old new : Kept) → LeadOn origin vs old.steps z → IsSent origin next
    → IsNoted (lower origin) z.sets next.sets old new → (k : ℕ) × LeadOn origin (drop k (vs ++ z ∷ [])) new.steps next
