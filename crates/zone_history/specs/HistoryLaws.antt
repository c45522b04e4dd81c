-- What the versions of a zone lead to
use Rattle.std.specs.Prelude.{◌≡◌, ℕ, List, [], ◌∷◌, Ok}
use Rattle.std.specs.List.{AllByRecursion}
use Rattle.zone_map.specs.Zones.{Sets, IsZone}
use Rattle.zone_difference.specs.Differences.{applied, sets_lacking}
use Rattle.zone_difference.specs.Laws.{last_of, MakesSame, SameZone}
use Rattle.zone_history.specs.Histories.{undone}
use Rattle.zone_history.specs.declared.history.Version.{Version}

-- a version's difference is the one from a zone to the next
pub record IsStep (v : Version) (a b : Sets) : Type 0 where
  pub taken : v.difference.taken.items ≡ sets_lacking a b
  pub given : v.difference.given.items ≡ sets_lacking b a

-- versions are those from a zone to each of others, one after the other
abbrev pub AreSteps : List Version → Sets → List Sets → Type 0
AreSteps [] a [] = Unit {0}
AreSteps (v ∷ vs) a (b ∷ bs) = IsStep v a b × AreSteps vs b bs
AreSteps _ a _ = ⊥

-- undone, they lead from the last zone back to the first
abbrev pub UndoneLeadsBack : Type 0
UndoneLeadsBack = (vs : List Version) (a m : Sets) (bs : List Sets) → AreSteps vs a bs → IsZone a → AllByRecursion IsZone bs → IsZone m → SameZone m (last_of a bs)
    → MakesSame (undone m vs) a

-- and the difference from what they lead back to leads from each zone that has the first one's sets to the last
abbrev pub CondensedLeads : Type 0
CondensedLeads = (vs : List Version) (a m client : Sets) (bs : List Sets) → AreSteps vs a bs → IsZone a → AllByRecursion IsZone bs → IsZone m → SameZone m (last_of a bs)
    → IsZone client → SameZone client a
    → (before : Sets) × (undone m vs ≡ Ok before) × MakesSame (applied client (sets_lacking before m) (sets_lacking m before)) m
