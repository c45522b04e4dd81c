-- The steps of the entries of a journal, kept as if each version had been noted when it came
use Rattle.std.specs.Prelude.{◌≡◌, ℕ, List, [], fold, map, Option, Some, None}
use Rattle.zone_proto.specs.Sets.{first_serial}
use Rattle.zone_journal.specs.Replays.{steps_of}
use Rattle.shown_zones.specs.Steps.{step_of}
use Rattle.shown_zones.specs.declared.step.ZoneStep.{ZoneStep}
use Rattle.kept_steps.specs.Kept.{Kept}
use Rattle.step_answers.specs.Noting.{kept_behind}
use Rattle.recalled_steps.specs.declared.recalling.Recalled.{Recalled}

-- what is kept behind steps, each noted in turn
abbrev pub all_noted : Kept → List ZoneStep → Kept
all_noted k ss = fold (λ (x : Kept) (s : ZoneStep). kept_behind (Some s) x) k ss

-- the serial of the version to which the last of some steps leads; without steps this one
abbrev pub serial_behind : Option ℕ → List ZoneStep → Option ℕ
serial_behind serial ss = fold (λ (x : Option ℕ) (s : ZoneStep). first_serial s.new_soa.records) serial ss

-- these steps were noted, and none before them
pub record IsRecalled (most : ℕ) (ss : List ZoneStep) (r : Recalled) : Type 0 where
  pub steps : r.steps ≡ all_noted (record { most = most; steps = [] }) ss
  pub serial : r.serial ≡ serial_behind None ss

-- the steps of these entries were; or one of them is no entry
abbrev pub IsRecalledIfAny : ℕ → List (List ℕ) → Option Recalled → Type 0
IsRecalledIfAny most texts None = steps_of texts ≡ None
IsRecalledIfAny most texts (Some r) = (ss : List ZoneStep) × (steps_of texts ≡ Some (map step_of ss)) × IsRecalled most ss r
