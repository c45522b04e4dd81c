-- The steps of a zone that are kept: the newest ones
use Rattle.std.specs.Prelude.{◌≡◌, ℕ, ◌+◌, ◌<◌, nat_le, if◌then◌else◌, List, [], ◌∷◌, ◌++◌, length, Option, Some, None}
use Rattle.std.specs.List.{flat_map}
use Rattle.zone_proto.specs.declared.record.Record.{Record}
use Rattle.shown_zones.specs.Sending.{sent_step}
use Rattle.shown_zones.specs.Steps.{step_of}
use Rattle.shown_zones.specs.declared.step.ZoneStep.{ZoneStep}

-- How many records may be kept, and the steps that are, the oldest first.
pub record Kept : Type 0 where
  pub most : ℕ
  pub steps : List ZoneStep

-- the records of a step as they are sent, signatures among them
abbrev pub records_of : ZoneStep → List Record
records_of s = sent_step (step_of s)

-- how many records steps have
abbrev pub size_of : List ZoneStep → ℕ
size_of ss = length (flat_map records_of ss)

-- the newest of some steps: as many as have so many records at most
unfoldable pub newest_within : ℕ → List ZoneStep → List ZoneStep
newest_within most [] = []
newest_within most (s ∷ ss) = if nat_le (size_of (s ∷ ss)) most then s ∷ ss else newest_within most ss

-- what is kept behind one more step
abbrev pub with_step : Kept → ZoneStep → Kept
with_step k s = record k { steps = newest_within k.most (k.steps ++ s ∷ []) }

-- ---- on the way

-- what is left of room behind so many records; none where there are more
abbrev pub IsLeft : ℕ → ℕ → Option ℕ → Type 0
IsLeft count room None = room < count
IsLeft count room (Some left) = left + count ≡ room
