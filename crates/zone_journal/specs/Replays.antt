-- The zone that a journal leads to
use Rattle.std.specs.Prelude.{◌≡◌, ℕ, List, [], ◌∷◌, Option, Some, None, Result, Ok, Err}
use Rattle.message_reading.specs.Octets.{◌>>=◌}
use Rattle.zone_map.specs.Zones.{Sets}
use Rattle.zone_difference.specs.declared.error.DifferenceError.{DifferenceError}
use Rattle.journal_frames.specs.Journals.{frames_in}
use Rattle.shown_zones.specs.Steps.{Step, all_stepped}
use Rattle.zone_journal.specs.Entries.{entry_of}
use Rattle.zone_journal.specs.declared.replaying.ReplayFault.{ReplayFault}
use Rattle.zone_journal.specs.declared.replaying.ReplayFault.TheVariants.{NoEntry, Misfit, Memory}

-- the steps of entries; none where one of them is no entry
unfoldable pub steps_of : List (List ℕ) → Option (List Step)
steps_of [] = Some []
steps_of (text ∷ texts) = entry_of text >>= λ s. steps_of texts >>= λ ss. Some (s ∷ ss)

abbrev pub if_fits : Result Sets DifferenceError → Result Sets ReplayFault
if_fits (Ok m) = Ok m
if_fits (Err e) = Err Misfit

abbrev pub if_entries : Sets → Option (List Step) → Result Sets ReplayFault
if_entries m None = Err NoEntry
if_entries m (Some ss) = if_fits (all_stepped m ss)

-- the zone that the whole frames of a journal make of another, or why they make none
abbrev pub replayed : Sets → List ℕ → Result Sets ReplayFault
replayed m octets = if_entries m (steps_of (frames_in octets))

-- a call gives the zone that is defined, or refuses it for the fault that is; memory may run out in place of either
abbrev pub IsReplayFault : ReplayFault → Result Sets ReplayFault → Type 0
IsReplayFault Memory made = Unit {0}
IsReplayFault e made = made ≡ Err e

abbrev pub GivesReplayed : Result Sets ReplayFault → Result Sets ReplayFault → Type 0
GivesReplayed (Ok m) made = made ≡ Ok m
GivesReplayed (Err e) made = IsReplayFault e made
