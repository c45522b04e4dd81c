-- An entry of a zone's journal: the step from one version to the next, as the records of RFC 1995 section 4 in messages that follow one
-- another
use Rattle.std.specs.Prelude.{ℕ, ◌==◌, Bool, if◌then◌else◌, List, [], ◌∷◌, take, drop, Option, Some, None, option_map}
use Rattle.std.specs.List.{list_any, position}
use Rattle.zone_proto.specs.Sets.{RRset}
use Rattle.zone_proto.specs.Types.{SOA}
use Rattle.message_reading.specs.Octets.{◌>>=◌}
use Rattle.message_series.specs.Series.{records_of}
use Rattle.shown_zones.specs.Steps.{Step, step_of}
use Rattle.shown_zones.specs.declared.step.ZoneStep.{ZoneStep}
use Rattle.zone_journal.specs.Grouping.{sets_in}

abbrev pub is_soa : RRset → Bool
is_soa s = s.record_type == SOA

abbrev pub first_of : List RRset → Option (RRset × List RRset)
first_of [] = None
first_of (s ∷ ss) = Some (s, ss)

-- the step of an SOA and of the sets that are deleted, of the newer SOA and of the sets that are added, which have no SOA
abbrev pub step_with : RRset → List RRset → List RRset → Option Step
step_with old deleted [] = None
step_with old deleted (new ∷ added) =
    if list_any is_soa added then None
    else Some (record { old_soa = old; deleted = deleted; new_soa = new; added = added })

-- sets behind the older SOA, parted where the newer one stands
abbrev pub parted_at : RRset → List RRset → Option ℕ → Option Step
parted_at old ss None = None
parted_at old ss (Some k) = step_with old (take k ss) (drop k ss)

-- the step that sets are, of which the first is the older SOA
abbrev pub step_in : List RRset → Option Step
step_in [] = None
step_in (s ∷ ss) = if is_soa s then parted_at s ss (position is_soa ss) else None

-- the step that an entry is, or none
abbrev pub entry_of : List ℕ → Option Step
entry_of octets = records_of octets >>= λ records. sets_in records >>= step_in

-- a call gives the step that octets are, or none; memory may run out in place of either
abbrev pub as_step : Option ZoneStep → Option Step
as_step o = option_map step_of o
