-- What is kept of the steps of a zone behind a new version
use Rattle.std.specs.Prelude.{◌≡◌, ℕ, Bool, false, if◌then◌else◌, [], Option, Some, None}
use Rattle.zone_proto.specs.Names.{Name}
use Rattle.zone_proto.specs.Sets.{first_serial}
use Rattle.zone_map.specs.Zones.{Sets}
use Rattle.zone_proto.specs.Serials.{is_newer}
use Rattle.shown_zones.specs.Steps.{IsStepIfAny}
use Rattle.shown_zones.specs.declared.step.ZoneStep.{ZoneStep}
use Rattle.kept_steps.specs.Kept.{with_step, Kept}

-- there are two serials, of which the first is newer
abbrev pub is_newer_if_any : Option ℕ → Option ℕ → Bool
is_newer_if_any (Some n) (Some m) = is_newer n m
is_newer_if_any (Some n) None = false
is_newer_if_any None m = false

-- a step leads to a newer version, by the serials of the two SOAs (RFC 1982)
abbrev pub is_to_newer : ZoneStep → Bool
is_to_newer s = is_newer_if_any (first_serial s.new_soa.records) (first_serial s.old_soa.records)

abbrev pub none_kept : Kept → Kept
none_kept k = record k { steps = [] }

-- What is kept behind the step to a new version, if there is one: with it, where that is newer; else nothing.
abbrev pub kept_behind : Option ZoneStep → Kept → Kept
kept_behind None k = none_kept k
kept_behind (Some s) k = if is_to_newer s then with_step k s else none_kept k

-- the step from one version to the next was put behind those that are kept, or all were forgotten
pub record IsNoted (origin : Name) (before after : Sets) (old new : Kept) : Type 0 where
  pub step : Option ZoneStep
  pub leads : IsStepIfAny origin before after step
  pub kept : new ≡ kept_behind step old
