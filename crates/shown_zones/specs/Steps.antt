-- A step of a zone from one version to the next, in the parts of RFC 1995 section 4: the older SOA, the sets that are deleted, the newer
-- SOA, and the sets that are added
use Rattle.std.specs.Prelude.{◌≡◌, ◌⊎◌, Bool, not, ◌&&◌, List, [], ◌∷◌, ◌++◌, map, filter, Option, Some, None, Result, Ok}
use Rattle.std.specs.Map.{lookup}
use Rattle.zone_proto.specs.Keys.{key, key_eq}
use Rattle.zone_proto.specs.Names.{Name}
use Rattle.zone_proto.specs.Sets.{RRset}
use Rattle.zone_proto.specs.Types.{SOA}
use Rattle.zone_proto.specs.declared.rr_key.RrKey.{RrKey}
use Rattle.zone_map.specs.Zones.{Sets, set_at}
use Rattle.zone_difference.specs.Differences.{◌>>=◌, applied, same_at}
use Rattle.zone_difference.specs.declared.error.DifferenceError.{DifferenceError}
use Rattle.shown_zones.specs.Shown.{shown_if, shown_set}
use Rattle.shown_zones.specs.declared.step.ZoneStep.{ZoneStep}

pub record Step : Type 0 where
  pub old_soa : RRset
  pub deleted : List RRset
  pub new_soa : RRset
  pub added : List RRset

abbrev pub step_of : ZoneStep → Step
step_of s = record { old_soa = s.old_soa; deleted = s.deleted.items; new_soa = s.new_soa; added = s.added.items }

-- the step as answers show it
abbrev pub shown_step : Step → Step
shown_step s = record {
  old_soa = shown_set s.old_soa;
  deleted = map shown_set s.deleted;
  new_soa = shown_set s.new_soa;
  added = map shown_set s.added;
}

-- ---- the step between two versions

-- answers show an equal set of the zone under the same key
abbrev pub shows : Sets → (RrKey × RRset) → Bool
shows m e = same_at (shown_if (lookup (key_eq e.0) m)) (Some (shown_set e.1))

-- a set that another version doesn't show, other than the one under the key of the SOA
abbrev pub is_changed : RrKey → Sets → (RrKey × RRset) → Bool
is_changed soa other e = not (key_eq soa e.0) && not (shows other e)

-- these sets of a version, in the order of their keys
abbrev pub changed : RrKey → Sets → Sets → List RRset
changed soa m other = map (λ e. e.1) (filter (is_changed soa other) m)

-- A step leads from one version to the other: it has both SOAs, the other sets of the first that the second doesn't show, and the other
-- sets of the second that the first doesn't show.
pub record IsStep (origin : Name) (a b : Sets) (s : Step) : Type 0 where
  pub old_soa : set_at a origin SOA ≡ Some s.old_soa
  pub deleted : s.deleted ≡ changed (key origin SOA) a b
  pub new_soa : set_at b origin SOA ≡ Some s.new_soa
  pub added : s.added ≡ changed (key origin SOA) b a

-- the step, or none where one of the versions has no SOA
abbrev pub IsStepIfAny : Name → Sets → Sets → Option ZoneStep → Type 0
IsStepIfAny origin a b None = (set_at a origin SOA ≡ None) ⊎ (set_at b origin SOA ≡ None)
IsStepIfAny origin a b (Some s) = IsStep origin a b (step_of s)

-- ---- what steps make of a zone

-- the sets of a step that are taken out, the SOA first
abbrev pub taken_in : Step → List RRset
taken_in s = s.old_soa ∷ s.deleted

-- the sets of a step that are given, the SOA last
abbrev pub given_in : Step → List RRset
given_in s = s.added ++ s.new_soa ∷ []

-- the zone after a step, or the first fault
abbrev pub stepped : Sets → Step → Result Sets DifferenceError
stepped m s = applied m (taken_in s) (given_in s)

-- the zone after steps, one after the other
unfoldable pub all_stepped : Sets → List Step → Result Sets DifferenceError
all_stepped m [] = Ok m
all_stepped m (s ∷ ss) = stepped m s >>= λ n. all_stepped n ss
