-- The steps that are kept of zones
use Rattle.std.specs.Prelude.{◌≡◌, ℕ, [], Option, Some, None, if◌then◌else◌}
use Rattle.std.specs.Arc.{arc_value}
use Rattle.std.specs.BTreeMap.{get}
use Rattle.std.specs.Ordering.{eq_by_cmp}
use Rattle.zone_proto.specs.Names.{Name, name_cmp}
use Rattle.zone_map.specs.Zones.{Sets}
use Rattle.zone_database.specs.declared.zone.Zone.{Zone}
use Rattle.step_answers.specs.Noting.{IsNoted}
use Rattle.held_steps.specs.declared.histories.HeldSteps.{HeldSteps}
use Rattle.held_steps.specs.declared.history.ZoneHistory.{ZoneHistory}

-- the sets of a version
abbrev pub sets_in : Zone → Sets
sets_in z = z.inner.records

-- what is kept of the zone of an origin
abbrev pub history_of : HeldSteps → Name → Option ZoneHistory
history_of s origin = get name_cmp s.histories origin

-- nothing is kept of any zone
abbrev pub HasNone : HeldSteps → Type 0
HasNone s = (n : Name) → history_of s n ≡ None

-- how many records the steps of one zone may have
abbrev pub most_in : HeldSteps → ℕ
most_in s = s.most

-- this is kept of the zone of an origin, and of all others what was before
abbrev pub IsPut : Name → Option ZoneHistory → (Name → Option ZoneHistory) → (Name → Option ZoneHistory) → Type 0
IsPut origin h old new = (n : Name) → new n ≡ (if eq_by_cmp name_cmp origin n then h else old n)

-- the same is kept of each zone
pub record IsSame (old new : HeldSteps) : Type 0 where
  pub histories : (n : Name) → history_of new n ≡ history_of old n
  pub most : most_in new ≡ most_in old

-- a version is kept alone
pub record IsBegun (z : Zone) (most : ℕ) (h : ZoneHistory) : Type 0 where
  pub newest : arc_value h.newest ≡ z
  pub steps : h.steps ≡ record { most = most; steps = [] }

-- the next version is kept, and the step to it behind those that were
pub record IsNext (z : Zone) (old h : ZoneHistory) : Type 0 where
  pub newest : arc_value h.newest ≡ z
  pub steps : IsNoted z.origin (sets_in (arc_value old.newest)) (sets_in z) old.steps h.steps

-- what is kept of a zone behind a version: that alone where nothing was kept, and else the next one
abbrev pub IsBehind : Zone → ℕ → Option ZoneHistory → ZoneHistory → Type 0
IsBehind z most None h = IsBegun z most h
IsBehind z most (Some old) h = IsNext z old h

-- a version was taken in
pub record IsNotedIn (z : Zone) (old new : HeldSteps) : Type 0 where
  pub history : ZoneHistory
  pub behind : IsBehind z (most_in old) (history_of old z.origin) history
  pub put : IsPut z.origin (Some history) (history_of old) (history_of new)
  pub most : most_in new ≡ most_in old
