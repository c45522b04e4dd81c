-- One step in place of steps of a zone from version to version (RFC 1995 section 5)
use Rattle.std.specs.Prelude.{◌==◌, if◌then◌else◌, List, [], ◌∷◌, length, fold, map, Option}
use Rattle.zone_proto.specs.Keys.{key}
use Rattle.zone_proto.specs.Names.{Name, lower}
use Rattle.zone_proto.specs.Sets.{RRset}
use Rattle.zone_proto.specs.declared.rr_key.RrKey.{RrKey}
use Rattle.zone_map.specs.Puts.{without_all}
use Rattle.zone_map.specs.Zones.{Sets, put, without}
use Rattle.shown_zones.specs.Steps.{Step, given_in, taken_in, IsStep, IsStepIfAny}
use Rattle.shown_zones.specs.declared.step.ZoneStep.{ZoneStep}

-- the key under which a set stands
abbrev pub key_of : RRset → RrKey
key_of s = key (lower s.owner) s.record_type

-- sets of which this one stands under its key; one without records is none
abbrev pub with_set : Sets → RRset → Sets
with_set m s = if length s.records == 0 then without m (lower s.owner) s.record_type else put m (lower s.owner) s.record_type s

-- ---- on the way over steps

-- sets behind a step: without those that stand under the keys of what it deletes, and with those that it adds
abbrev pub behind : Sets → Step → Sets
behind m s = fold with_set (without_all m (map key_of (taken_in s))) (given_in s)

-- the step back: what was added is deleted, and what was deleted is added
abbrev pub back : Step → Step
back s = record { old_soa = s.new_soa; deleted = s.added; new_soa = s.old_soa; added = s.deleted }

-- sets behind steps, one after the other
abbrev pub behind_all : Sets → List Step → Sets
behind_all m ss = fold behind m ss

-- sets before steps, from those behind them: each is undone, the last one first
abbrev pub before_all : Sets → List Step → Sets
before_all m [] = m
before_all m (s ∷ ss) = behind (before_all m ss) (back s)

-- ---- one in their place

-- Under the keys that steps have, before_all [] is what the version before them had, and behind_all [] what the version behind them has. The step from
-- the one to the other is that which the steps are condensed into.
abbrev pub IsCondensed : Name → List Step → Step → Type 0
IsCondensed origin ss s = IsStep origin (before_all [] ss) (behind_all [] ss) s

-- it is there, or one of the two has no SOA
abbrev pub IsCondensedIfAny : Name → List Step → Option ZoneStep → Type 0
IsCondensedIfAny origin ss s = IsStepIfAny origin (before_all [] ss) (behind_all [] ss) s
