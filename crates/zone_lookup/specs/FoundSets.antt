-- What is found in a zone: a set, whether it is lent or was made, and else whether the name or its wildcard exists
use Rattle.std.specs.Prelude.{◌≡◌, ℕ, Bool, true, false, ◌||◌, ⊤, List, [], map, Option, Some, None, option_map, option_and_then}
use Rattle.std.specs.declared.alloc.Global.{Global}
use Rattle.std.specs.declared.vec.Vec.{Vec}
use Rattle.zone_proto.specs.Names.{Name}
use Rattle.zone_proto.specs.Sets.{RRset}
use Rattle.zone_map.specs.Direct.{direct}
use Rattle.zone_map.specs.Wildcards.{exists, asked_wildcard_exists, found}
use Rattle.zone_map.specs.Zones.{Sets}
use Rattle.zone_lookup.specs.declared.found.Found.{Found}
use Rattle.zone_lookup.specs.declared.found.Found.TheVariants.{Stored, Made}
use Rattle.zone_lookup.specs.declared.found.Outcome.{Outcome}
use Rattle.zone_lookup.specs.declared.found.Outcome.TheVariants as outcome

abbrev pub found_set : Found → RRset
found_set (Stored s) = s.now
found_set (Made s) = s

-- the set where it is lent out of the zone
abbrev pub lent_set : Found → Option RRset
lent_set (Stored s) = Some s.now
lent_set (Made s) = None

-- the sets of a list that may be left out
abbrev pub listed_sets : Option (Vec Found Global) → List RRset
listed_sets None = []
listed_sets (Some sets) = map found_set sets.items

-- the set of an outcome
abbrev pub outcome_found : Outcome → Option Found
outcome_found (outcome.Found f) = Some f
outcome_found outcome.NoData = None
outcome_found outcome.NoName = None

-- a name exists, or the wildcard at its closest encloser does, which gives it all types that it has (RFC 4592 section
-- 2.2.1)
abbrev pub exists_or_wildcard : Sets → Name → Bool
exists_or_wildcard m n = exists m n || asked_wildcard_exists m n

-- an outcome without a set says whether it is so
abbrev pub SaysExists : Bool → Outcome → Type 0
SaysExists there (outcome.Found f) = ⊤
SaysExists there outcome.NoData = there ≡ true
SaysExists there outcome.NoName = there ≡ false

-- what is found for n and t: the found set, lent where it is the direct set; without one, whether n or its wildcard
-- exists
pub record IsOutcome (m : Sets) (signed : Bool) (n : Name) (t : ℕ) (outcome : Outcome) : Type 0 where
  pub set : option_map found_set (outcome_found outcome) ≡ found m signed n t
  pub lent : option_and_then lent_set (outcome_found outcome) ≡ direct m n t
  pub existence : SaysExists (exists_or_wildcard m n) outcome
