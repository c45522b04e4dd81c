-- Affected owners that are passed in their order, and what lies around them
use Rattle.std.specs.Prelude.{◌≡◌, true, List, Option, Some, None}
use Rattle.std.specs.List.{Contains}
use Rattle.zone_proto.specs.HashedOwners.{hashed_owner}
use Rattle.zone_proto.specs.Names.{Name, name_cmp}
use Rattle.zone_proto.specs.Order.{is_before, is_upto}
use Rattle.zone_map.specs.Zones.{Sets}
use Rattle.hashed_changes.specs.Among.{is_among}
use Rattle.hashed_changes.specs.declared.around.Around.{Around}
use Rattle.hashed_changes.specs.declared.around.Passed.{Passed}
use Rattle.hashed_changes.specs.Around.{nearest_around}
use Rattle.hashed_changes.specs.Renewal.{owners_besides}
use Rattle.hashed_changes.specs.Standing.{IsFollowed}

-- what lies around an owner that is none of some: the nearest owner of NSEC3 before it, and the place by which that is followed; nothing where there is no such owner
abbrev pub IsAround : Name → Sets → List Name → Name → Option Around → Type 0
IsAround origin m some o None = nearest_around name_cmp (owners_besides m some) o ≡ None
IsAround origin m some o (Some a) =
    (nearest_around name_cmp (owners_besides m some) o ≡ Some a.nearest) × IsFollowed origin m some a.nearest a.kept.digest × (a.kept.owner ≡ hashed_owner origin a.kept.digest)

-- one of some owners with what lies around it
pub record IsPassed (origin : Name) (m : Sets) (some : List Name) (p : Passed) : Type 0 where
  pub among : is_among some p.owner ≡ true
  pub around : IsAround origin m some p.owner p.around

-- a name isn't before another one, and none of these owners stands between the two
pub record HasNoneBetween (owners : List Name) (last o : Name) : Type 0 where
  pub upto : is_upto name_cmp last o ≡ true
  pub none : (x : Name) → Contains owners x → is_before name_cmp x o ≡ true → is_upto name_cmp x last ≡ true
