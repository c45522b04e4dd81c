-- How many owners a search for the closest NSEC set reads
use Rattle.std.specs.Prelude.{◌≡◌, ℕ, ◌≤◌, true, List, length, filter}
use Rattle.std.specs.Option.{option_map_or}
use Rattle.zone_proto.specs.Names.{Name, name_cmp}
use Rattle.zone_proto.specs.Order.{is_upto}
use Rattle.zone_proto.specs.Types.{NSEC}
use Rattle.zone_map.specs.Counts.{counted_more}
use Rattle.zone_map.specs.DenialOwners.{denial_owners_upto}
use Rattle.zone_map.specs.Zones.{Sets, IsZone}
use Rattle.zone_denial.specs.NsecCircle.{IsNsecCircle}
use Rattle.zone_denial.specs.NsecDenial.{closest_owner}

-- the owners of NSEC that are read for x, from x back: down to the closest one, or all of them where none reaches x
abbrev pub owners_read : Sets → Name → List Name
owners_read m x = filter (λ o. option_map_or (λ closest. is_upto name_cmp closest o) (closest_owner m x) true) (denial_owners_upto m NSEC x)

-- a count grew by no more than a number
pub record GrewByAtMost (most before after : ℕ) : Type 0 where
  pub reads : ℕ
  pub at_most : reads ≤ most
  pub counted : after ≡ counted_more reads before

-- they are no more than the owners of NSEC that aren't after x
abbrev pub ReadsNoneAfter : Type 0
ReadsNoneAfter = (m : Sets) (x : Name) → length (owners_read m x) ≤ length (denial_owners_upto m NSEC x)

-- where the NSEC sets are a circle they are no more than one, for every name
abbrev pub CircleReadsOne : Type 0
CircleReadsOne = (origin : Name) (m : Sets) → IsZone m → IsNsecCircle origin m → (x : Name) → length (owners_read m x) ≤ 1
