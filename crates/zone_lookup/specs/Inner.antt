-- The record sets of a zone and its signers, as contracts see them
use Rattle.std.specs.Prelude.{List}
use Rattle.zone_map.specs.Zones.{Sets}

-- the record sets of a zone, and the signers that sign them, in order
pub record Inner (S : Type 0) : Type 0 where
  pub records : Sets
  pub signers : List S
