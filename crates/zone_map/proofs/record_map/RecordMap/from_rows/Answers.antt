use Rattle.std.proofs.Common.{sym, subst}
use Rattle.zone_map.specs.Zones.{IsZone}
use Rattle.zone_map.proofs.Entries.{IsZone-rows}
use Rattle.zone_map.proofs.record_map.RecordMap.from_rows.Goals as goal

pub with_index-requires : goal.with_index-requires
with_index-requires c = subst IsZone (sym c.in_ok-of_rows.ensures) (IsZone-rows c.args.rows.items c.requires.ordered c.requires.stored)

pub returns-clause-zone : goal.returns-clause-zone
returns-clause-zone c = IsZone-rows c.args.rows.items c.requires.ordered c.requires.stored

pub returns-in_err-of_rows-clause-zone : goal.returns-in_err-of_rows-clause-zone
returns-in_err-of_rows-clause-zone c = IsZone-rows c.args.rows.items c.requires.ordered c.requires.stored
