use Rattle.std.proofs.Common.{sym}
use Rattle.zone_proto.specs.Names.{lower}
use Rattle.transferred_zones.proofs.Made.{is_theirs}
use Rattle.transferred_zones.proofs.zone.zone_of.Goals as goal

pub returns-in-None-clause-ok : goal.returns-in-None-clause-ok
returns-in-None-clause-ok c =
    let loaded = c.in-Ok.ensures in
    is_theirs (lower c.args.origin) c.args.records.items c.in_ok-given.given.items c.in_ok-given.ensures c.in-Ok.loaded.records c.in-Ok.loaded.warnings.items
    loaded.sets loaded.zone loaded.cnames loaded.warnings loaded.faultless (sym c.in-None.ensures)
