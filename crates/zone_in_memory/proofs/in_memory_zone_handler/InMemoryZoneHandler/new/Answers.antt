use Rattle.std.proofs.Common.{sym, subst}
use Rattle.zone_map.specs.Upserts.{CnamesStandAlone}
use Rattle.zone_in_memory.proofs.CnamesMade.{made_alone}
use Rattle.zone_in_memory.proofs.in_memory_zone_handler.InMemoryZoneHandler.new.Goals as goal

pub returns-clause-cnames : goal.returns-clause-cnames
returns-clause-cnames g c =
    rw c.with_records.ensures (subst CnamesStandAlone (sym c.in-Ok-compacted.ensures.ok) (made_alone c.args.origin c.args.records.entries c.in_ok-map.map c.in_ok-map.ensures.ok))
