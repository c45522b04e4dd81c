-- The journal of a zone grows by what it gets of an update.
use Rattle.std.proofs.Common.{ℕ, List, ◌++◌, sym, ap, subst}
use Rattle.zone_map.specs.Zones.{Sets}
use Rattle.shown_zones.specs.Steps.{IsStep}
use Rattle.zone_journal.proofs.Growing.{journals_grow as grow}
use Rattle.held_updates.specs.Laws.{JournalsGrowByUpdates}

pub journals_grow : JournalsGrowByUpdates
journals_grow z u a bs journal framed is last =
    grow u.zone.origin a u.zone.inner.records bs journal (journal ++ u.frame.items) framed.1.step is framed.1.zone
    (subst (λ (m : Sets). IsStep u.zone.origin m u.zone.inner.records framed.1.step) (sym last) framed.1.leads)
    record { text = framed.1.put.text; put = ap (λ (o : List ℕ). journal ++ o) framed.1.put.put; within = framed.1.put.within; reads = framed.1.put.reads }
