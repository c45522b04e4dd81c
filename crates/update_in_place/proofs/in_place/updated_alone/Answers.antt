use Rattle.std.proofs.Common.{List, subst}
use Rattle.zone_update.specs.Entries.{Gives}
use Rattle.zone_update.specs.Updates.{updated}
use Rattle.zone_update.specs.declared.entry.Entry.{Entry}
use Rattle.update_in_place.proofs.in_place.updated_alone.Goals as goal

pub returns : goal.returns
returns c =
    subst (λ (ps : List Entry). Gives c.updated.result (updated c.args.origin.now c.args.zone.now ps c.args.changes.items)) c.new-prerequisites.ensures.items c.updated.ensures
