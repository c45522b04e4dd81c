use Rattle.std.proofs.Common.{List, subst}
use Rattle.std.specs.Prelude.{Some}
use Rattle.zone_update.specs.Entries.{Gives}
use Rattle.zone_update.specs.declared.entry.Entry.{Entry}
use Rattle.update_permission.specs.Permissions.{updated_if_permitted}
use Rattle.update_in_place.proofs.permitted.permitted_alone.Goals as goal

pub returns : goal.returns
returns c =
    subst (λ (ps : List Entry). Gives c.updated_if_permitted.result (updated_if_permitted c.args.rules.now (Some c.args.key.now) c.args.origin.now c.args.zone.now ps c.args.changes.items))
    c.new-prerequisites.ensures.items c.updated_if_permitted.ensures
