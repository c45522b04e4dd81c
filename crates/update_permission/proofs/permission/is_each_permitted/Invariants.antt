use Rattle.std.proofs.Common.{◌≡◌, drop}
use Rattle.update_permission.specs.Permissions.{is_each_permitted}
use Rattle.update_permission.proofs.permission.is_each_permitted.Given as goal

-- those that are left are permitted just where all are
abbrev pub invariant-loop-entry : goal.invariant-loop-entry
invariant-loop-entry l =
    is_each_permitted l.rules l.key l.origin l.zone (drop l.entry-index l.changes) ≡ is_each_permitted l.rules l.key l.origin l.zone l.changes
