use Rattle.std.proofs.Common.{◌≡◌, ◌++◌, map, drop}
use Rattle.zone_proto.specs.Names.{lower}
use Rattle.zone_update.specs.declared.entry.Entry.{Entry}
use Rattle.update_in_place.specs.Parts.{names_about}
use Rattle.update_in_place.proofs.parts.names_about.Given as goal

-- those so far, and those of the records that are left, are all
abbrev pub invariant-loop-change : goal.invariant-loop-change
invariant-loop-change l = l.names.items ++ map (λ (r : Entry). lower r.name) (drop l.change-index l.changes) ≡ names_about l.origin l.changes
