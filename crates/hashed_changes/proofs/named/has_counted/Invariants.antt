use Rattle.std.proofs.Common.{◌≡◌}
use Rattle.hashed_changes.specs.Counting.{counts, has_counted}
use Rattle.hashed_changes.proofs.NamesFrom.{any_below}
use Rattle.hashed_changes.proofs.named.has_counted.Given as goal

-- of the entries that are left one counts exactly if one does at all
abbrev pub invariant-loop-key : goal.invariant-loop-key
invariant-loop-key l = any_below (counts l.origin l.zone l.opt_out) l.name l.key-iterator ≡ has_counted l.origin l.zone l.opt_out l.name
