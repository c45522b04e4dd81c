use Rattle.std.proofs.Common.{◌≡◌, ◌++◌, drop}
use Rattle.hashed_changes.specs.Renewals.{owners_made}
use Rattle.hashed_changes.proofs.hashes.owners_made.Given as goal

-- those so far, and those of the ones that are left, are all
abbrev pub invariant-loop-renewal : goal.invariant-loop-renewal
invariant-loop-renewal l = l.owners.items ++ owners_made (drop l.renewal-index l.made) ≡ owners_made l.made
