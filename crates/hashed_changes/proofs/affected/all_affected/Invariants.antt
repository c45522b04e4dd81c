use Rattle.std.proofs.Common.{◌≡◌, ◌++◌, drop}
use Rattle.std.specs.Prelude.{flat_map}
use Rattle.hashed_changes.specs.AffectedNames.{affected_by}
use Rattle.hashed_changes.proofs.affected.all_affected.Given as goal

-- those so far, and those of the keys that are left, are all
abbrev pub invariant-loop-key : goal.invariant-loop-key
invariant-loop-key l = l.names.items ++ flat_map (affected_by l.origin l.zone) (drop l.key-index l.keys) ≡ flat_map (affected_by l.origin l.zone) l.keys
