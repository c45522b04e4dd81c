use Rattle.std.proofs.Common.{◌≡◌, map, take}
use Rattle.zoned.specs.Keyed.{name_of}
use Rattle.zoned.proofs.keyed.key_names.Given as goal

-- those of the keys so far
abbrev pub invariant-loop-key : goal.invariant-loop-key
invariant-loop-key l = l.names.items ≡ map name_of (take l.key-index l.keys)
