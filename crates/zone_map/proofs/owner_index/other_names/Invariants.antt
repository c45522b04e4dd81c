use Rattle.zone_map.proofs.OtherOwners.{AreLeft}
use Rattle.zone_map.proofs.owner_index.other_names.Given as goal

-- an owner is among the names, or that of an entry that is left, where it is that of any entry
abbrev pub invariant-loop-key : goal.invariant-loop-key
invariant-loop-key l = AreLeft l.names.items l.key-iterator l.sets
