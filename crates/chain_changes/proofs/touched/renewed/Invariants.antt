use Rattle.std.proofs.Common.{◌≡◌, take}
use Rattle.zone_proto.specs.Names.{Name}
use Rattle.update_in_place.specs.Parts.{is_among}
use Rattle.chain_changes.specs.Renewal.{is_renewed}
use Rattle.chain_changes.proofs.touched.renewed.Given as goal

-- those so far are those of the keys so far
abbrev pub invariant-loop-key : goal.invariant-loop-key
invariant-loop-key l = (n : Name) → is_among l.names.items n ≡ is_renewed l.origin l.zone (take l.key-index l.keys) n
