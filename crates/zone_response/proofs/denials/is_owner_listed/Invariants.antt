use Rattle.std.proofs.Common.{Bor, ◌≡◌, false, take}
use Rattle.std.specs.List.{list_any}
use Rattle.zone_proto.specs.Names.{same_name}
use Rattle.zone_proto.specs.Sets.{RRset}
use Rattle.zone_response.proofs.denials.is_owner_listed.Given as goal

-- none of those passed has the owner
abbrev pub invariant-loop-listed : goal.invariant-loop-listed
invariant-loop-listed l = list_any (λ (b : Bor RRset). same_name b.now.owner l.set.owner) (take l.listed-index l.sets) ≡ false
