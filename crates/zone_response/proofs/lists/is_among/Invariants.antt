use Rattle.std.proofs.Common.{◌≡◌, false, map, take}
use Rattle.std.specs.List.{list_any}
use Rattle.zone_response.specs.Sections.{is_alike, sent_set}
use Rattle.zone_response.proofs.lists.is_among.Given as goal

-- none of those passed is alike
abbrev pub invariant-loop-item : goal.invariant-loop-item
invariant-loop-item l = list_any (is_alike l.set) (map sent_set (take l.item-index l.list)) ≡ false
