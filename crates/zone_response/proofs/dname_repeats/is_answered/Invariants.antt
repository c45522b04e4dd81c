use Rattle.std.proofs.Common.{◌≡◌, false, map, take}
use Rattle.std.specs.List.{list_any}
use Rattle.zone_response.specs.Paths.{is_sought}
use Rattle.zone_response.specs.Sections.{sent_set}
use Rattle.zone_response.proofs.dname_repeats.is_answered.Given as goal

-- none of those passed tells
abbrev pub invariant-loop-item : goal.invariant-loop-item
invariant-loop-item l = list_any (is_sought l.record_type.0 l.name) (map sent_set (take l.item-index l.answers)) ≡ false
