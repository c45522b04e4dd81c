use Rattle.std.proofs.Common.{◌≡◌, map, take}
use Rattle.zone_response.specs.Sections.{sent_set}
use Rattle.ready_referrals.specs.Referrals.{unsigned}
use Rattle.ready_referrals.proofs.kept_sets.are_unsigned.Given as goal

-- those so far
abbrev pub invariant-loop-set : goal.invariant-loop-set
invariant-loop-set l = map unsigned (map sent_set (take l.set-index l.sets)) ≡ map sent_set (take l.set-index l.sets)
