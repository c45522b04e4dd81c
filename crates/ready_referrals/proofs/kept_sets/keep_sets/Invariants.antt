use Rattle.std.proofs.Common.{map, take}
use Rattle.zone_response.specs.Sections.{sent_set}
use Rattle.ready_referrals.specs.Referrals.{AreSetsKept}
use Rattle.ready_referrals.proofs.kept_sets.keep_sets.Given as goal

-- the sets so far
abbrev pub invariant-loop-set : goal.invariant-loop-set
invariant-loop-set l = AreSetsKept l.cut (map sent_set (take l.set-index l.sets)) l.kept.items
