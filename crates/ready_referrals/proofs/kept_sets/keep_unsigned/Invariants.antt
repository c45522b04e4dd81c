use Rattle.std.proofs.Common.{map, take}
use Rattle.zone_response.specs.Sections.{sent_set}
use Rattle.zone_response.specs.declared.response.Sent.{Sent}
use Rattle.ready_referrals.specs.Referrals.{unsigned, AreSetsKept}
use Rattle.ready_referrals.proofs.kept_sets.keep_unsigned.Given as goal

-- the sets so far
abbrev pub invariant-loop-set : goal.invariant-loop-set
invariant-loop-set l = AreSetsKept l.cut (map (λ (s : Sent). unsigned (sent_set s)) (take l.set-index l.sets)) l.kept.items
