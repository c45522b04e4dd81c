use Rattle.std.proofs.Common.{◌≡◌, drop, length}
use Rattle.zone_proto.specs.Names.{IsAbove}
use Rattle.zone_denial.specs.NsecDenial.{nsec_encloser}
use Rattle.zone_denial.proofs.denial.enclosed_wildcard.Given as goal

-- the encloser is that of the name that the walk is at, which is below the origin
abbrev pub invariant-loop-next_closer : goal.invariant-loop-next_closer
invariant-loop-next_closer l =
    record {
      above : l.above ≡ drop 1 l.next_closer;
      below : IsAbove l.origin l.next_closer;
      encloser : nsec_encloser l.origin l.records l.fn.name ≡ nsec_encloser l.origin l.records l.next_closer;
    }

abbrev pub decreases-loop-next_closer : goal.decreases-loop-next_closer
decreases-loop-next_closer l = length l.above
