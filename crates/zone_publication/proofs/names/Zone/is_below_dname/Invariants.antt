use Rattle.std.proofs.Common.{◌≡◌, length}
use Rattle.zone_publication.specs.Names.{is_below_dname}
use Rattle.zone_publication.proofs.names.Zone.is_below_dname.Given as goal

abbrev pub invariant-loop-ancestor : goal.invariant-loop-ancestor
invariant-loop-ancestor l = is_below_dname l.self.origin.now l.self.records.now l.ancestor ≡ is_below_dname l.self.origin.now l.self.records.now l.name

abbrev pub decreases-loop-ancestor : goal.decreases-loop-ancestor
decreases-loop-ancestor l = length l.ancestor
