use Rattle.std.proofs.Common.{length}
use Rattle.zone_denial.proofs.nsec3_names.+push_new_ancestors.Given as goal

abbrev pub decreases-push_new_ancestors : goal.decreases-push_new_ancestors
decreases-push_new_ancestors l = length l.name.now
