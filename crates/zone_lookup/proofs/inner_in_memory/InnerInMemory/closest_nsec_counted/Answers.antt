use Rattle.std.proofs.Common.{subst}
use Rattle.zone_map.specs.Zones.{IsZone}
use Rattle.zone_denial.proofs.Chain.CircleReads.{none_after, circle_reads_one}
use Rattle.zone_lookup.proofs.inner_in_memory.InnerInMemory.closest_nsec_counted.Goals as goal

pub returns-clause-most : goal.returns-clause-most
returns-clause-most g c = none_after c.args.self.now.records c.args.name.now

pub returns-clause-circle : goal.returns-clause-circle
returns-clause-circle g c = λ origin circle. circle_reads_one origin c.args.self.now.records (subst (λ z. IsZone z.records) c.self.view_is c.self.invariant) circle c.args.name.now

pub returns-in_err-closest_nsec_counted-clause-most : goal.returns-in_err-closest_nsec_counted-clause-most
returns-in_err-closest_nsec_counted-clause-most g c = none_after c.args.self.now.records c.args.name.now

pub returns-in_err-closest_nsec_counted-clause-circle : goal.returns-in_err-closest_nsec_counted-clause-circle
returns-in_err-closest_nsec_counted-clause-circle g c = λ origin circle. circle_reads_one origin c.args.self.now.records (subst (λ z. IsZone z.records) c.self.view_is c.self.invariant) circle c.args.name.now
