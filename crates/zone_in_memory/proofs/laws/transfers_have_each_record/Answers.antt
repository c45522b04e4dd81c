use Rattle.std.proofs.Common.{sym, subst}
use Rattle.std.specs.List.{Contains, IsDistinct}
use Rattle.zone_proto.specs.Records.{same_record}
use Rattle.zone_in_memory.proofs.TransferLaws.{begins_and_ends, each_stored, stored_each, none_twice}
use Rattle.zone_in_memory.proofs.laws.transfers_have_each_record.Goals as goal

pub returns-clause-ends : goal.returns-clause-ends
returns-clause-ends c = λ sign origin m options t s zone soa is. begins_and_ends m origin s zone soa sign options t is

pub returns-clause-each : goal.returns-clause-each
returns-clause-each c = λ sign origin m options t zone is r. (
  λ h. each_stored m options r zone (subst (λ rs. Contains rs r) is.records h),
  λ w. subst (λ rs. Contains rs r) (sym is.records) (stored_each m options r w.0 w.1 w.2 w.3 w.4 w.5),
)

pub returns-clause-once : goal.returns-clause-once
returns-clause-once c = λ sign origin m t zone is. subst (IsDistinct same_record) (sym is.records) (none_twice m zone)
