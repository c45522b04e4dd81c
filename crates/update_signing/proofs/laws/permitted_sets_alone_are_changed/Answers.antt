use Rattle.update_signing.proofs.Courses.{permitted_sets_alone_are_changed}
use Rattle.update_signing.proofs.SignedRecords.{permitted_records_alone_change}
use Rattle.update_signing.proofs.laws.permitted_sets_alone_are_changed.Goals as goal

pub returns-clause-before : goal.returns-clause-before
returns-clause-before c = permitted_sets_alone_are_changed

pub returns-clause-signed : goal.returns-clause-signed
returns-clause-signed c = permitted_records_alone_change
