use Rattle.update_signing.proofs.Courses.{permitted_is_prepared, refused_alike}
use Rattle.update_signing.proofs.laws.permitted_updates_are_prepared.Goals as goal

pub returns-clause-prepared : goal.returns-clause-prepared
returns-clause-prepared c = permitted_is_prepared

pub returns-clause-refused : goal.returns-clause-refused
returns-clause-refused c = refused_alike
