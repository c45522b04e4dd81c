use Rattle.update_permission.proofs.GoingOn.{serials_go_on, what_is_given_is_the_update}
use Rattle.update_permission.proofs.laws.versions_have_serials.Goals as goal

pub returns-clause-given : goal.returns-clause-given
returns-clause-given c = what_is_given_is_the_update

pub returns-clause-serial : goal.returns-clause-serial
returns-clause-serial c = serials_go_on
