use Rattle.update_laws.proofs.UpdatedZones.{updated_denies_by_nsec, updated_proves_what_it_says}
use Rattle.update_laws.proofs.laws.updated_zones_prove_what_they_say.Goals as goal

pub returns-clause-denies : goal.returns-clause-denies
returns-clause-denies c = updated_denies_by_nsec

pub returns-clause-proves : goal.returns-clause-proves
returns-clause-proves c = updated_proves_what_it_says
