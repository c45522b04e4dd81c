use Rattle.update_laws.proofs.UpdatedZones.{updated_denies_by_nsec3, updated_proves_by_hashes}
use Rattle.update_laws.proofs.laws.updated_zones_prove_by_hashes.Goals as goal

pub returns-clause-denies : goal.returns-clause-denies
returns-clause-denies c = updated_denies_by_nsec3

pub returns-clause-proves : goal.returns-clause-proves
returns-clause-proves c = updated_proves_by_hashes
