use Rattle.signed_versions.proofs.asking.begin_read.Goals as goal

pub returns-in-Ok-clause-made : goal.returns-in-Ok-clause-made
returns-in-Ok-clause-made c = c.begin_update.ensures.made
