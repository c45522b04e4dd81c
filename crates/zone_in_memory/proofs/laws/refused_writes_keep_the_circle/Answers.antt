use Rattle.zone_in_memory.proofs.KeptCircles.{untaken_keeps, refused_key_keeps, refused_securing_keeps}
use Rattle.zone_in_memory.proofs.laws.refused_writes_keep_the_circle.Goals as goal

pub returns-clause-insertion : goal.returns-clause-insertion
returns-clause-insertion g c = untaken_keeps

pub returns-clause-key : goal.returns-clause-key
returns-clause-key g c = refused_key_keeps

pub returns-clause-securing : goal.returns-clause-securing
returns-clause-securing g c = refused_securing_keeps
