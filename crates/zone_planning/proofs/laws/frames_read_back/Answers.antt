use Rattle.zone_planning.proofs.Apart.{frames_back, signatures_apart}
use Rattle.zone_planning.proofs.SignedApart.{asked_are_some}
use Rattle.zone_planning.proofs.laws.frames_read_back.Goals as goal

pub returns-clause-frames : goal.returns-clause-frames
returns-clause-frames c = frames_back

pub returns-clause-some : goal.returns-clause-some
returns-clause-some c = asked_are_some

pub returns-clause-signatures : goal.returns-clause-signatures
returns-clause-signatures c = signatures_apart
