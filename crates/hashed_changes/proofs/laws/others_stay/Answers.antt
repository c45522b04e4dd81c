use Rattle.hashed_changes.proofs.OthersStay.{others_stay}
use Rattle.hashed_changes.proofs.laws.others_stay.Goals as goal

pub returns : goal.returns
returns c = others_stay
