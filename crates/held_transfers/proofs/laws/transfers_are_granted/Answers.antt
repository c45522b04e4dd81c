use Rattle.held_transfers.proofs.Granted.{transfers_are_granted}
use Rattle.held_transfers.proofs.laws.transfers_are_granted.Goals as goal

-- the law as it is proved of the definitions
pub returns : goal.returns
returns c = transfers_are_granted
