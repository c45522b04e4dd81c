use Rattle.expiry_calls.proofs.ExpiryFacts.{expired_zones_arent_sent, expired_zones_fail}
use Rattle.expiry_calls.proofs.laws.expired_zones_fail.Goals as goal

pub returns-clause-asked : goal.returns-clause-asked
returns-clause-asked c = expired_zones_fail

pub returns-clause-sent : goal.returns-clause-sent
returns-clause-sent c = expired_zones_arent_sent
