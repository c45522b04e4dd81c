use Rattle.zone_lookup.proofs.RunFronts.{run_is_longest_front}
use Rattle.zone_lookup.proofs.laws.run_is_longest_front.Goals as goal

pub returns : goal.returns
returns c = run_is_longest_front
