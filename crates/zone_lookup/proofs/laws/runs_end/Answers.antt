use Rattle.zone_lookup.proofs.AdditionalLaws.{one_run, no_name_twice, run_is_short, searches_are_few}
use Rattle.zone_lookup.proofs.laws.runs_end.Goals as goal

pub returns-clause-one : goal.returns-clause-one
returns-clause-one c = one_run

pub returns-clause-distinct : goal.returns-clause-distinct
returns-clause-distinct c = no_name_twice

pub returns-clause-at_most : goal.returns-clause-at_most
returns-clause-at_most c = run_is_short

pub returns-clause-together : goal.returns-clause-together
returns-clause-together c = searches_are_few
