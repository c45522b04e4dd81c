use Rattle.signed_in_place.proofs.DerivedStay.{derived_sets_stay}
use Rattle.signed_in_place.proofs.laws.derived_sets_stay.Goals as goal

pub returns : goal.returns
returns c = derived_sets_stay
