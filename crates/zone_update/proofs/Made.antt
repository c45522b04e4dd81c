-- What a change makes, as its call answers
use Rattle.std.proofs.Common.{◌≡◌, true, false, sym, ap, Ok}
use Rattle.std.specs.Prelude.{Option, Some, None, is_some, unwrap_or}
use Rattle.zone_proto.specs.Results.{IsInsertion}
use Rattle.zone_map.specs.Zones.{Sets}

pub nothing_made : (old : Sets) (made : Option Sets) → made ≡ None → IsInsertion old made (Ok false) old
nothing_made old made e = record { answer = sym (ap is_some e); after = sym (ap (λ o. unwrap_or o old) e); err = tt; same = tt }

pub something_made : (old new : Sets) (made : Option Sets) → made ≡ Some new → IsInsertion old made (Ok true) new
something_made old new made e = record { answer = sym (ap is_some e); after = sym (ap (λ o. unwrap_or o old) e); err = tt; same = tt }
