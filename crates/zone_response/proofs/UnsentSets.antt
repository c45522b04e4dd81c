-- What isn't sent isn't looked up
use Rattle.std.proofs.Common.{◌≡◌, Bool, true, false, cond, List, [], ◌++◌, refl, ap}
use Rattle.std.specs.Prelude.{Option, None}
use Rattle.zone_proto.specs.Names.{Name}
use Rattle.zone_proto.specs.Sets.{RRset}
use Rattle.zone_response.specs.Queries.{Zone}
use Rattle.zone_response.specs.Responses.{end_sets, hashed_with, lacks_proofs_with, authority_sets_with}
use Rattle.zone_response.specs.Steps.{End, complete, referred, missing, outside, unfollowed, too_long, failed}

unsent : (ds other : Option RRset) (soa : RRset) (e : End) → end_sets ds false soa e ≡ end_sets other false soa e
unsent ds other soa complete = refl
unsent ds other soa (referred c) = refl
unsent ds other soa (missing x wildcard_name there) = refl
unsent ds other soa (outside x) = refl
unsent ds other soa unfollowed = refl
unsent ds other soa too_long = refl
unsent ds other soa failed = refl

-- where the query doesn't ask for DNSSEC, the DS set of a child is of no account
module _ (z : Zone) (ds : Option RRset) (made : List Name) (e : End) where
  pub unsent_ds : (signed : Bool) (soa : RRset) → authority_sets_with z (cond signed ds None) signed soa made e ≡ authority_sets_with z ds signed soa made e
  unsent_ds true soa = refl
  unsent_ds false soa = ap (λ (sets : List RRset). sets ++ []) (unsent None ds soa e)

  pub unhashed_ds : (signed : Bool) → hashed_with z (cond signed ds None) signed made e ≡ hashed_with z ds signed made e
  unhashed_ds true = refl
  unhashed_ds false = refl

  pub unproved_ds : (signed : Bool) → lacks_proofs_with z (cond signed ds None) signed made e ≡ lacks_proofs_with z ds signed made e
  unproved_ds true = refl
  unproved_ds false = refl
