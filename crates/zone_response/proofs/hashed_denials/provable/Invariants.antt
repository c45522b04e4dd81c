use Rattle.std.proofs.Common.{◌≡◌, ◌≤◌, ◌+◌, length}
use Rattle.std.specs.Prelude.{IfSome, Ok}
use Rattle.zone_proto.specs.Names.{base_name, suffixes}
use Rattle.zone_map.specs.Walks.{IsChild}
use Rattle.zone_response.specs.HashedDenials.{provable, tried, hash_of, hashed_by, have_owners}
use Rattle.zone_response.proofs.hashed_denials.provable.Given as goal

-- what is left to be tried, with what was tried, is what is tried from the first name on
abbrev pub invariant-loop-query : goal.invariant-loop-query
invariant-loop-query g l = record {
  child : IsChild l.child l.above;
  found :
      provable l.zone.origin.now l.zone.denials.now (hashed_by (hash_of g.H.Nsec3Hash.digest_of l.zone l.query)) (suffixes l.above)
      ≡ provable l.zone.origin.now l.zone.denials.now (hashed_by (hash_of g.H.Nsec3Hash.digest_of l.zone l.query)) (suffixes (base_name l.fn.child));
  before : IfSome l.before (λ h. hash_of g.H.Nsec3Hash.digest_of l.zone l.query h.name ≡ Ok h.owner);
  hashed :
      have_owners (hash_of g.H.Nsec3Hash.digest_of l.zone l.query) (tried l.zone.origin.now l.zone.denials.now (hashed_by (hash_of g.H.Nsec3Hash.digest_of l.zone l.query)) (suffixes l.above))
      ≡ have_owners (hash_of g.H.Nsec3Hash.digest_of l.zone l.query) (tried l.zone.origin.now l.zone.denials.now (hashed_by (hash_of g.H.Nsec3Hash.digest_of l.zone l.query)) (suffixes (base_name l.fn.child)));
  counted :
      l.hashes + length (tried l.zone.origin.now l.zone.denials.now (hashed_by (hash_of g.H.Nsec3Hash.digest_of l.zone l.query)) (suffixes l.above))
      ≤ l.fn.hashes + length (tried l.zone.origin.now l.zone.denials.now (hashed_by (hash_of g.H.Nsec3Hash.digest_of l.zone l.query)) (suffixes (base_name l.fn.child)));
}

abbrev pub decreases-loop-query : goal.decreases-loop-query
decreases-loop-query g l = length l.above
