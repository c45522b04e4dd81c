use Rattle.std.proofs.Common.{◌≡◌, ◌++◌, length, drop}
use Rattle.std.specs.Prelude.{Ok}
use Rattle.zone_proto.specs.Names.{Name}
use Rattle.zone_denial.specs.Nsec3Denial.{encloser_of}
use Rattle.zone_denial.specs.Nsec3Lent.{hashed_for}
use Rattle.zone_denial.proofs.nsec3_denial.closest_encloser.Given as goal

-- the encloser is that of the name that the walk is at, which has the last labels of the whole, and whose hashed owner is at hand
abbrev pub invariant-loop-above : goal.invariant-loop-above
invariant-loop-above g l =
    record {
      owner : hashed_for l.hashing.origin.now (g.H.Nsec3Hash.digest_of l.hashing.hash.now) l.hashing.query.now l.next_closer ≡ Ok l.closer_owner;
      above : l.above ≡ drop 1 l.next_closer;
      passed : (front : Name) × (l.name ≡ front ++ l.next_closer);
      encloser :
          encloser_of l.records (hashed_for l.hashing.origin.now (g.H.Nsec3Hash.digest_of l.hashing.hash.now) l.hashing.query.now) l.name
          ≡ encloser_of l.records (hashed_for l.hashing.origin.now (g.H.Nsec3Hash.digest_of l.hashing.hash.now) l.hashing.query.now) l.next_closer;
    }

abbrev pub decreases-loop-above : goal.decreases-loop-above
decreases-loop-above g l = length l.above
