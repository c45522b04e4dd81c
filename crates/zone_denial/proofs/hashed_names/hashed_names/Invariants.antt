use Rattle.std.proofs.Common.{take}
use Rattle.zone_denial.specs.Nsec3Zones.{hash_with}
use Rattle.zone_denial.proofs.Hashed.HashedNames.{HashedSoFar}
use Rattle.zone_denial.proofs.hashed_names.hashed_names.Given as goal

-- the names passed have digests, and these are held
abbrev pub invariant-loop-name : goal.invariant-loop-name
invariant-loop-name g l = HashedSoFar (hash_with (g.H.Nsec3Hash.digest_of l.hash) l.parameters) (take l.name-index l.names) l.held.items
