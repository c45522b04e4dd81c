use Rattle.std.proofs.Common.{◌≡◌, map, drop}
use Rattle.denial_validation.specs.Nsec3Parameters.{is_other_known}
use Rattle.denial_validation.proofs.nsec3_parameters.is_other_known.Given as goal

-- if there is one, it is among the records that are left
abbrev pub invariant-loop-lent : goal.invariant-loop-lent
invariant-loop-lent g l =
    is_other_known (g.H.Nsec3Hash.digest_of l.hash) l.apex l.name (map (λ r. r.now) l.records) l.parameters
    ≡ is_other_known (g.H.Nsec3Hash.digest_of l.hash) l.apex l.name (map (λ r. r.now) (drop l.lent-index l.records)) l.parameters
