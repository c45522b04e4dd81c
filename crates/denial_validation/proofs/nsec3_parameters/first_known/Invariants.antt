use Rattle.std.proofs.Common.{◌≡◌, map, drop, find}
use Rattle.denial_validation.specs.Nsec3Parameters.{is_known, nsec3_datas}
use Rattle.denial_validation.proofs.nsec3_parameters.first_known.Given as goal

-- the first is that of the records that are left
abbrev pub invariant-loop-lent : goal.invariant-loop-lent
invariant-loop-lent g l =
    find (is_known (g.H.Nsec3Hash.digest_of l.hash) l.apex l.name) (nsec3_datas l.apex (map (λ r. r.now) l.records))
    ≡ find (is_known (g.H.Nsec3Hash.digest_of l.hash) l.apex l.name) (nsec3_datas l.apex (map (λ r. r.now) (drop l.lent-index l.records)))
