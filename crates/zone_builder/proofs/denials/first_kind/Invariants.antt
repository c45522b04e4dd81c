use Rattle.std.proofs.Common.{◌≡◌, drop}
use Rattle.zone_builder.specs.DenialKinds.{first_kind}
use Rattle.zone_builder.proofs.denials.first_kind.Given as goal

-- of the records that were passed none announces a chain
abbrev pub invariant-loop-record : goal.invariant-loop-record
invariant-loop-record g l =
    let kind = first_kind l.origin l.records (g.H.Nsec3Hash.digest_of l.hash) in
    kind (drop l.record-index l.announced) ≡ kind l.announced
