use Rattle.std.proofs.Common.{◌≡◌, ◌⊎◌, map}
use Rattle.zone_proto.specs.declared.rr_key.RrKey.{RrKey}
use Rattle.zone_proto.specs.Sets.{RRset}
use Rattle.zone_proto.specs.Types.{NSEC}
use Rattle.zone_proto.proofs.Members.{In}
use Rattle.zone_verify.proofs.nsec.check_owners.Given as goal

-- each entry of NSEC that isn't left has one of the keys
abbrev pub invariant-loop-key : goal.invariant-loop-key
invariant-loop-key l = (e : RrKey × RRset) → In e l.records → In e l.key-iterator ⊎ (e.0.record_type.0 ≡ NSEC → In e.0 (map (λ k. k.now) l.keys))
