use Rattle.std.proofs.Common.{◌⊎◌, drop, map}
use Rattle.std.specs.Prelude.{IfSome}
use Rattle.zone_proto.specs.declared.rr_key.RrKey.{RrKey}
use Rattle.zone_proto.proofs.Members.{In}
use Rattle.zone_verify.specs.ChainSets.{sets_of}
use Rattle.zone_verify.specs.NsecDenied.{IsDeniedBy}
use Rattle.zone_verify.specs.NsecNames.{IsNsecKey}
use Rattle.zone_verify.proofs.nsec.check_names.Given as goal

-- each key that isn't left is right
abbrev pub invariant-loop-key : goal.invariant-loop-key
invariant-loop-key l = record {
  last : IfSome l.last (IsDeniedBy l.origin l.sets.records.now (sets_of l.sets));
  passed : (k : RrKey) → In k (map (λ k. k.now) l.keys) → In k (map (λ k. k.now) (drop l.key-index l.keys)) ⊎ IsNsecKey l.origin l.sets.records.now (sets_of l.sets) k;
}
