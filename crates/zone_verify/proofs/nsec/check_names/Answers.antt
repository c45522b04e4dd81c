use Rattle.std.proofs.Common.{List, map, drop, ap}
use Rattle.std.proofs.Math.ListN.{drop_of_length-le}
use Rattle.std.specs.Borrow.{Bor}
use Rattle.zone_proto.specs.declared.rr_key.RrKey.{RrKey}
use Rattle.zone_proto.proofs.Members.{Contains-In}
use Rattle.zone_verify.specs.ChainSets.{sets_of}
use Rattle.zone_verify.specs.NsecNames.{IsNsecKey}
use Rattle.zone_verify.proofs.Passing.{all_passed}
use Rattle.zone_verify.proofs.nsec.check_names.Goals as goal

pub returns : goal.returns
returns c = λ k i.
    let keys : List (Bor RrKey) = c.args.keys.now in
    let names : List RrKey = map (λ k. k.now) keys in
    all_passed (IsNsecKey c.args.origin.now c.args.sets.now.records.now (sets_of c.args.sets.now)) names (map (λ (k : Bor RrKey). k.now) (drop c.loop-key.key-index keys))
    (ap (map (λ (k : Bor RrKey). k.now)) (drop_of_length-le keys c.loop-key-test.false)) c.loop-key.invariant.passed k (Contains-In k names i)
