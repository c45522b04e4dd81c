use Rattle.std.proofs.Common.{refl}
use Rattle.std.specs.Prelude.{option_copied}
use Rattle.zone_proto.specs.Keys.{key}
use Rattle.zone_proto.specs.Types.{NSEC3}
use Rattle.zone_map.proofs.Owned.{set_of}
use Rattle.zone_denial.proofs.Chains.ChainSets.{sets_are, entry_of}
use Rattle.zone_verify.specs.ChainSets.{kind_of, sets_of}
use Rattle.zone_verify.proofs.Nsec3Links.{IsOwned}
use Rattle.zone_verify.proofs.Passing.{passed, all_passed}
use Rattle.zone_verify.proofs.nsec3_links.check_owners.Goals as goal

pub loop-key-preserved : goal.loop-key-preserved
loop-key-preserved c =
    let kind = kind_of (option_copied c.args.sets.now.parameters) in
    passed (IsOwned kind c.args.names.now) c.args.sets.now.records.now c.loop-key.key-iterator c.next.new.self (c.in-Some.key.now, c.in-Some.set.now)
    c.in-Some.ensures.steps c.in_ok-place.ensures c.loop-key.invariant

pub returns : goal.returns
returns c = λ o owned.
    let kind = kind_of (option_copied c.args.sets.now.parameters) in
    let all = c.args.sets.now.records.now in
    let found = set_of (sets_of c.args.sets.now) o NSEC3 owned in
    let there = (sets_are kind all c.iter-key-items.ensures.zone o NSEC3 found.0).0 found.1 in
    all_passed (IsOwned kind c.args.names.now) all c.loop-key.key-iterator c.in-None.ensures.steps.0 c.loop-key.invariant
    (key o NSEC3, found.0) (entry_of all (key o NSEC3) found.0 there.0) refl there.1
