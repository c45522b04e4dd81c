use Rattle.std.proofs.Common.{◌+◌, map, drop, ap}
use Rattle.std.proofs.Math.ListN.{drop_of_length-le}
use Rattle.std.proofs.lemmas.List.{drop_more}
use Rattle.zone_proto.specs.declared.record_type.RecordType.{RecordType}
use Rattle.zone_proto.proofs.Members.{Contains-In}
use Rattle.zone_verify.specs.ChainSets.{sets_of}
use Rattle.zone_verify.specs.Lists.{MayBeListed}
use Rattle.zone_verify.proofs.Passing.{passed, all_passed}
use Rattle.zone_verify.proofs.lists.check_list.Goals as goal

pub loop-record_type-preserved : goal.loop-record_type-preserved
loop-record_type-preserved c =
    let types = c.args.types.now in
    let i = c.loop-record_type.record_type-index in
    passed (MayBeListed c.args.sets.now.records.now (sets_of c.args.sets.now) c.args.site.now.name.now c.args.site.now.is_delegation) (map (λ (u : RecordType). u.0) types)
    (map (λ (u : RecordType). u.0) (drop i types)) (map (λ (u : RecordType). u.0) (drop (i + 1) types)) _
    (ap (map (λ (u : RecordType). u.0)) (drop_more types i _ c.loop-record_type-test.true)) c.in_ok-check_listed.ensures.ok c.loop-record_type.invariant

pub returns : goal.returns
returns c = record {
  ok = λ t l.
      let types = c.args.types.now in
      all_passed (MayBeListed c.args.sets.now.records.now (sets_of c.args.sets.now) c.args.site.now.name.now c.args.site.now.is_delegation) (map (λ (u : RecordType). u.0) types)
      (map (λ (u : RecordType). u.0) (drop c.loop-record_type.record_type-index types))
      (ap (map (λ (u : RecordType). u.0)) (drop_of_length-le types c.loop-record_type-test.false)) c.loop-record_type.invariant t (Contains-In t (map (λ (u : RecordType). u.0) types) l);
}
