use Rattle.std.proofs.Common.{List, ◌∙◌, sym, ap, cond, subst}
use Rattle.std.specs.Prelude.{Some, is_some}
use Rattle.std.specs.Map.Iter.{TakesLast, deref}
use Rattle.zone_proto.specs.Names.{Name}
use Rattle.zone_map.specs.Counts.{one_more}
use Rattle.zone_denial.specs.Nsec3Denial.{cover_owner}
use Rattle.zone_denial.proofs.Hashed.CoverSets.{cover_before, cover_round, cover_counted}
use Rattle.zone_denial.proofs.nsec3_keys.cover_owner.Goals as goal

pub returns-in-Some-clause-found : goal.returns-in-Some-clause-found
returns-in-Some-clause-found c =
    let before = c.denial_owners_before-before.ensures in
    cover_before c.args.records.now before.zone c.args.hashed.now c.read_last.new.self c.in-Some.owner.now (sym before.value ∙ c.in-Some.ensures.last)

pub returns-in-Some-clause-counted : goal.returns-in-Some-clause-counted
returns-in-Some-clause-counted c =
    cover_counted (Some c.in-Some.owner) (cover_owner c.args.records.now c.args.hashed.now) c.args.reads.now c.read_last.new.reads
    (returns-in-Some-clause-found c) c.in-Some.ensures.counted

pub returns-in-None-clause-found : goal.returns-in-None-clause-found
returns-in-None-clause-found c =
    let all = c.last_denial_owners.ensures in
    cover_round c.args.records.now all.zone c.args.hashed.now (sym c.denial_owners_before-before.ensures.value ∙ c.in-None.ensures.last.0)
    c.read_last-in-None.result c.read_last-in-None.new.self
    (subst (λ (os : List Name). TakesLast deref os c.read_last-in-None.result c.read_last-in-None.new.self) all.value c.read_last-in-None.ensures.last)

pub returns-in-None-clause-counted : goal.returns-in-None-clause-counted
returns-in-None-clause-counted c =
    cover_counted c.read_last-in-None.result (cover_owner c.args.records.now c.args.hashed.now) c.args.reads.now c.read_last-in-None.new.reads
    (returns-in-None-clause-found c)
    (c.read_last-in-None.ensures.counted ∙ ap (λ n. cond (is_some c.read_last-in-None.result) (one_more n) n) c.in-None.ensures.counted)
