use Rattle.std.proofs.Common.{List, ◌∙◌, sym, subst}
use Rattle.std.specs.Map.Iter.{TakesLast, deref}
use Rattle.zone_proto.specs.Names.{Name}
use Rattle.zone_denial.proofs.Hashed.CoverSets.{cover_before, cover_round}
use Rattle.zone_response.proofs.hashed_sets.cover_owner.Goals as goal

pub returns-in-Some-clause-found : goal.returns-in-Some-clause-found
returns-in-Some-clause-found c =
    let before = c.denial_owners_before-before.ensures in
    cover_before c.args.denials.now before.zone c.args.owner.now c.read_last.new.self c.in-Some.owner.now (sym before.value ∙ c.in-Some.ensures.last)

pub returns-in-None-clause-found : goal.returns-in-None-clause-found
returns-in-None-clause-found c =
    let all = c.last_denial_owners.ensures in
    cover_round c.args.denials.now all.zone c.args.owner.now (sym c.denial_owners_before-before.ensures.value ∙ c.in-None.ensures.last.0)
    c.read_last-in-None.result c.read_last-in-None.new.self
    (subst (λ (os : List Name). TakesLast deref os c.read_last-in-None.result c.read_last-in-None.new.self) all.value c.read_last-in-None.ensures.last)
