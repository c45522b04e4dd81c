use Rattle.std.proofs.Common.{◌≡◌, ℕ, Option, true, false, cond, sym, ap, ◌∙◌, subst, true≢false}
use Rattle.std.specs.Prelude.{Some, None, is_some, IfSome, IfNone}
use Rattle.zone_proto.specs.Names.{Name}
use Rattle.zone_proto.specs.Sets.{RRset}
use Rattle.zone_proto.specs.Types.{NSEC3PARAM}
use Rattle.zone_proto.proofs.Names.Tree.{name_eq_itself}
use Rattle.zone_sha1.specs.Digests.{name_digest}
use Rattle.zone_map.specs.Zones.{Sets, set_at}
use Rattle.zone_denial.specs.Nsec3Sets.{announced_set, nsec3_sets_at}
use Rattle.zone_denial.specs.Nsec3Zones.{hash_with}
use Rattle.zone_planner.proofs.denials.made_nsec3.Goals as goal

pub returns-in-Some-clause-made : goal.returns-in-Some-clause-made
returns-in-Some-clause-made c =
    let origin = c.args.apex.now.name in
    let hash = hash_with name_digest c.args.parameters.now in
    let found = subst
    (λ (o : Option Sets). IfSome o (λ (m : Sets). (n : Name) (t : ℕ) → set_at m n t ≡ nsec3_sets_at origin c.args.records.now hash c.args.parameters.now c.ttl_and_serial-ttl.result.0 c.ttl_and_serial-ttl.result.1 n t))
    c.in-Some.is c.in-Ok.ensures.made in
    λ n t. found n t ∙ (λ i. nsec3_sets_at origin c.args.records.now hash c.args.parameters.now (c.ttl_and_serial-ttl.ensures i).0 (c.ttl_and_serial-ttl.ensures i).1 n t)

-- where no set is made, the origin owns NSEC3PARAM
pub returns-in-None-clause-made : goal.returns-in-None-clause-made
returns-in-None-clause-made c =
    let origin = c.args.apex.now.name in
    let m = c.args.records.now in
    let hash = hash_with name_digest c.args.parameters.now in
    let ttl = c.ttl_and_serial-ttl.result.0 in
    let serial = c.ttl_and_serial-ttl.result.1 in
    let announced : Option RRset = Some (announced_set origin m hash c.args.parameters.now ttl serial) in
    let stands = subst (λ (o : Option Sets). IfNone o (set_at m origin NSEC3PARAM ≡ nsec3_sets_at origin m hash c.args.parameters.now ttl serial origin NSEC3PARAM)) c.in-None.is c.in-Ok.ensures.announced in
    let same : nsec3_sets_at origin m hash c.args.parameters.now ttl serial origin NSEC3PARAM ≡ announced = ap (λ b. cond b announced None) (name_eq_itself origin) in
    absurd (true≢false (sym (ap is_some (stands ∙ same)) ∙ c.requires.unannounced))
