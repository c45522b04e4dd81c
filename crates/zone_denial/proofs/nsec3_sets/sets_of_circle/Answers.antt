use Rattle.std.proofs.Common.{refl, ap, sym, ◌∙◌, cond}
use Rattle.std.specs.Prelude.{Some, None}
use Rattle.zone_proto.proofs.Names.NameTree.{name_eq-Decides}
use Rattle.zone_denial.specs.Nsec3Sets.{announced_set}
use Rattle.zone_denial.proofs.nsec3_sets.sets_of_circle.Goals as goal

pub returns-then-branch-2-clause-announced : goal.returns-then-branch-2-clause-announced
returns-then-branch-2-clause-announced c =
    let origin = c.args.origin.now in
    let set = announced_set origin c.args.records.now (λ _. None) c.args.parameters.now c.args.ttl c.args.serial in
    c.in_ok-is_announced.ensures.standing c.if-branch.true ∙ sym (ap (λ b. cond b (Some set) None) ((name_eq-Decides origin origin).1 refl))
