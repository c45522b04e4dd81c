use Rattle.std.proofs.Common.{sym, ap, subst}
use Rattle.zone_proto.specs.Results.{IsInsertion}
use Rattle.zone_frozen.specs.Sets.{Sets, inserted_under}
use Rattle.zone_frozen.proofs.Inserted.{belongs_found, inserted_absent, inserted_found}
use Rattle.zone_frozen.proofs.set_map.insert_in.Goals as goal

pub insert-requires-clause-owner : goal.insert-requires-clause-owner
insert-requires-clause-owner c = (belongs_found c.args.key.now c.args.map.now.entries c.in-Some.set.now (sym c.in-Some.ensures.value) c.args.new c.requires).0

pub insert-requires-clause-kind : goal.insert-requires-clause-kind
insert-requires-clause-kind c = (belongs_found c.args.key.now c.args.map.now.entries c.in-Some.set.now (sym c.in-Some.ensures.value) c.args.new c.requires).1

pub returns-in-Some-clause-inserted : goal.returns-in-Some-clause-inserted
returns-in-Some-clause-inserted c =
    let m = c.args.map.now.entries in
    subst (λ (n : Sets). IsInsertion m (inserted_under c.args.new c.args.serial c.args.key.now m) c.insert.result n) (sym (c.get_mut.follows.holds c.insert.new.self).0)
    (inserted_found c.args.key.now m c.in-Some.set.now (sym c.in-Some.ensures.value) c.args.new c.args.serial c.insert.result c.insert.new.self c.insert.ensures)

pub returns-in-None-clause-inserted : goal.returns-in-None-clause-inserted
returns-in-None-clause-inserted c =
    let m = c.args.map.now.entries in
    subst (λ (n : Sets). IsInsertion m (inserted_under c.args.new c.args.serial c.args.key.now m) _ n) (sym (ap (λ n. n.entries) c.get_mut.follows.holds-at-none))
    (inserted_absent c.args.key.now m c.args.new c.args.serial (sym c.in-None.ensures.value))
