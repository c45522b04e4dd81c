use Rattle.std.proofs.Common.{List, ap, ◌∙◌}
use Rattle.zone_proto.specs.Names.{Name}
use Rattle.hashed_changes.specs.Among.{is_among}
use Rattle.hashed_changes.proofs.AffectedFound.{all_found}
use Rattle.hashed_changes.proofs.affected.affected_names.Goals as goal

pub returns-clause-names : goal.returns-clause-names
returns-clause-names c = λ n.
    c.put_in_order.ensures.names n
    ∙ ap (λ (ns : List Name). is_among ns n) c.in_ok-names.ensures.ok
    ∙ all_found c.args.origin.now c.args.zone.now c.args.keys.now n
