use Rattle.std.proofs.Common.{sym, ap, ◌∙◌}
use Rattle.std.specs.Ordering.{nat_cmp}
use Rattle.zone_proto.specs.declared.rr_key.RrKey.{RrKey}
use Rattle.zone_proto.specs.Types.{NSEC, RRSIG}
use Rattle.zone_proto.proofs.Ordering.Orders.{number_order}
use Rattle.zone_map.specs.Zones.{types_at, Sets}
use Rattle.zone_map.proofs.Lists.{types_ascend}
use Rattle.zone_denial.specs.TypeLists.{joined}
use Rattle.zone_denial.proofs.InOrder.{in_order_itself}
use Rattle.zone_denial.proofs.Sets.TypesJoined.{numbers}
use Rattle.chain_changes.proofs.entries.nsec_types.Goals as goal

pub returns-clause-ok : goal.returns-clause-ok
returns-clause-ok c =
    let m = c.args.zone.now in
    let n = c.args.name.now in
    ap numbers c.from_vec.ensures
    ∙ c.in_ok-join-2.ensures.ok
    ∙ ap (joined nat_cmp NSEC)
    (c.in_ok-join.ensures.ok
    ∙ ap (joined nat_cmp RRSIG)
    (c.in_ok-types.ensures.ok
    ∙ ap (λ (s : Sets). types_at s c.in_ok-least.least.name) c.as_map.ensures.entries
    ∙ ap (λ (k : RrKey). types_at m k.name) c.in_ok-least.ensures.copy.ok
    ∙ sym (in_order_itself number_order (types_at m n) (types_ascend m n c.as_map.ensures.zone.ordered))))
