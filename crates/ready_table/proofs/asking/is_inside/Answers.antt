use Rattle.std.proofs.Common.{◌≡◌, ◌∙◌, true, sym, subst}
use Rattle.zone_proto.specs.Names.{Name, is_at_or_above}
use Rattle.zone_proto.proofs.Names.NameTree.{is_at_or_above_complete}
use Rattle.ready_table.proofs.asking.is_inside.Goals as goal

pub returns-in-Ok : goal.returns-in-Ok
returns-in-Ok c = λ inside. record {
  above = subst (λ (n : Name). is_at_or_above c.args.origin.now n ≡ true) c.in-Ok.ensures.ok (is_at_or_above_complete c.args.origin.now c.in-Ok.name (c.zone_of.ensures.0 inside));
  no_ds = sym c.eq.ensures ∙ c.if-eq.false;
}
